-- C-19: the register place in the frame table. An accepted file has a record for every frame; the record's yes or no and its place agree with what the
-- registers question answers: yes exactly where it answers, with its place; no exactly where it gives 12, with the place 0. Where the record says yes, the
-- registers of that frame stand at its place, right behind their letter and as many bytes as the R line says: whoever has the table and the R line needs no
-- question more.
-- Assumes nothing.
use Rattle.std.specs.Prelude.{◌≡◌, refl, ℕ, ◌+◌, List, map, length}
use Rattle.std.proofs.Common.{sym, ap, ◌∙◌, subst, inl, inr}
use Rattle.std.proofs.Math.Option.{some}
use Rattle.refusals.specs.Refusal.{not_found}
use Rattle.fields.specs.Lists.{clash}
use Rattle.fields.specs.Number.{Bytes}
use Rattle.fields.specs.Answer.{Answer, accepted, refused, next, next_inv, accepted-one, accepted_inj, never}
use Rattle.fields.specs.Element.{nth, nth-map}
use Rattle.gdb_format.specs.Trace.{Frame, Trace}
use Rattle.gdb_format.specs.Lines.{register_size}
use Rattle.gdb_format.specs.Decode.{read}
use Rattle.gdb_format.specs.declared.Settings.{Settings}
use Rattle.gdb_format.specs.declared.Format.{Format}
use Rattle.gdb_read.specs.Steps.{Row, frame_seen}
use Rattle.gdb_frames.specs.Places.{frames_at, blocks_at}
use Rattle.gdb_data.specs.Blocks as carried
use Rattle.gdb_frames.specs.Questions.{asked, frame_count, frame_row}
use Rattle.gdb_blocks.specs.Earliest.{earliest, earliest-refused}
use Rattle.gdb_blocks.specs.Held.{registers_of}
use Rattle.gdb_blocks.specs.Search.{registers_in, block_at, registers_at}
use Rattle.gdb_blocks.specs.Shown.{BytesShown}
use Rattle.gdb_blocks.proofs.Shown.{registers_stand, registers-said, letter_before}
use Rattle.gdb_table.specs.declared.FrameRecord.{FrameRecord}
use Rattle.gdb_table.specs.Records.{record_of, record_at, frame_table}
use Rattle.gdb_table.specs.WalkLaws.{records-length}
use Rattle.gdb_table.specs.Agrees.{Agrees}

-- a record that was made with the answer
made-agrees : (v : Row) (x : Answer (ℕ × ℕ)) → ((n : ℕ) → x ≡ refused n → n ≡ not_found) → Agrees x (record_of v x)
made-agrees v (accepted q) h =
    record {
      yes = λ p k e. (refl, (accepted_inj e).0);
      no = λ e. never (sym e);
      yes-only = λ e. (q.1, refl);
      no-only = λ e. clash (sym e);
      either = inl refl;
    }
made-agrees v (refused n) h =
    record {
      yes = λ p k e. never e;
      no = λ e. (refl, refl);
      yes-only = λ e. clash e;
      no-only = λ e. ap refused (h n refl);
      either = inr refl;
    }

-- record n of a trace is made of its frame n
made_of : (f : Format) (t : Trace) (n : ℕ) (r : FrameRecord) → nth (map (record_at f) (frames_at f t)) n ≡ accepted r
    → (x : ℕ × Frame) × (nth (frames_at f t) n ≡ accepted x) × (record_at f x ≡ r)
made_of f t n r e =
    let q = next_inv (nth (frames_at f t) n) (λ x. accepted (record_at f x)) (sym (nth-map (record_at f) (frames_at f t) n) ∙ e) in
    (q.0, q.1, accepted-one q.2)

-- the question about frame n asks that frame
frame-agrees : (f : Format) (t : Trace) (n : ℕ) (r : FrameRecord) → nth (map (record_at f) (frames_at f t)) n ≡ accepted r → Agrees (registers_at n f t) r
frame-agrees f t n r e =
    let q = made_of f t n r e in
    let at = q.0.0 in
    let frame = q.0.1 in
    let x = earliest registers_in (blocks_at f at frame) in
    let same : registers_at n f t ≡ x = ap (λ y. next y (λ r. earliest registers_in (blocks_at f r.0 r.1))) q.1 in
    subst (λ y. Agrees y r) (sym same)
    (subst (Agrees x) q.2 (made-agrees (frame_seen f at frame) x (λ k i. earliest-refused registers_in (blocks_at f at frame) k i)))

-- what frame n shows is in the record
frame_row_lem : (f : Format) (t : Trace) (n : ℕ) (r : FrameRecord) → nth (map (record_at f) (frames_at f t)) n ≡ accepted r
    → frame_row n f t ≡ accepted (record { tracepoint = r.tracepoint; place = r.place; size = r.size })
frame_row_lem f t n r e =
    let q = made_of f t n r e in
    ap (λ y. next y (λ x. accepted (frame_seen f x.0 x.1))) q.1
    ∙ ap (λ (r : FrameRecord). accepted (record { tracepoint = r.tracepoint; place = r.place; size = r.size })) q.2

module _ (s : Settings) (b : List ℕ) (rs : List FrameRecord) (e : asked s b frame_table ≡ accepted rs) where
  -- what holds of the trace that was read and of its records, told of the file and the table
  told : (P : Format → Trace → List FrameRecord → Type 0) → ((f : Format) (t : Trace) → P f t (map (record_at f) (frames_at f t)))
      → (r : Format × Trace) × (read s b ≡ accepted r) × P r.0 r.1 rs
  told P g =
      let q = next_inv (read s b) (λ x. frame_table x.0 x.1) e in
      (q.0, q.1, subst (P q.0.0 q.0.1) (accepted-one q.2) (g q.0.0 q.0.1))

  -- a record for every frame, and no more
  pub record_count : asked s b frame_count ≡ accepted (length rs)
  record_count =
      let q = told (λ f t rs. frame_count f t ≡ accepted (length rs)) (λ f t. ap accepted (sym (records-length f t))) in
      ap (λ y. next y (λ x. frame_count x.0 x.1)) q.1 ∙ q.2

  module _ (n : ℕ) (r : FrameRecord) (i : nth rs n ≡ accepted r) where
    -- its number, place and size are those of frame n
    pub record_row : asked s b (frame_row n) ≡ accepted (record { tracepoint = r.tracepoint; place = r.place; size = r.size })
    record_row =
        let q = told (λ f t rs. nth rs n ≡ accepted r → frame_row n f t ≡ accepted (record { tracepoint = r.tracepoint; place = r.place; size = r.size }))
        (λ f t. frame_row_lem f t n r) in
        ap (λ y. next y (λ x. frame_row n x.0 x.1)) q.1 ∙ q.2 i

    -- its yes or no and its place are those of the registers of frame n
    pub record_agrees : Agrees (asked s b (registers_at n)) r
    record_agrees =
        let q = told (λ f t rs. nth rs n ≡ accepted r → Agrees (registers_at n f t) r) (λ f t. frame-agrees f t n r) in
        subst (λ y. Agrees y r) (sym (ap (λ y. next y (λ x. registers_at n x.0 x.1)) q.1)) (q.2 i)

    -- at the record's place stand the registers of frame n, as many bytes as the R line says
    pub record_shows : Bytes b → r.has_registers ≡ 1
        → (k : ℕ) × (q : BytesShown s b n registers_of r.registers_place k) × (register_size q.format q.trace.lines ≡ some k)
    record_shows h said =
        let a = record_agrees.yes-only said in
        let q = registers_stand s b h n r.registers_place a.0 a.1 in
        (a.0, q, registers-said h q)

    -- right behind the letter of a register block, also where the R line says 0
    pub record_behind : r.has_registers ≡ 1
        → (j : ℕ) × (m : ℕ) × (asked s b (block_at n j) ≡ accepted (m, carried.registers)) × (r.registers_place ≡ m + 1)
    record_behind said = let a = record_agrees.yes-only said in letter_before s b n r.registers_place a.0 a.1
