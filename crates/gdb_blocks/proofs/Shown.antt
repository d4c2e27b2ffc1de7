-- What is answered about blocks is what the trace holds (Held.antt). At the place and of the length that are answered stand the block's own bytes, none of them
-- early or late; at the place of a block's record stands the block. So it is for every file, frame and address, and for all settings: in both byte orders.
-- A reader that starts a register block sixteen bytes late, and so shows v1 where v0 should be, answers against `registers_stand` and `piece_shown`.
-- Assumes nothing.
use Rattle.std.specs.Prelude.{◌≡◌, ℕ, ◌+◌, ◌≤◌, ◌↔◌, List, ◌++◌, length, take, drop, refl}
use Rattle.std.proofs.Common.{sym, ap, ◌∙◌, arith, take_at}
use Rattle.std.proofs.Math.Option.{Option, some}
use Rattle.refusals.specs.Refusal.{not_found}
use Rattle.fields.specs.Lists.{clash, piece-there}
use Rattle.fields.specs.Number.{Bytes}
use Rattle.fields.specs.Answer.{Answer, accepted, refused, next, next_inv, accepted_inj}
use Rattle.fields.specs.Element.{nth, each-nth}
use Rattle.gdb_format.specs.Trace.{Block, registers, memory, variable, Frame, Trace, opening, put_block, put_frame}
use Rattle.gdb_format.specs.Lines.{register_size}
use Rattle.gdb_format.specs.Layout.{BlockFits}
use Rattle.gdb_format.specs.Decode.{read}
use Rattle.gdb_format.specs.declared.Settings.{Settings}
use Rattle.gdb_format.specs.declared.Format.{Format}
use Rattle.gdb_data.specs.Blocks as carried
use Rattle.gdb_data.specs.Blocks.{Carried, carried_by, block_seen}
use Rattle.gdb_frames.specs.Places.{frames_at, blocks_at}
use Rattle.gdb_frames.specs.Questions.{asked, Handed}
use Rattle.gdb_frames.specs.File.{file_of_lem}
use Rattle.gdb_frames.specs.PlaceLaws.{placed-there, placed-is, data_behind}
use Rattle.gdb_blocks.specs.Search.{registers_in, memory_in, nth_seen, block_at, registers_at, memory_at, variable_at}
use Rattle.gdb_blocks.specs.Earliest.{earliest, earliest-is, earliest-none, earliest-nth}
use Rattle.gdb_blocks.specs.Latest.{latest}
use Rattle.gdb_blocks.proofs.Latest.{latest-none}
use Rattle.gdb_blocks.specs.Held.{registers_of, memory_of, value_of, held_in, Missing, block_held, mapped, named, with_length, or_empty}
use Rattle.gdb_blocks.specs.ShownLaws.{registers-named, registers-there, memory_named, memory_there, named-held, block_held_lem}
use Rattle.gdb_blocks.specs.ShownLaws.{Misses, frame-missing, asked-mapped, refused_alike, part_same}
use Rattle.gdb_blocks.specs.Shown.{shown_fits, BytesShown, BlockStands}

-- ---- an answer and what the trace holds are one, refusals too

module _ (s : Settings) (b : List ℕ) (h : Bytes b) (n : ℕ) where
  -- the registers of frame n: the bytes of its earliest `R` block
  pub registers_shown_lem : mapped (named b) (asked s b (registers_at n)) ≡ mapped with_length (asked s b (held_in n registers_of))
  registers_shown_lem =
      asked-mapped s b h (registers_at n) (held_in n registers_of) (named b) with_length
      (λ f t i. named-held f b t n i registers_in registers_of (registers-named f b))

  -- memory at address a: the bytes of the earliest covering block from a to its end
  pub memory_shown : (a : ℕ) → mapped (named b) (asked s b (memory_at n a)) ≡ mapped with_length (asked s b (held_in n (memory_of a)))
  memory_shown a =
      asked-mapped s b h (memory_at n a) (held_in n (memory_of a)) (named b) with_length
      (λ f t i. named-held f b t n i (memory_in a) (memory_of a) (memory_named f b a))

  -- block k: its kind, with what that kind carries
  pub kind_shown : (k : ℕ) → mapped (λ r. r.1) (asked s b (block_at n k)) ≡ mapped carried_by (asked s b (block_held n k))
  kind_shown k = asked-mapped s b h (block_at n k) (block_held n k) (λ r. r.1) carried_by (λ f t i. block_held_lem f t n k)

  -- ---- the parts that are handed back

  pub registers_handed : (r : List ℕ) → Handed b (asked s b (registers_at n)) r → r ≡ or_empty (asked s b (held_in n registers_of))
  registers_handed r q = q.is-part ∙ part_same b (asked s b (registers_at n)) (asked s b (held_in n registers_of)) registers_shown_lem

  pub memory_handed : (a : ℕ) (r : List ℕ) → Handed b (asked s b (memory_at n a)) r → r ≡ or_empty (asked s b (held_in n (memory_of a)))
  memory_handed a r q = q.is-part ∙ part_same b (asked s b (memory_at n a)) (asked s b (held_in n (memory_of a))) (memory_shown a)

-- ---- where a place and a length are answered

shows : (s : Settings) (b : List ℕ) (n : ℕ) (g : Block → Option (List ℕ)) (p k : ℕ) (x : Answer (ℕ × ℕ))
    → mapped (named b) x ≡ mapped with_length (asked s b (held_in n g)) → x ≡ accepted (p, k) → BytesShown s b n g p k
shows s b n g p k x e i =
    let u = next_inv (asked s b (held_in n g)) (λ d. accepted (with_length d)) (sym e ∙ ap (mapped (named b)) i) in
    let v = next_inv (read s b) (λ r. held_in n g r.0 r.1) u.1 in
    let w = next_inv (nth v.0.1.frames n) _ v.2 in
    let j = accepted_inj u.2 in
    record {
      format = v.0.0;
      trace = v.0.1;
      frame = w.0;
      bytes = u.0;
      was_read = v.1;
      is-frame = w.1;
      is-earliest = (earliest-is g w.0.blocks u.0).0 w.2;
      are_there_lem = sym j.1;
      are_all = j.0;
    }

module _ (s : Settings) (b : List ℕ) (h : Bytes b) (n p k : ℕ) where
  -- where the registers question answers (p, k)
  pub registers_stand : asked s b (registers_at n) ≡ accepted (p, k) → BytesShown s b n registers_of p k
  registers_stand = shows s b n registers_of p k (asked s b (registers_at n)) (registers_shown_lem s b h n)

  -- where the question about memory at a answers (p, k)
  pub memory_stand : (a : ℕ) → asked s b (memory_at n a) ≡ accepted (p, k) → BytesShown s b n (memory_of a) p k
  memory_stand a = shows s b n (memory_of a) p k (asked s b (memory_at n a)) (memory_shown s b h n a)

-- m bytes from byte i of these bytes on. In a register block of 776 bytes, 33 words of 8 and then v0 to v31, v0 is the 16 bytes from byte 264 on.
pub piece_shown : {s : Settings} {b : List ℕ} {n : ℕ} {g : Block → Option (List ℕ)} {p k : ℕ} (q : BytesShown s b n g p k) (i m : ℕ) → i + m ≤ k
    → take m (drop (p + i) b) ≡ take m (drop i q.bytes)
piece_shown {s} {b} {n} {g} {p} {k} q i m h =
    piece-there b q.bytes p i m (ap (λ l. take l (drop p b)) q.are_all ∙ q.are_there_lem) (omega (arith, q.are_all))

-- the registers are as many bytes as the R line says
pub registers-said : {s : Settings} {b : List ℕ} {n p k : ℕ} → Bytes b → (q : BytesShown s b n registers_of p k)
    → register_size q.format q.trace.lines ≡ some k
registers-said h q =
    let size = register_size q.format q.trace.lines in
    let l = q.is-earliest in
    let first = earliest-nth registers_of q.frame.blocks q.bytes l in
    let w = each-nth (BlockFits size) q.frame.blocks (length l.before) l.element (shown_fits h q).2 first in
    fits-size size l.element q.bytes w l.finds ∙ ap some q.are_all
  where
    fits-size : (size : Option ℕ) (x : Block) (d : List ℕ) → BlockFits size x → registers_of x ≡ some d → size ≡ some (length d)
    fits-size size (registers c) d w e = let i : c ≡ d = cc in w ∙ ap (λ l. some (length l)) i
    fits-size size (memory a c) d w e = clash (cc)
    fits-size size (variable m z) d w e = clash (cc)

-- ---- 12 exactly where the frame has no such block, or is not there

module _ (s : Settings) (b : List ℕ) (h : Bytes b) (n : ℕ) (f : Format) (t : Trace) (e : read s b ≡ accepted (f, t)) where
  missing : {A B C : Type 0} (g : Block → Option B) (q : List Block → Answer B) → Misses g q → (x : Answer A) (j : A → C) (k : B → C)
      → mapped j x ≡ mapped k (asked s b (λ f t. next (nth t.frames n) (λ r. q r.blocks))) → (x ≡ refused not_found) ↔ Missing n g t
  missing {B = B} g q misses x j k i =
      let held : Format → Trace → Answer B = λ f t. next (nth t.frames n) (λ r. q r.blocks) in
      let r : asked s b held ≡ held f t = ap (λ y. next y (λ r. held r.0 r.1)) e in
      let a = refused_alike j k x (asked s b held) not_found i in
      let m = frame-missing g q misses n t in
      ((λ z. m.0 (sym r ∙ a.0 z)), (λ z. a.1 (r ∙ m.1 z)))

  pub registers-missing : (asked s b (registers_at n) ≡ refused not_found) ↔ Missing n registers_of t
  registers-missing =
      missing registers_of (earliest registers_of) (earliest-none registers_of) (asked s b (registers_at n)) (named b) with_length (registers_shown_lem s b h n)

  pub memory_missing : (a : ℕ) → (asked s b (memory_at n a) ≡ refused not_found) ↔ Missing n (memory_of a) t
  memory_missing a =
      missing (memory_of a) (earliest (memory_of a)) (earliest-none (memory_of a)) (asked s b (memory_at n a)) (named b) with_length (memory_shown s b h n a)

  pub variable_missing : (v : ℕ) → (asked s b (variable_at n v) ≡ refused not_found) ↔ Missing n (value_of v) t
  variable_missing v = missing (value_of v) (latest (value_of v)) (latest-none (value_of v)) (asked s b (variable_at n v)) (λ x. x) (λ x. x) refl

-- ---- at the place of a block's record stands the block

-- where the question about block k answers the place p and the kind c
pub block-stands : (s : Settings) (b : List ℕ) (n k p : ℕ) (c : Carried) → Bytes b → asked s b (block_at n k) ≡ accepted (p, c) → BlockStands s b n k p c
block-stands s b n k p c h e =
    let u = next_inv (read s b) (λ r. block_at n k r.0 r.1) e in
    let v = next_inv (nth (frames_at u.0.0 u.0.1) n) _ u.2 in
    let w = next_inv (nth (blocks_at u.0.0 v.0.0 v.0.1) k) _ v.2 in
    standing u.0.0 u.0.1 v.0.0 v.0.1 w.0.0 w.0.1 u.1 v.1 w.1 (accepted_inj w.2)
  where
    standing : (f : Format) (t : Trace) (a : ℕ) (r : Frame) (m : ℕ) (x : Block) → read s b ≡ accepted (f, t) → nth (frames_at f t) n ≡ accepted (a, r)
        → nth (blocks_at f a r) k ≡ accepted (m, x) → (m ≡ p) × (carried_by x ≡ c) → BlockStands s b n k p c
    standing f t a r m x e g i j =
        let d = data_behind f b t (file_of_lem s b f t h e) n a r g in
        let q = placed-there (put_block f) b k r.blocks d.0 (a + 6) m x d.1 i in
        let w : drop p b ≡ put_block f x ++ q.0 = ap (λ m. drop m b) (sym j.0) ∙ q.1 in
        record {
          format = f;
          trace = t;
          block = x;
          was_read = e;
          is_block =
              rw (placed-is (put_frame f) t.frames (length (opening t.lines)) n a r g) (placed-is (put_block f) r.blocks (a + 6) k m x i);
          is_kind = j.1;
          is-there = rw w (take_at (put_block f x) q.0 (length (put_block f x)) refl);
          registers-behind = λ d e. registers-there f b p d q.0 (w ∙ ap (λ x. put_block f x ++ q.0) e);
          memory_behind = λ a d e. memory_there f b p a d q.0 (w ∙ ap (λ x. put_block f x ++ q.0) e);
        }

-- ---- registers stand right behind the letter of their block, also where they are no bytes

-- where the registers question answers (p, k), block j of frame n is a register block, and its letter stands right before p
pub letter_before : (s : Settings) (b : List ℕ) (n p k : ℕ) → asked s b (registers_at n) ≡ accepted (p, k)
    → (j : ℕ) × (m : ℕ) × (asked s b (block_at n j) ≡ accepted (m, carried.registers)) × (p ≡ m + 1)
letter_before s b n p k e =
    let u = next_inv (read s b) (λ r. registers_at n r.0 r.1) e in
    let f = u.0.0 in
    let v = next_inv (nth (frames_at f u.0.1) n) (λ r. earliest registers_in (blocks_at f r.0 r.1)) u.2 in
    let bs = blocks_at f v.0.0 v.0.1 in
    let q = (earliest-is registers_in bs (p, k)).0 v.2 in
    let j = length q.before in
    let w = letter q.element.0 q.element.1 q.finds in
    let there : asked s b (block_at n j) ≡ accepted (q.element.0, carried.registers) =
    ap (λ y. next y (λ r. block_at n j r.0 r.1)) u.1 ∙ ap (λ y. next y (λ r. nth_seen j (blocks_at f r.0 r.1))) v.1
    ∙ ap (λ y. next y (λ r. accepted (block_seen r.0 r.1))) (earliest-nth registers_in bs (p, k) q) ∙ ap (λ c. accepted (q.element.0, c)) w.0 in
    (j, q.element.0, there, w.1)
  where
    letter : (m : ℕ) (x : Block) → registers_in (m, x) ≡ some (p, k) → (carried_by x ≡ carried.registers) × (p ≡ m + 1)
    letter m (registers d) e = let i : ◌≡◌ {A = ℕ × ℕ} (m + 1, length d) (p, k) = cc in (refl, sym (ap (λ r. r.0) i))
    letter m (memory a d) e = clash (cc)
    letter m (variable l z) e = clash (cc)
