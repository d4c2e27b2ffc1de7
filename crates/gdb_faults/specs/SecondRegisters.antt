-- C-20: "A broken stub collected registers twice. Refuse such a frame." "24, a second `R` block, after 8 and ahead of 10 and 9".
-- Data are refused with 24 just where the letter `R` stands behind blocks that fit, one of which is a register block; a file just where such data do.
-- Assumes nothing.
use Rattle.std.specs.Prelude.{◌≡◌, ◌↔◌, Bool, true, cond, ◌&&◌, ◌||◌, ℕ, zero, suc, ◌+◌, ◌<◌, ◌≤◌, length, eqb}
use Rattle.std.proofs.Math.Path.{refl, ap, subst}
use Rattle.std.proofs.Common.{sym, ◌∙◌, le_refl, arith, length-append, eqb-true}
use Rattle.std.proofs.Math.Bool.{false}
use Rattle.std.proofs.Math.Option.{Option}
use mathlib.Core.List.{List, [], ◌∷◌, ◌++◌, append_assoc}
use Rattle.refusals.specs.Refusal.{limit, second_registers}
use Rattle.fields.specs.Lists.{concat_map, Each, one, count, first-counts, first_then}
use Rattle.fields.specs.Number.{Bytes, bytes-front, bytes_back}
use Rattle.fields.specs.Word.{same_bytes, same_bytes_lem}
use Rattle.fields.specs.Answer.{Answer, accepted, refused, never, next, refused_inv, refused-one}
use Rattle.fields.specs.Reader.{refuse, to_end_after}
use Rattle.fields.specs.Takes.{after-nil, after_step}
use Rattle.gdb_format.specs.Trace.{Block, is_registers, Frame, put_block, put_data, mark}
use Rattle.gdb_format.specs.Layout.{BlockFits}
use Rattle.gdb_format.specs.Settings.{settings_of}
use Rattle.gdb_format.specs.Decode.{block_of, block_after, seen_after, frame_head, blocks, frame, frames, decode, read}
use Rattle.gdb_format.specs.ExactBlock.{FitsAfter, exact_block-after, shorter-block-after, letter_read}
use Rattle.gdb_format.specs.ExactFrame.{HeadFits, exact_head, data_bytes, zeros-frame, frames-fault}
use Rattle.gdb_format.specs.FrameBytes.{frame-long}
use Rattle.gdb_format.specs.Numbers.{content_numbers_lem, head-numbers}
use Rattle.gdb_format.specs.declared.Settings.{Settings}
use Rattle.gdb_format.specs.declared.Format.{Format}
use Rattle.gdb_faults.specs.Faults.{Faulty, GivenAt, fault_exactly, file-fault}

-- ---- the data of a frame

-- blocks that fit, and then the letter `R`; with `seen`, which tells of blocks ahead of these, one register block stands before it
pub record SecondLetter (f : Format) (size : Option ℕ) (seen : Bool) (d : List ℕ) : Type 0 where
  pub before : List Block
  pub rest : List ℕ
  pub blocks_fit : Each (BlockFits size) before
  pub one-before : one seen + count is_registers before ≡ 1
  pub laid_out : concat_map (put_block f) before ++ 0x52 ∷ rest ≡ d

module _ (f : Format) (size : Option ℕ) where
  abbrev blocks_after : Bool → List ℕ → Answer (List Block)
  blocks_after seen d = to_end_after (block_after f size) seen_after seen d

  blocks_step : (seen : Bool) (d : List ℕ) → 0 < length d
      → blocks_after seen d ≡ next (block_after f size seen d) (λ r. next (blocks_after (seen_after seen r.0) r.1) (λ l. accepted (r.0 ∷ l)))
  blocks_step = after_step (block_after f size) seen_after (shorter-block-after f size)

  by_letter : (seen : Bool) (x : ℕ) (d : List ℕ)
      → block_after f size seen (x ∷ d) ≡ cond (seen && eqb x 0x52) (refuse second_registers) (block_of f size x) d
  by_letter seen x d = letter_read f size seen (x ∷ d) 0 (omega arith)

  -- ---- such data are refused

  refused-after : (seen : Bool) (before : List Block) (rest : List ℕ) → Each (BlockFits size) before → one seen + count is_registers before ≡ 1
      → blocks_after seen (concat_map (put_block f) before ++ 0x52 ∷ rest) ≡ refused second_registers
  refused-after false [] rest h e = absurd (omega (arith, e))
  refused-after true [] rest h e = blocks_step true (0x52 ∷ rest) (omega arith) ∙ rw (by_letter true 0x52 rest)
  refused-after seen (c ∷ before) rest h e =
      let first = (first_then seen (is_registers c) (count is_registers before) (omega (arith, e))).0 in
      let more = concat_map (put_block f) before ++ 0x52 ∷ rest in
      let i : block_after f size seen (put_block f c ++ more) ≡ accepted (c, more) = (exact_block-after f size seen).back c more (h.0, first) in
      let l : length more < length (put_block f c ++ more) = shorter-block-after f size seen (put_block f c ++ more) c more i in
      ap (blocks_after seen) (append_assoc (put_block f c) (concat_map (put_block f) before) (0x52 ∷ rest))
      ∙ blocks_step seen (put_block f c ++ more) (omega (arith, l))
      ∙ rw (i, refused-after (seen || is_registers c) before rest h.1 (first-counts seen (is_registers c) (count is_registers before) first ∙ e))

  letter_refused : (d b : List ℕ) → SecondLetter f size false d → blocks f size d b ≡ refused second_registers
  unfolding blocks
  letter_refused d b i = rw (← i.laid_out, refused-after false i.before i.rest i.blocks_fit i.one-before)

  -- ---- and no others

  abbrev After : Bool → List ℕ → Type 0
  After seen d = SecondLetter f size seen d

  letter_here : (seen : Bool) (x : ℕ) (d : List ℕ) (t : Bool) → eqb x 0x52 ≡ t
      → cond (seen && t) (refuse second_registers) (block_of f size x) d ≡ refused second_registers → After seen (x ∷ d)
  letter_here true x d true i e =
      record { before = []; rest = d; blocks_fit = tt; one-before = omega arith; laid_out = ap (λ y. y ∷ d) (sym (eqb-true x 0x52 i)) }
  letter_here true x d false i e = absurd (((content_numbers_lem f size x).reading d).only second_registers e)
  letter_here false x d t i e = absurd (((content_numbers_lem f size x).reading d).only second_registers e)

  one_more : (seen : Bool) (d rest : List ℕ) (c : Block) → FitsAfter size seen c × (put_block f c ++ rest ≡ d)
      → After (seen || is_registers c) rest → After seen d
  one_more seen d rest c w i =
      record {
        before = c ∷ i.before;
        rest = i.rest;
        blocks_fit = (w.0.0, i.blocks_fit);
        one-before = sym (first-counts seen (is_registers c) (count is_registers i.before) w.0.1) ∙ i.one-before;
        laid_out =
            append_assoc (put_block f c) (concat_map (put_block f) i.before) (0x52 ∷ i.rest) ∙ ap (λ x. put_block f c ++ x) i.laid_out ∙ w.1;
      }

  after-at : (seen : Bool) (x : ℕ) (d : List ℕ) → Bytes (x ∷ d)
      → ((seen : Bool) (rest : List ℕ) → length rest < length (x ∷ d) → Bytes rest → blocks_after seen rest ≡ refused second_registers → After seen rest)
      → (y : Answer (Block × List ℕ)) → block_after f size seen (x ∷ d) ≡ y
      → next y (λ r. next (blocks_after (seen_after seen r.0) r.1) (λ l. accepted (r.0 ∷ l))) ≡ refused second_registers → After seen (x ∷ d)
  after-at seen x d h more (refused k) i g = letter_here seen x d (eqb x 0x52) refl (sym (by_letter seen x d) ∙ i ∙ ap refused (refused-one g))
  after-at seen x d h more (accepted r) i g =
      let w = (exact_block-after f size seen).forth (x ∷ d) r.0 r.1 h i in
      one_more seen (x ∷ d) r.1 r.0 w
      (more (seen || is_registers r.0) r.1 (shorter-block-after f size seen (x ∷ d) r.0 r.1 i)
      (bytes_back (put_block f r.0) r.1 (rw w.1 h))
      (refused_inv second_registers (blocks_after (seen_after seen r.0) r.1) (λ l. r.0 ∷ l) (sym g)))

  after-count : (n : ℕ) (seen : Bool) (d : List ℕ) → length d < n → Bytes d → blocks_after seen d ≡ refused second_registers → After seen d
  after-count zero seen d l h e = absurd (omega arith)
  after-count (suc n) seen [] l h e = never (sym e ∙ after-nil (block_after f size) seen_after seen)
  after-count (suc n) seen (x ∷ d) l h e =
      after-at seen x d h (λ t rest k. after-count n t rest (omega (arith, l, k))) (block_after f size seen (x ∷ d)) refl
      (sym (blocks_step seen (x ∷ d) (omega arith)) ∙ e)

  -- The data of a frame are refused with 24 exactly where the letter `R` stands behind blocks that fit, one register block among them.
  pub second_exactly : (d b : List ℕ) → Bytes d → (blocks f size d b ≡ refused second_registers) ↔ SecondLetter f size false d
  unfolding blocks
  second_exactly d b h = (
    (λ e. after-count (suc (length d)) false d (le_refl (suc (length d))) h (refused_inv second_registers (blocks_after false d) (λ l. (l, b)) (sym e))),
    letter_refused d b,
  )

-- ---- a frame

-- a frame's head, with data in which such a letter stands
pub record SecondBlock (f : Format) (size : Option ℕ) (b : List ℕ) : Type 0 where
  pub head : ℕ × List ℕ
  pub rest : List ℕ
  pub head-fits : HeadFits head
  pub second : SecondLetter f size false head.1
  pub laid_out : put_data f head ++ rest ≡ b

module _ (f : Format) (size : Option ℕ) where
  -- a frame, by what the reading of its head gives
  abbrev frame_from : Answer ((ℕ × List ℕ) × List ℕ) → Answer (Frame × List ℕ)
  frame_from x = next x (λ r. next (blocks f size r.0.1 r.1) (λ q. accepted (record { tracepoint = r.0.0; blocks = q.0 }, q.1)))

  frame_refused : (b : List ℕ) → SecondBlock f size b → frame f size b ≡ refused second_registers
  unfolding frame
  frame_refused b i =
      let e : frame_head f b ≡ accepted (i.head, i.rest) =
      subst (λ x. frame_head f x ≡ accepted (i.head, i.rest)) i.laid_out ((exact_head f).back i.head i.rest i.head-fits) in
      rw (e, letter_refused f size i.head.1 i.rest i.second)

  -- where the mark stands no frame does
  no-mark : (b : List ℕ) → frame f size b ≡ refused second_registers → same_bytes b mark ≡ false
  no-mark b e = by (same_bytes b mark) refl
    where
      by : (t : Bool) → same_bytes b mark ≡ t → t ≡ false
      by true i =
          let w : frame f size mark ≡ refused second_registers = subst (λ x. frame f size x ≡ refused second_registers) (same_bytes_lem b mark i) e in
          absurd (omega (arith, refused-one (sym (zeros-frame f size (0 ∷ 0 ∷ [])) ∙ w)))
      by false i = refl

  frame-second : (b : List ℕ) → Bytes b → frame f size b ≡ refused second_registers → SecondBlock f size b
  unfolding frame
  frame-second b h e = by (frame_head f b) refl e
    where
      by : (x : Answer ((ℕ × List ℕ) × List ℕ)) → frame_head f b ≡ x → frame_from x ≡ refused second_registers → SecondBlock f size b
      by (refused k) i g = absurd (((head-numbers f).reading b).only second_registers (i ∙ ap refused (refused-one g)))
      by (accepted r) i g =
          let w = (exact_head f).forth b r.0 r.1 h i in
          let d = data_bytes f r.0 (bytes-front (put_data f r.0) r.1 (rw w.1 h)) in
          record {
            head = r.0;
            rest = r.1;
            head-fits = w.0;
            second = (second_exactly f size r.0.1 r.1 d).0 (refused_inv second_registers (blocks f size r.0.1 r.1) _ (sym g));
            laid_out = w.1;
          }

  -- there is something, and it is not the mark
  frames-refused : (b : List ℕ) → SecondBlock f size b → frames f size b ≡ refused second_registers
  frames-refused b i =
      let e = frame_refused b i in
      let l : 0 < length b = omega (arith, ap length i.laid_out, length-append (put_data f i.head) i.rest, frame-long f i.head) in
      frames-fault f size b second_registers l (no-mark b e) e

-- ---- a file

second-given : GivenAt second_registers SecondBlock
second-given =
    record {
      given = frames-refused;
      only = λ f size b h n e. frame-second f size b h e;
      not_ahead = λ e. e;
    }

-- A file within the limit is refused with 24 exactly where, behind its opening and whole frames, such a frame stands.
pub second-file_exactly : (f : Format) (b : List ℕ) → Bytes b → length b ≤ limit → (decode f b ≡ refused second_registers) ↔ Faulty SecondBlock f b
second-file_exactly = fault_exactly second-given

-- the same under the caller's settings
pub file-second : (s : Settings) (b : List ℕ) → Bytes b
    → (read s b ≡ refused second_registers) ↔ ((f : Format) × (settings_of s ≡ accepted f) × (length b ≤ limit) × Faulty SecondBlock f b)
file-second = file-fault second-given
