-- What a frame's step answers in each case that the code tells apart: first its head, then its blocks.
-- Assumes nothing.
use mathlib.Core.Path.{◌≡◌, refl, sym, ap, ◌∙◌}
use mathlib.Core.Bool.{false, cond}
use mathlib.Core.Option.{Option, none, some}
use Prim.Native.Nat.{ℕ, ◌+◌, ◌-◌, ◌<◌, ◌≤◌}
use native.Mathlib.Omega.{arith}
use mathlib.Core.List.{List, ◌++◌}
use lib.ListN.{length, take, drop, length-drop}
use lib.Dec.{eqb}
use borrow.Author.Tests.{eq-eqb, ne_eqb}
use Rattle.refusals.specs.Refusal.{short_head, data_past_file, bad_mark}
use Rattle.fields.specs.Lists.{length_part, part-front, part-there, part-lengths}
use Rattle.fields.specs.Number.{Bytes, number, word_at, word_in_lem, bytes_drop, bytes_take}
use Rattle.fields.specs.Answer.{Answer, accepted, refused, refused_inv, next, next_inv}
use Rattle.fields.specs.Reader.{refuse, bytes, step_at, to_end_after}
use Rattle.fields.specs.Exact.{forth-after}
use Rattle.fields.specs.At.{bytes-short, bytes-at, num-short, num-at, step_none, step_fault, step_read, step_end, step_refused, Turn}
use Rattle.gdb_format.specs.Trace.{Block, Frame, data_of}
use Rattle.gdb_format.specs.Decode.{block_after, seen_after, blocks, numbered, frame_head, frame}
use Rattle.gdb_format.specs.ExactBlock.{exact_block-after, shorter-block-after}
use Rattle.gdb_format.specs.FrameBytes.{head_bytes, head-long, head_first}
use Rattle.gdb_format.specs.ExactFrame.{exact_head, takes-head}
use Rattle.fields.specs.declared.Order.{Order}
use Rattle.fields.specs.declared.Order.TheVariants.{Little, Big}
use Rattle.gdb_format.specs.declared.Format.{Format}
use Rattle.gdb_data.specs.Blocks.{blocks_fill}
use Rattle.gdb_read.specs.Steps.{Row, head_seen, frame_seen}

-- ---- the head

-- two bytes are 0 in both orders or in neither
either_zero : (o : Order) (s : List ℕ) (at : ℕ) → word_at Little 2 s at ≡ 0 → word_at o 2 s at ≡ 0
either_zero Little s at e = e
either_zero Big s at e = omega (arith, e)

neither_zero : (o : Order) (s : List ℕ) (at : ℕ) → word_at o 2 s at ≡ 0 → word_at Little 2 s at ≡ 0
neither_zero Little s at e = e
neither_zero Big s at e = omega (arith, e)

module _ (f : Format) (s : List ℕ) (at : ℕ) (h : at < length s) where
  pub head-none : length s - at < 2 → refused short_head ≡ step_at head_seen (frame_head f) s at
  unfolding frame_head
  head-none l = sym (step_fault head_seen (frame_head f) s at short_head h (rw (num-short s at f.order 2 short_head l)))

  -- a number stands there, with n, what its bytes are in little order
  module _ (l : 2 ≤ length s - at) (n : ℕ) (e : n ≡ word_at Little 2 s at) where
    abbrev tracepoint : ℕ
    tracepoint = word_at f.order 2 s at

    head-number : frame_head f (drop at s) ≡ cond (eqb tracepoint 0) (refuse bad_mark) (numbered f tracepoint) (drop (at + 2) s)
    unfolding frame_head
    head-number = rw (num-at s at f.order 2 short_head (omega arith) (omega arith), ← word_in_lem f.order 2 s at (omega arith))

    pub head-zero : n ≡ 0 → refused bad_mark ≡ step_at head_seen (frame_head f) s at
    head-zero z =
        sym (step_fault head_seen (frame_head f) s at bad_mark h (head-number ∙ rw (eq-eqb tracepoint 0 (either_zero f.order s at (sym e ∙ z)))))

    -- which is not 0
    module _ (z : n ≡ 0 → ⊥) where
      pub head-rest : frame_head f (drop at s) ≡ numbered f tracepoint (drop (at + 2) s)
      head-rest = head-number ∙ rw (ne_eqb tracepoint 0 (λ y. z (e ∙ neither_zero f.order s at y)))

      pub head-short : length s - at < 6 → refused short_head ≡ step_at head_seen (frame_head f) s at
      unfolding numbered
      head-short v = sym (step_fault head_seen (frame_head f) s at short_head h (head-rest ∙ rw (num-short s (at + 2) f.order 4 short_head (omega arith))))

-- a number that is not 0, and a size
pub record Sized (f : Format) (s : List ℕ) (at n k : ℕ) : Type 0 where
  pub within : 6 ≤ length s - at
  pub number : n ≡ word_at f.order 2 s at
  pub not_zero : word_at Little 2 s at ≡ 0 → ⊥
  pub size : k ≡ word_at f.order 4 s (at + 2)

module _ {f : Format} {s : List ℕ} {at n k : ℕ} (i : Sized f s at n k) where
  head-size : frame_head f (drop at s) ≡ next (bytes k data_past_file (drop (at + 6) s)) (λ r. accepted ((n, r.0), r.1))
  unfolding numbered
  head-size =
      let l : 6 ≤ length s - at = i.within in
      let six : at + 2 + 4 ≡ at + 6 = omega arith in
      let size : k ≡ number f.order (take 4 (drop (at + 2) s)) = i.size ∙ word_in_lem f.order 4 s (at + 2) (omega (arith, l)) in
      head-rest f s at (omega (arith, l)) (omega (arith, l)) _ refl i.not_zero
      ∙ rw (← i.number, num-at s (at + 2) f.order 4 short_head (omega (arith, l)) (omega (arith, l)), six, ← size)

  pub head-over : length s - (at + 6) < k → refused data_past_file ≡ step_at head_seen (frame_head f) s at
  head-over v =
      sym (step_fault head_seen (frame_head f) s at data_past_file (omega (arith, i.within)) (head-size ∙ rw (bytes-short s (at + 6) k data_past_file v)))

  pub head-whole : k ≤ length s - (at + 6)
      → accepted (some (record { tracepoint = n; place = at + 6; size = k }, at + 6 + k)) ≡ step_at head_seen (frame_head f) s at
  head-whole v =
      let l : 6 ≤ length s - at = i.within in
      sym (step_read head_seen (frame_head f) s at (n, take k (drop (at + 6) s)) (at + 6 + k) (omega (arith, l)) (omega (arith, l, v))
      (head-size ∙ rw (bytes-at s (at + 6) k data_past_file (omega (arith, l)) v))
      ∙ rw (length_part s (at + 6) k (omega (arith, l, v))))

-- ---- from the head to the frame

module _ (f : Format) (size : Option ℕ) (s : List ℕ) (at : ℕ) where
  pub frame-end : accepted none ≡ step_at head_seen (frame_head f) s at → accepted none ≡ step_at (frame_seen f) (frame f size) s at
  frame-end e = sym (step_none (frame_seen f) (frame f size) s at (step_end head_seen (frame_head f) (takes-head f) s at (sym e)))

  pub frame-fault : (n : ℕ) → refused n ≡ step_at head_seen (frame_head f) s at → refused n ≡ step_at (frame_seen f) (frame f size) s at
  unfolding frame
  frame-fault n e =
      let q = step_refused head_seen (frame_head f) (takes-head f) s at n (sym e) in
      sym (step_fault (frame_seen f) (frame f size) s at n q.0 (rw q.1))

  module _ (row : Row) (m : ℕ) (t : Turn head_seen (frame_head f) s at row m) (b : Bytes s) where
    -- the bytes from the head on: its fields, the data, and the rest
    laid_out : head_bytes f t.element ++ (t.element.1 ++ drop m s) ≡ drop at s
    laid_out = head_first f t.element (drop m s) ∙ ((exact_head f).forth (drop at s) t.element (drop m s) (bytes_drop at s b) t.read).1

    place_is : row.place ≡ at + 6
    place_is = ap (λ (r : Row). r.place) (sym t.shown)

    data_there : drop row.place (take m s) ≡ t.element.1
    data_there =
        let d = t.element.1 in
        let a : List ℕ = head_bytes f t.element in
        let six : length a ≡ 6 = head-long f t.element in
        let n : m ≡ at + 6 + length d = omega (arith, part-lengths s at a d (drop m s) laid_out, six, length-drop m s, t.within, t.later) in
        rw (place_is, n) (part-front s (at + 6) (length d) (omega (arith, n, t.within)) ∙ rw six at (part-there s at a d (drop m s) laid_out))

    blocks-there : blocks_fill f size false (drop row.place (take m s)) ≡ blocks_fill f size false t.element.1
    blocks-there = ap (blocks_fill f size false) data_there

    abbrev blocks_in : List ℕ → Answer (List Block)
    blocks_in d = to_end_after (block_after f size) seen_after false d

    pub frame_refused : (n : ℕ) → refused n ≡ blocks_fill f size false (drop row.place (take m s)) → refused n ≡ step_at (frame_seen f) (frame f size) s at
    unfolding frame blocks
    frame_refused n e =
        sym (step_fault (frame_seen f) (frame f size) s at n (omega (arith, t.later, t.within))
        (rw (t.read, refused_inv n (blocks_in t.element.1) (λ bs. tt {0}) (e ∙ blocks-there))))

    frame-read : (bs : List Block) → blocks_in t.element.1 ≡ accepted bs
        → frame f size (drop at s) ≡ accepted (record { tracepoint = t.element.0; blocks = bs }, drop m s)
    unfolding frame blocks
    frame-read bs e = rw (t.read, e)

    data_bytes : Bytes t.element.1
    data_bytes = rw data_there at (bytes_drop row.place (take m s) (bytes_take m s b))

    pub frame-sound : accepted tt ≡ blocks_fill f size false (drop row.place (take m s))
        → accepted (some (row, m)) ≡ step_at (frame_seen f) (frame f size) s at
    frame-sound e =
        let q = next_inv (blocks_in t.element.1) (λ bs. accepted (tt {0})) (sym (e ∙ blocks-there)) in
        let r : Frame = record { tracepoint = t.element.0; blocks = q.0 } in
        let w : data_of f r ≡ t.element.1 =
        (forth-after seen_after (exact_block-after f size) (shorter-block-after f size) false t.element.1 q.0 data_bytes q.1).1 in
        sym (step_read (frame_seen f) (frame f size) s at r m (omega (arith, t.later, t.within)) t.within (frame-read q.0 q.1)
        ∙ ap (λ z. accepted (some (z, m))) (ap (λ d. head_seen at (t.element.0, d)) w ∙ t.shown))
