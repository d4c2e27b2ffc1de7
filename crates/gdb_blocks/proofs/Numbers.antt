-- Which numbers the questions about the blocks of a frame can refuse with.
-- Assumes nothing.
use Rattle.std.proofs.Math.Option.{Option, none, some}
use Rattle.std.specs.Prelude.{ℕ, List, [], ◌∷◌, reverse}
use Rattle.refusals.specs.Refusal.{not_found}
use Rattle.fields.specs.Answer.{Answer}
use Rattle.fields.specs.Refuses.{Refuses, OneOf, refuses_never, refuses_with, refuses_next}
use Rattle.fields.specs.Element.{nth-numbers}
use Rattle.gdb_format.specs.Trace.{Block}
use Rattle.gdb_format.specs.declared.Settings.{Settings}
use Rattle.gdb_frames.specs.Places.{frames_at, blocks_at}
use Rattle.gdb_frames.specs.Questions.{asked}
use Rattle.gdb_frames.specs.Numbers.{question_numbers, asked-numbers}
use Rattle.gdb_blocks.specs.Search.{registers_in, memory_in, in_frame, nth_seen, block_at, registers_at, memory_at, variable_at}
use Rattle.gdb_blocks.specs.Earliest.{or_later, earliest}
use Rattle.gdb_blocks.specs.Latest.{latest}
use Rattle.gdb_blocks.specs.Held.{value_of}

earliest-numbers : {P : ℕ → Type 0} {A B : Type 0} (g : A → Option B) (xs : List A) → P not_found → Refuses P (earliest g xs)
earliest-numbers g [] h = refuses_with h
earliest-numbers {P} {B} g (x ∷ xs) h = by (g x) (earliest-numbers g xs h)
  where
    by : (y : Option B) {later : Answer B} → Refuses P later → Refuses P (or_later y later)
    by none h = h
    by (some y) h = refuses_never

latest-numbers : {P : ℕ → Type 0} {A B : Type 0} (g : A → Option B) (xs : List A) → P not_found → Refuses P (latest g xs)
latest-numbers g xs h = earliest-numbers g (reverse xs) h

module _ (s : Settings) (b : List ℕ) (n : ℕ) where
  in_frame-numbers : {B : Type 0} {q : List (ℕ × Block) → Answer B}
      → ((bs : List (ℕ × Block)) → Refuses (OneOf question_numbers) (q bs)) → Refuses (OneOf question_numbers) (asked s b (in_frame n q))
  in_frame-numbers h = asked-numbers s b _ (λ f t. refuses_next (nth-numbers (frames_at f t) n tt) (λ r. h (blocks_at f r.0 r.1)))

  pub block_record_numbers : (k : ℕ) → Refuses (OneOf question_numbers) (asked s b (block_at n k))
  block_record_numbers k = in_frame-numbers {q = nth_seen k} (λ bs. refuses_next (nth-numbers bs k tt) (λ r. refuses_never))

  pub registers-place-numbers : Refuses (OneOf question_numbers) (asked s b (registers_at n))
  registers-place-numbers = in_frame-numbers (λ bs. earliest-numbers registers_in bs tt)

  pub memory_place-numbers : (a : ℕ) → Refuses (OneOf question_numbers) (asked s b (memory_at n a))
  memory_place-numbers a = in_frame-numbers (λ bs. earliest-numbers (memory_in a) bs tt)

  pub variable_numbers : (v : ℕ) → Refuses (OneOf question_numbers) (asked s b (variable_at n v))
  variable_numbers v = asked-numbers s b _ (λ f t. refuses_next (nth-numbers t.frames n tt) (λ r. latest-numbers (value_of v) r.blocks tt))
