-- Which numbers the questions about lines and frames can refuse with: a file's own, and 12 where the thing that was asked for is not there.
-- Assumes nothing.
use Rattle.std.specs.Prelude.{ℕ, List, [], ◌∷◌, ◌++◌}
use Rattle.refusals.specs.Refusal.{not_found}
use Rattle.fields.specs.Lists.{Each}
use Rattle.fields.specs.Answer.{Answer}
use Rattle.fields.specs.Refuses.{Refuses, OneOf, refuses_never, refuses_next, refuses_in}
use Rattle.fields.specs.Element.{nth-numbers}
use Rattle.gdb_format.specs.Trace.{Trace}
use Rattle.gdb_format.specs.Numbers.{file_numbers, file-numbers}
use Rattle.gdb_format.specs.declared.Settings.{Settings}
use Rattle.gdb_format.specs.declared.Format.{Format}
use Rattle.gdb_frames.specs.Places.{lines_at, frames_at}
use Rattle.gdb_frames.specs.Questions.{asked, frame_count, end_mark, frame_row, frame_data, line_at}
use Rattle.gdb_frames.specs.Located.{frame_located}

-- a file's, and 12
abbrev pub question_numbers : List ℕ
question_numbers = file_numbers ++ not_found ∷ []

module _ {P : ℕ → Type 0} where
  pub asked-numbers : {B : Type 0} {q : Format → Trace → Answer B} (s : Settings) (b : List ℕ)
      → Each P file_numbers → ((f : Format) (t : Trace) → Refuses P (q f t)) → Refuses P (asked s b q)
  asked-numbers s b h g = refuses_next (refuses_in file_numbers h (file-numbers s b)) (λ r. g r.0 r.1)

  frame-row-numbers : (n : ℕ) (f : Format) (t : Trace) → P not_found → Refuses P (frame_row n f t)
  frame-row-numbers n f t h = refuses_next (nth-numbers (frames_at f t) n h) (λ r. refuses_never)

  pub frame_data-numbers : (n : ℕ) (f : Format) (t : Trace) → P not_found → Refuses P (frame_data n f t)
  frame_data-numbers n f t h = refuses_next (frame-row-numbers n f t h) (λ r. refuses_never)

-- ---- the questions

module _ (s : Settings) (b : List ℕ) where
  pub frame-count-numbers : Refuses (OneOf file_numbers) (asked s b frame_count)
  frame-count-numbers = asked-numbers s b _ (λ f t. refuses_never)

  pub end-mark-numbers : Refuses (OneOf file_numbers) (asked s b end_mark)
  end-mark-numbers = asked-numbers s b _ (λ f t. refuses_never)

  pub locate_numbers : (n : ℕ) → Refuses (OneOf question_numbers) (asked s b (frame_located n))
  locate_numbers n = asked-numbers s b _ (λ f t. refuses_next (frame-row-numbers n f t tt) (λ r. refuses_never))

  pub line-place-numbers : (j : ℕ) → Refuses (OneOf question_numbers) (asked s b (line_at j))
  line-place-numbers j = asked-numbers s b _ (λ f t. refuses_next (nth-numbers (lines_at t) j tt) (λ r. refuses_never))
