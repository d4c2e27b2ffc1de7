-- Which numbers the questions about a pair can refuse with: the join's, with 12 in place of 11.
-- Assumes nothing.
use Rattle.std.specs.Prelude.{ℕ, ◌-◌, List, [], ◌∷◌, ◌++◌, ltb}
use Rattle.std.proofs.Math.ListN.{length}
use Rattle.refusals.specs.Refusal.{not_found}
use Rattle.fields.specs.Refuses.{Refuses, OneOf, refuses_never, refuses_cond, refuses_next, refuses_in}
use Rattle.gdb_format.specs.Numbers.{file_numbers, file-numbers}
use Rattle.gdb_format.specs.declared.Settings.{Settings}
use Rattle.gdb_frames.specs.Numbers.{question_numbers, frame_data-numbers}
use Rattle.gdb_blocks.proofs.Numbers.{variable_numbers}
use Rattle.gdb_join.specs.Numbers.{joinable_numbers, joined_numbers}
use Rattle.gdb_pair.specs.Pair.{pair_place, pair_variable}

-- a file's, 13 and 12
abbrev pub pair_numbers : List ℕ
pair_numbers = joinable_numbers ++ not_found ∷ []

module _ (s : Settings) (a b : List ℕ) (n : ℕ) where
  pub pair-place-numbers : Refuses (OneOf pair_numbers) (pair_place s a b n)
  unfolding pair_place
  pair-place-numbers =
      refuses_next (refuses_in joinable_numbers _ (joined_numbers s a b)) (λ c.
      refuses_next (refuses_in file_numbers _ (file-numbers s a)) (λ p. refuses_next (refuses_in file_numbers _ (file-numbers s b)) (λ q.
      refuses_cond (ltb n (length p.1.frames))
      (refuses_next (frame_data-numbers n p.0 p.1 tt) (λ r. refuses_never))
      (refuses_next (frame_data-numbers (n - length p.1.frames) p.0 q.1 tt) (λ r. refuses_never)))))

  pub pair_variable-numbers : (v : ℕ) → Refuses (OneOf pair_numbers) (pair_variable s a b n v)
  unfolding pair_variable
  pair_variable-numbers v =
      refuses_next (refuses_in joinable_numbers _ (joined_numbers s a b)) (λ c. refuses_in question_numbers _ (variable_numbers s c n v))
