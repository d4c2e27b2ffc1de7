-- Which numbers a join can refuse with.
-- Assumes nothing.
use Rattle.std.specs.Prelude.{ℕ, List, [], ◌∷◌, ◌++◌, length, leb}
use Rattle.refusals.specs.Refusal.{limit, no_room, openings_differ}
use Rattle.fields.specs.Word.{same_bytes}
use Rattle.fields.specs.Output.{answer}
use Rattle.fields.specs.Refuses.{Refuses, OneOf, refuses_never, refuses_with, refuses_cond, refuses_next, refuses_in, refuses_answer}
use Rattle.gdb_format.specs.Trace.{opening, encode}
use Rattle.gdb_format.specs.Numbers.{file_numbers, file-numbers}
use Rattle.gdb_format.specs.declared.Settings.{Settings}
use Rattle.gdb_join.specs.Join.{join, join_of}
use Rattle.gdb_join.specs.Joined.{pair_seen}

-- a file's, and 13
abbrev pub joinable_numbers : List ℕ
joinable_numbers = file_numbers ++ openings_differ ∷ []

-- and 11
abbrev pub join_numbers : List ℕ
join_numbers = joinable_numbers ++ no_room ∷ []

module _ (s : Settings) (a b : List ℕ) where
  pub joined_numbers : Refuses (OneOf joinable_numbers) (join_of s a b)
  unfolding join_of
  joined_numbers =
      refuses_next (refuses_in file_numbers _ (file-numbers s a)) (λ p. refuses_next (refuses_in file_numbers _ (file-numbers s b)) (λ q.
      refuses_cond (same_bytes (opening p.1.lines) (opening q.1.lines))
      (refuses_cond (leb (length (encode p.0 (join p.1 q.1))) limit) refuses_never (refuses_with tt)) (refuses_with tt)))

  pub joinable_numbers_lem : Refuses (OneOf joinable_numbers) (pair_seen s a b)
  joinable_numbers_lem =
      refuses_next joined_numbers (λ c.
      refuses_next (refuses_in file_numbers _ (file-numbers s a)) (λ p. refuses_next (refuses_in file_numbers _ (file-numbers s b)) (λ q. refuses_never)))

  pub join-numbers : (out : List ℕ) → Refuses (OneOf join_numbers) (answer (join_of s a b) out)
  join-numbers out = refuses_answer out tt (refuses_in joinable_numbers _ joined_numbers)
