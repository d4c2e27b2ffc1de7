-- Which numbers a cut can refuse with.
-- Assumes nothing.
use Rattle.std.specs.Prelude.{ℕ, List, [], ◌∷◌, ◌++◌}
use Rattle.refusals.specs.Refusal.{no_room}
use Rattle.fields.specs.Output.{answer}
use Rattle.fields.specs.Refuses.{Refuses, OneOf, refuses_never, refuses_with, refuses_cond, refuses_next, refuses_in, refuses_answer}
use Rattle.gdb_format.specs.Numbers.{file_numbers, file-numbers}
use Rattle.gdb_format.specs.declared.Settings.{Settings}
use Rattle.gdb_select.specs.Selection.{valid}
use Rattle.gdb_cut.specs.Cut.{cut_of}
use Rattle.gdb_select.specs.declared.Selection as lent

-- a file's, and 11
abbrev pub cut_numbers : List ℕ
cut_numbers = file_numbers ++ no_room ∷ []

-- the selection's 2 is the settings' too
pub cut-numbers : (s : Settings) (sel : lent.Selection) (b out : List ℕ) → Refuses (OneOf cut_numbers) (answer (cut_of s sel b) out)
unfolding cut_of
cut-numbers s sel b out =
    refuses_answer out tt (refuses_in file_numbers _
    (refuses_next (refuses_cond (valid sel) refuses_never (refuses_with tt)) (λ c. refuses_next (file-numbers s b) (λ r. refuses_never))))
