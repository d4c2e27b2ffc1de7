-- The selection that C gets as the opposite means the opposite of the one that it gave, whatever number it has for `keep`.
-- Assumes nothing.
use Rattle.std.specs.Prelude.{◌≡◌, refl, Bool, true, false, cond, not, eqb}
use Rattle.std.proofs.Common.{ap, ◌∙◌}
use Rattle.gdb_select.specs.Selection.{opposite, meaning, against}
use Rattle.gdb_select.specs.SelectionLaws.{against_means}
use Rattle.gdb_select.specs.declared.Selection as edit
use Rattle.gdb_flat.specs.Flat.{selection_in, flat_selection}
use Rattle.gdb_flat.specs.declared.edits.Selection.{Selection}

sense : (k : Bool) → not (eqb (cond k 1 0) 0) ≡ k
sense true = refl
sense false = refl

-- a selection that C is given and gives back is the same
pub selection_back : (s : edit.Selection) → selection_in (flat_selection s) ≡ s
unfolding flat_selection
selection_back s = rw (sense s.keep)

-- what `tfk_opposite` answers, given back to `tfk_cut`
pub opposite_means : (s : Selection) → meaning (selection_in (flat_selection (against (selection_in s)))) ≡ opposite (meaning (selection_in s))
opposite_means s = ap meaning (selection_back (against (selection_in s))) ∙ against_means (selection_in s)
