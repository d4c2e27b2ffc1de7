-- The latest of many: what `latest` finds, and what it means to be the latest. That it finds just that: proofs/Latest.antt.
-- Assumes nothing.
use Rattle.std.specs.Prelude.{◌≡◌, List, ◌∷◌, ◌++◌, reverse}
use Rattle.std.proofs.Math.Option.{Option, none, some}
use Rattle.fields.specs.Lists.{Each}
use Rattle.fields.specs.Answer.{Answer}
use Rattle.gdb_blocks.specs.Earliest.{earliest}

-- what `g` finds in the latest element where it finds something, or 12: the earliest from the end
abbrev pub latest : {A B : Type 0} → (A → Option B) → List A → Answer B
latest g xs = earliest g (reverse xs)

-- y is what `g` finds in the latest element where it finds something: it finds nothing in those after it
pub record Latest {A B : Type 0} (g : A → Option B) (xs : List A) (y : B) : Type 0 where
  pub before : List A
  pub element : A
  pub after : List A
  pub split : xs ≡ before ++ element ∷ after
  pub none_after : Each (λ x. g x ≡ none) after
  pub finds : g element ≡ some y
