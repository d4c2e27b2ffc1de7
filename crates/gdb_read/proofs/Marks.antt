-- The end mark at a place, by its length and its number.
-- Assumes nothing.
use mathlib.Core.Path.{◌≡◌, refl, sym, ap, ◌∙◌}
use mathlib.Core.Bool.{Bool, true, false}
use Prim.Native.Nat.{ℕ, ◌-◌}
use mathlib.Core.List.{List}
use lib.ListN.{length, drop, length-drop}
use Rattle.fields.specs.Word.{same_bytes, same_bytes_lem}
use Rattle.gdb_format.specs.Trace.{mark}

not_four : (d : List ℕ) → (length d ≡ 4 → ⊥) → false ≡ same_bytes d mark
not_four d h = by (same_bytes d mark) refl
  where
    by : (t : Bool) → same_bytes d mark ≡ t → false ≡ t
    by true e = absurd (h (ap length (same_bytes_lem d mark e)))
    by false e = refl

module _ (s : List ℕ) (at : ℕ) where
  pub mark-other : (length s - at ≡ 4 → ⊥) → false ≡ same_bytes (drop at s) mark
  mark-other h = not_four (drop at s) (λ e. h (sym (length-drop at s) ∙ e))
