-- Units of 1,024 bytes. Every page size is so many units, so that a CPU range that lies in the file starts where a unit starts;
-- of such ranges two share a byte exactly where they share a unit.
-- Assumes nothing.
use Rattle.std.specs.Prelude.{◌≡◌, refl, ◌↔◌, ℕ, ◌+◌, ◌-◌, ◌*◌, ◌/◌, ◌^◌, ◌<◌, ◌≤◌}
use Rattle.std.proofs.Common.{sym, ap, ◌∙◌, mul_assoc, arith, pow-add}
use Rattle.refusals.specs.Refusal.{limit}
use Rattle.dat_format.specs.Header.{Range}
use Rattle.dat_format.specs.Layout.{PageFits, Multiple, LiesInFile, Inside, NoneInBoth}
use Rattle.dat_format.specs.Pages.{exponent}

abbrev pub unit : ℕ
unit = 1024

-- a byte of the range lies in unit u
abbrev pub InUnit : ℕ → Range → Type 0
InUnit u r = (x : ℕ) × Inside x r × (x / unit ≡ u)

-- no unit has bytes of both
abbrev pub NoUnitOfBoth : Range → Range → Type 0
NoUnitOfBoth r q = (u : ℕ) → InUnit u r → InUnit u q → ⊥

-- of a range of size 0 nothing is asked; the others start where a unit starts, and end within the limit
abbrev pub OnUnits : Range → Type 0
OnUnits r = 0 < r.size → Multiple unit r.offset × (r.offset + r.size ≤ limit)

-- ---- a range that lies in the file

page_units : (page n : ℕ) → PageFits page → Multiple page n → Multiple unit n
page_units page n f m =
    let k = f.2.0 in
    let x = exponent k (rw (← f.2.1) f.0) (rw (← f.2.1) f.1) in
    let e : k ≡ (k - 10) + 10 = omega (arith, x.0) in
    let p : page ≡ 2 ^ (k - 10) * unit = f.2.1 ∙ ap (λ k. 2 ^ k) e ∙ pow-add 2 (k - 10) 10 in
    (m.0 * 2 ^ (k - 10), m.1 ∙ ap (λ p. m.0 * p) p ∙ sym (mul_assoc m.0 (2 ^ (k - 10)) unit))

pub on_units : (page end total : ℕ) → PageFits page → total ≤ limit → (r : Range) → LiesInFile page end total r → OnUnits r
on_units page end total f h r lies some = let q = lies some in (page_units page r.offset f q.0, omega arith)

-- ---- bytes and units

-- the first byte of a unit lies in a range that has any byte of it
first_byte : (r : Range) → OnUnits r → (u : ℕ) → InUnit u r → Inside (u * unit) r
first_byte r on u i =
    let m = on (omega (arith, i.1)) in
    (omega (arith, i.1, i.2, m.0.1), omega (arith, i.1, i.2))

pub share_unit : (r q : Range) → OnUnits r → OnUnits q → NoneInBoth r q ↔ NoUnitOfBoth r q
share_unit r q f g = (
  (λ none u i j. none (u * unit) (first_byte r f u i) (first_byte q g u j)),
  (λ none x i j. none (x / unit) (x, i, refl) (x, j, refl)),
)
