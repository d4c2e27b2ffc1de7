-- What a selection says, in words; and the opposite selection.
-- Assumes nothing.
use Rattle.std.specs.Prelude.{◌≡◌, refl, Bool, true, false, not, ◌&&◌, ◌||◌, ◌↔◌, ◌⊎◌, ℕ, ◌≤◌, List, [], ◌∷◌, leb}
use Rattle.std.specs.Bool.{beq}
use Rattle.std.proofs.Common.{inl, inr, ⊎_elim, le-leb, leb-true}
use Rattle.fields.specs.Lists.{Each, Some, clash}
use Rattle.fields.specs.Word.{and_inv}
use Rattle.gdb_select.specs.Selection.{Selection, in_some, selects, opposite, meaning, in_order, valid, against}
use Rattle.gdb_select.specs.declared.Selection as lent

-- the lent selection that `opposite` answers means the opposite
pub against_means : (s : lent.Selection) → meaning (against s) ≡ opposite (meaning s)
against_means s = refl

beq_not : (k b : Bool) → beq (not k) b ≡ not (beq k b)
beq_not true true = refl
beq_not true false = refl
beq_not false true = refl
beq_not false false = refl

-- the opposite selects just the others
pub selects-other : (c : Selection) (n : ℕ) → selects (opposite c) n ≡ not (selects c n)
selects-other c n = beq_not c.keep (in_some c.ranges n)

-- ---- in words

-- a number lies in a range from low to high, both among its numbers
abbrev pub InRange : ℕ → ℕ × ℕ → Type 0
InRange n r = (r.0 ≤ n) × (n ≤ r.1)

range-says : (n : ℕ) (r : ℕ × ℕ) → (leb r.0 n && leb n r.1 ≡ true) ↔ InRange n r
range-says n r = (
  (λ e. let q = and_inv (leb r.0 n) (leb n r.1) e in (leb-true r.0 n q.0, leb-true n r.1 q.1)),
  λ h. rw (le-leb r.0 n h.0, le-leb n r.1 h.1),
)

or_says : (p q : Bool) → (p || q ≡ true) ↔ ((p ≡ true) ⊎ (q ≡ true))
or_says true q = (λ e. inl refl, λ e. refl)
or_says false q = (λ e. inr e, ⊎_elim (λ e. clash (cc)) (λ e. e))

-- "in some range"
pub in_some-says : (rs : List (ℕ × ℕ)) (n : ℕ) → (in_some rs n ≡ true) ↔ Some (InRange n) rs
in_some-says [] n = (λ e. clash (cc), λ e. absurd e)
in_some-says (r ∷ rs) n =
    let o = or_says (leb r.0 n && leb n r.1) (in_some rs n) in
    let s = range-says n r in
    let m = in_some-says rs n in (
      (λ e. ⊎_elim (λ e. inl (s.0 e)) (λ e. inr (m.0 e)) (o.0 e)),
      λ h. o.1 (⊎_elim (λ e. inl (s.1 e)) (λ e. inr (m.1 e)) h),
    )

-- "low not above high", of every range
pub in_order-says : (rs : List (ℕ × ℕ)) → (in_order rs ≡ true) ↔ Each (λ r. r.0 ≤ r.1) rs
in_order-says [] = (λ e. tt, λ e. refl)
in_order-says (r ∷ rs) =
    let m = in_order-says rs in (
      (λ e. let q = and_inv (leb r.0 r.1) (in_order rs) e in (leb-true r.0 r.1 q.0, m.0 q.1)),
      λ h. rw (le-leb r.0 r.1 h.0) (m.1 h.1),
    )

-- a selection that a caller may give: 0 to 8 ranges, none with low above high
pub valid-says : (s : lent.Selection) → (valid s ≡ true) ↔ ((s.count ≤ 8) × Each (λ r. r.0 ≤ r.1) (meaning s).ranges)
valid-says s =
    let m = in_order-says (meaning s).ranges in (
      (λ e. let q = and_inv (leb s.count 8) (in_order (meaning s).ranges) e in (leb-true s.count 8 q.0, m.0 q.1)),
      λ h. rw (le-leb s.count 8 h.0) (m.1 h.1),
    )

-- keep selects the numbers in some range, drop the others
pub keep-says : (rs : List (ℕ × ℕ)) (n : ℕ) → (selects (record { keep = true; ranges = rs }) n ≡ true) ↔ Some (InRange n) rs
keep-says rs n = let m = in_some-says rs n in (λ e. m.0 (beq_true (in_some rs n) e), λ h. rw (m.1 h))
  where
    beq_true : (b : Bool) → beq true b ≡ true → b ≡ true
    beq_true true e = refl
    beq_true false e = e
