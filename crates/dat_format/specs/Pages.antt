-- The tests of the long size and of the page size let through just those that fit: 4 and 8, and the powers of two from 1,024 to 65,536.
-- Assumes nothing.
use Rattle.std.specs.Prelude.{◌≡◌, refl, Bool, true, false, ◌||◌, ◌↔◌, ℕ, zero, suc, ◌+◌, ◌-◌, ◌^◌, ◌≤◌, eqb}
use Rattle.std.proofs.Common.{ap, ◌∙◌, inl, inr, lt_of_not-le, arith, eqb-true}
use Rattle.std.proofs.Math.Logic.{by_cases}
use Rattle.std.proofs.Math.Nat.{pow-le-pow_right}
use Rattle.std.proofs.Math.Decide.{dec_le}
use Rattle.dat_format.specs.Layout.{LongFits, PageFits}
use Rattle.dat_format.specs.Tests.{is_long, is_page}

pub or_elim : {X : Type 0} (p q : Bool) → p || q ≡ true → (p ≡ true → X) → (q ≡ true → X) → X
or_elim true q e f g = f refl
or_elim false q e f g = g e

pub long-fits : (n : ℕ) → (is_long n ≡ true) ↔ LongFits n
long-fits n = (
  (λ e. or_elim (eqb n 4) (eqb n 8) e (λ t. inl (eqb-true n 4 t)) (λ t. inr (eqb-true n 8 t))),
  elim [ inl e ↦ ap is_long e | inr e ↦ ap is_long e ],
)

-- each power in turn
power : (k : ℕ) → k ≤ 6 → (is_page (2 ^ (10 + k)) ≡ true) × (1024 ≤ 2 ^ (10 + k)) × (2 ^ (10 + k) ≤ 65536)
power zero h = (refl, omega arith, omega arith)
power (suc zero) h = (refl, omega arith, omega arith)
power (suc (suc zero)) h = (refl, omega arith, omega arith)
power (suc (suc (suc zero))) h = (refl, omega arith, omega arith)
power (suc (suc (suc (suc zero)))) h = (refl, omega arith, omega arith)
power (suc (suc (suc (suc (suc zero))))) h = (refl, omega arith, omega arith)
power (suc (suc (suc (suc (suc (suc zero)))))) h = (refl, omega arith, omega arith)
power (suc (suc (suc (suc (suc (suc (suc k))))))) h = absurd (omega arith)

page_then : (n : ℕ) → is_page n ≡ true → PageFits n
page_then n e =
    or_elim (eqb n 1024) _ e (is 0 (omega arith)) (λ e. or_elim (eqb n 2048) _ e (is 1 (omega arith))
    (λ e. or_elim (eqb n 4096) _ e (is 2 (omega arith)) (λ e. or_elim (eqb n 8192) _ e (is 3 (omega arith))
    (λ e. or_elim (eqb n 16384) _ e (is 4 (omega arith)) (λ e. or_elim (eqb n 32768) _ e (is 5 (omega arith))
    (is 6 (omega arith)))))))
  where
    is : (k : ℕ) → k ≤ 6 → eqb n (2 ^ (10 + k)) ≡ true → PageFits n
    is k h t =
        let e = eqb-true n (2 ^ (10 + k)) t in
        let b = power k h in
        (omega (arith, e, b.1), omega (arith, e, b.2), (10 + k, e))

grows : (i j : ℕ) → i ≤ j → 2 ^ i ≤ 2 ^ j
grows i j h = pow-le-pow_right (omega arith) h

-- the exponent is 10 to 16: below it the power is too small, above it too large
pub exponent : (k : ℕ) → 1024 ≤ 2 ^ k → 2 ^ k ≤ 65536 → (10 ≤ k) × (k ≤ 16)
exponent k a b = (
  by_cases (dec_le 10 k) (λ h. h) (λ h. absurd (omega (arith, grows k 9 (omega (arith, lt_of_not-le h))))),
  by_cases (dec_le k 16) (λ h. h) (λ h. absurd (omega (arith, grows 17 k (omega (arith, lt_of_not-le h))))),
)

page_of : (n : ℕ) → PageFits n → is_page n ≡ true
page_of n h =
    let k = h.2.0 in
    let x = exponent k (rw (← h.2.1) h.0) (rw (← h.2.1) h.1) in
    let e : k ≡ 10 + (k - 10) = omega (arith, x.0) in
    ap is_page (h.2.1 ∙ ap (λ k. 2 ^ k) e) ∙ (power (k - 10) (omega (arith, x.1))).0

pub page_fits : (n : ℕ) → (is_page n ≡ true) ↔ PageFits n
page_fits n = (page_then n, page_of n)
