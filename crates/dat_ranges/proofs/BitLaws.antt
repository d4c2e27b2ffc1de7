-- The bits of a word: of `&` and `|`, and of the words that are all 1 from a bit on or up to one.
-- Assumes nothing.
use Rattle.std.proofs.Common.{◌≡◌, ℕ, zero, suc, ◌+◌, ◌-◌, ◌*◌, ◌/◌, ◌%◌, ◌^◌, ◌<◌, ◌≤◌, sym, refl, ap, ◌∙◌, mod-lt, mul_assoc, arith, pow_mono, pow-add, shr-shr, shr_lt}
use native.Mathlib.Nat.{zero-div, div-eq_of_lt}
use lib.Bits.{bit_and, bit_or, and_shr, and_mod, or_shr, or_mod, shifted_even}
use lib.Pow.{shl-shr, ones_split, ones_lt, high, low, field, mod-mod-pow}
use Rattle.dat_ranges.specs.Map.{bit, Bits}

pub or_bit : (i a b : ℕ) → bit i (bit_or a b) ≡ bit_or (bit i a) (bit i b)
or_bit i a b = ap (λ x. x % 2) (or_shr a b i) ∙ or_mod (a / 2 ^ i) (b / 2 ^ i) 1

pub and_bit : (i a b : ℕ) → bit i (bit_and a b) ≡ bit_and (bit i a) (bit i b)
and_bit i a b = ap (λ x. x % 2) (and_shr a b i) ∙ and_mod (a / 2 ^ i) (b / 2 ^ i) 1

pub zero_bit : (i : ℕ) → bit i 0 ≡ 0
zero_bit i = ap (λ x. x % 2) (zero-div (2 ^ i))

-- ---- a bit beside one that is 1

binary : (P : ℕ → Type 0) → P 0 → P 1 → (x : ℕ) → x < 2 → P x
binary P p q zero h = p
binary P p q (suc zero) h = q
binary P p q (suc (suc x)) h = absurd (omega arith)

module _ (i w : ℕ) where
  two : bit i w < 2
  two = mod-lt (w / 2 ^ i) (omega arith)

  pub or_one : bit_or (bit i w) 1 ≡ 1
  or_one = binary (λ x. bit_or x 1 ≡ 1) refl refl (bit i w) two

  pub and_one : bit_and (bit i w) 1 ≡ bit i w
  and_one = binary (λ x. bit_and x 1 ≡ x) refl refl (bit i w) two

-- ---- a word without a bit is 0

halved : (i w : ℕ) → bit i (w / 2) ≡ bit (suc i) w
halved i w = let e : 1 + i ≡ suc i = omega arith in ap (λ x. x % 2) (shr-shr w 1 i ∙ ap (λ k. w / 2 ^ k) e)

pub none-set : (k w : ℕ) → w < 2 ^ k → ((i : ℕ) → i < k → bit i w ≡ 0) → w ≡ 0
none-set zero w h z = omega arith
none-set (suc k) w h z =
    let e : suc k ≡ k + 1 = omega arith in
    let half : w / 2 ≡ 0 = none-set k (w / 2) (shr_lt k 1 (rw e at h)) (λ i l. halved i w ∙ z (suc i) (omega arith)) in
    omega (arith, z 0 (omega arith))

-- ---- words of ones

abbrev ones : ℕ
ones = 18446744073709551615

-- bit i is below bit k, with so many between them
module _ (i k : ℕ) (h : i < k) where
  abbrev between : ℕ
  between = k - i - 1

  parted : k ≡ (between + 1) + i
  parted = omega arith

  pub ones_bit : bit i (2 ^ k - 1) ≡ 1
  ones_bit =
      ap (λ k. bit i (2 ^ k - 1)) parted
      ∙ ap (λ x. x % 2) (ap (λ x. x / 2 ^ i) (ones_split (between + 1) i) ∙ high (2 ^ (between + 1) - 1) i (ones_lt i))
      ∙ ap (λ x. x % 2) (ones_split between 1) ∙ low (2 ^ between - 1) 1 (ones_lt 1)

  kept : (w : ℕ) → bit i (w % 2 ^ k) ≡ bit i w
  kept w =
      ap (λ k. bit i (w % 2 ^ k)) parted ∙ ap (λ x. x % 2) (field w (between + 1) i) ∙ mod-mod-pow (w / 2 ^ i) between 1

  shifted_out : (w : ℕ) → bit i (w * 2 ^ k) ≡ 0
  shifted_out w =
      let s : k ≡ suc between + i = omega arith in
      let p : w * 2 ^ (suc between + i) ≡ w * 2 ^ suc between * 2 ^ i =
      ap (λ p. w * p) (pow-add 2 (suc between) i) ∙ sym (mul_assoc w (2 ^ suc between) (2 ^ i)) in
      ap (λ k. bit i (w * 2 ^ k)) s ∙ ap (bit i) p ∙ ap (λ x. x % 2) (shl-shr (w * 2 ^ suc between) i) ∙ shifted_even w between

shifted_in : (i k w : ℕ) → k ≤ i → bit i (w * 2 ^ k) ≡ bit (i - k) w
shifted_in i k w h =
    let e : i ≡ k + (i - k) = omega arith in
    ap (λ x. x % 2) (ap (λ i. w * 2 ^ k / 2 ^ i) e ∙ sym (shr-shr (w * 2 ^ k) k (i - k)) ∙ ap (λ x. x / 2 ^ (i - k)) (shl-shr w k))

pub bits_from_lem : (low : ℕ) → low < 64 → Bits 0 low 64 (ones * 2 ^ low % 2 ^ 64)
bits_from_lem low h = record {
  inside = λ i l a b. kept i 64 l (ones * 2 ^ low) ∙ shifted_in i low ones (omega arith) ∙ ones_bit (i - low) 64 (omega arith);
  before = λ i l a. kept i 64 l (ones * 2 ^ low) ∙ shifted_out i low (omega arith) ones;
  behind = λ i l a. absurd (omega arith);
}

pub bits_to_lem : (top : ℕ) → top < 64 → Bits 0 0 (top + 1) (ones / 2 ^ (63 - top))
bits_to_lem top h = record {
  inside = λ i l a b. moved i ∙ ones_bit (63 - top + i) 64 (omega arith);
  before = λ i l a. absurd (omega arith);
  behind = λ i l a. moved i ∙ ap (λ x. x % 2) (div-eq_of_lt (past i a));
}
  where
    moved : (i : ℕ) → bit i (ones / 2 ^ (63 - top)) ≡ bit (63 - top + i) ones
    moved i = ap (λ x. x % 2) (shr-shr ones (63 - top) i)

    past : (i : ℕ) → top + 1 ≤ 0 + i → ones < 2 ^ (63 - top + i)
    past i a =
        let l : 64 ≤ 63 - top + i = omega arith in
        let p : 2 ^ 64 ≤ 2 ^ (63 - top + i) = pow_mono l in
        omega arith
