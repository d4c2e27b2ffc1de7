-- The R line's digits, one by one: what the loop knows, each test of the code, and what the definitions then give.
-- Assumes nothing.
use mathlib.Core.Path.{◌≡◌, ◌∙◌}
use mathlib.Core.Option.{none}
use Prim.Native.Nat.{ℕ, suc, ◌+◌, ◌-◌, ◌*◌, ◌^◌, ◌<◌, ◌≤◌}
use native.Mathlib.Decide.{dec_le}
use mathlib.Core.Logic.{by_cases}
use Rattle.std.specs.Prelude.{Some, None}
use Rattle.std.specs.Prelude.{Option as Optional}
use Rattle.gdb_format.specs.Opening.{below}
use native.Mathlib.Nat.{lt_of_not-le, pow-suc, pow-le-pow_right, mul-le-mul_left}
use native.Mathlib.Omega.{arith}
use mathlib.Core.List.{List}
use lib.ListN.{length, take, drop, get_or, length-drop}
use Rattle.std.proofs.lemmas.List.{get_or-take, get_or-drop}
use borrow.Author.Tests.{le-leb, lt-leb}
use Rattle.fields.specs.Lists.{clash, drop-one}
use Rattle.gdb_format.specs.Settings.{radix}
use Rattle.gdb_format.specs.Lines.{most_digits, digit, numeral, limited, size_of}
use Rattle.gdb_format.specs.LineLaws.{radix_most}
use Rattle.gdb_format.specs.declared.Base.{Base}
use Rattle.gdb_format.specs.declared.Base.TheVariants.{Ten, Sixteen}
use Rattle.gdb_format.specs.declared.Format.{Format}

-- what the code has of a digit: its value, or that it is none of the base
pub digit-some : {base d w : ℕ} → Some w ≡ below base d → (w ≡ d) × (w < base)
digit-some {base} {d} {w} e = by_cases (dec_le base d) (λ h. let z : ◌≡◌ {A = Optional ℕ} (Some w) None = e ∙ rw (le-leb base d h) in clash (cc)) (λ h. let z : ◌≡◌ {A = Optional ℕ} (Some w) (Some d) = e ∙ rw (lt-leb base d (lt_of_not-le h)) in (cc, let q : w ≡ d = cc in rw q (lt_of_not-le h)))

pub digit-none : {base d : ℕ} → None ≡ below base d → base ≤ d
digit-none {base} {d} e = by_cases (dec_le base d) (λ h. h) (λ h. let z : ◌≡◌ {A = Optional ℕ} None (Some d) = e ∙ rw (lt-leb base d (lt_of_not-le h)) in clash (cc))

-- the digits are what stands behind the `R `
pub digit-there : (l : List ℕ) (i : ℕ) → 2 + i < length l → get_or (take (length l - 2) (drop 2 l)) i 0 ≡ get_or l (2 + i) 0
digit-there l i h = get_or-take (length l - 2) (drop 2 l) i 0 (omega arith) ∙ get_or-drop 2 l i 0

-- what the code has of the base: what each place counts, and how many digits an R line may have
pub record BaseOf (f : Format) (base most : ℕ) : Type 0 where
  pub counts : base ≡ radix f.base
  pub digits : most ≡ most_digits f.base

five-digits : (b : Base) → most_digits b ≤ 5
five-digits Ten = omega arith
five-digits Sixteen = omega arith

-- with each digit a number grows to 16 times at most
one_more : (base v w k : ℕ) → base ≤ 16 → w < base → v < 16 ^ k → v * base + w < 16 ^ suc k
one_more base v w k most h e = omega (arith, mul-le-mul_left {m = base} {n = 16} v most, pow-suc 16 k)

-- the digits before k gave v, and with those from k on they give what all give
pub record DigitsRead (base most : ℕ) (l : List ℕ) (v k : ℕ) : Type 0 where
  pub at_least : 3 ≤ length l
  pub at_most : length l - 2 ≤ most
  pub past_word : 2 ≤ k
  pub inside : k ≤ length l
  pub same : numeral base v (drop k l) ≡ numeral base 0 (drop 2 l)
  pub small : v < 16 ^ (k - 2)

module _ {f : Format} {base most : ℕ} (g : BaseOf f base most) {l : List ℕ} {v k : ℕ} (d : DigitsRead base most l v k) where
  abbrev value : ℕ
  value = digit (get_or l k 0)

  -- ---- another digit

  module _ {w : ℕ} (e : w ≡ value) (h : k < length l) (i : w < base) where
    grown : v * base + w < 16 ^ suc (k - 2)
    grown = one_more base v w (k - 2) (rw g.counts (radix_most f.base)) i d.small

    -- five digits at most, and so below 2 ^ 20
    pub stays_small : v * base + w < 16 ^ 5
    stays_small =
        let m : most ≤ 5 = rw g.digits (five-digits f.base) in
        let j : 16 ^ suc (k - 2) ≤ 16 ^ 5 = pow-le-pow_right {n = 16} (omega arith) {i = suc (k - 2)} {j = 5} (omega (arith, d.at_most)) in
        omega (arith, grown)

    pub digit_more : DigitsRead base most l (v * base + w) (k + 1)
    digit_more =
        let j : k + 1 - 2 ≡ suc (k - 2) = omega (arith, d.past_word) in
        let n : numeral base (v * base + w) (drop (k + 1) l) ≡ numeral base v (drop k l) = rw (e, drop-one l k h, lt-leb base value (omega arith)) in
        record {
          at_least = d.at_least;
          at_most = d.at_most;
          past_word = omega (arith, d.past_word);
          inside = omega arith;
          same = n ∙ d.same;
          small = rw j grown;
        }

  -- ---- the answers

  size-form : size_of f l ≡ limited (numeral base v (drop k l))
  size-form =
      let h : 1 ≤ length (drop 2 l) = omega (arith, length-drop 2 l, d.at_least) in
      let j : length (drop 2 l) ≤ most = omega (arith, length-drop 2 l, d.at_most) in
      rw (← g.digits, ← g.counts, le-leb 1 (length (drop 2 l)) h, le-leb (length (drop 2 l)) most j, d.same)

  pub no_digit : k < length l → base ≤ value → none ≡ size_of f l
  no_digit h i = rw (size-form, drop-one l k h, le-leb base value i)
