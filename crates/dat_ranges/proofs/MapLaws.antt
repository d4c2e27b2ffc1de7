-- A claim of units, word by word.
-- Assumes nothing.
use Rattle.std.proofs.Common.{◌≡◌, ℕ, ◌+◌, ◌-◌, ◌*◌, ◌/◌, ◌%◌, ◌^◌, ◌<◌, ◌≤◌, Bool, true, false, eqb, ◌↔◌, List, length, get_or, set, sym, refl, ap, ◌∙◌, ap₂, le_refl, lt_of_le_of_lt, lt_of_not-le, arith, length-set, get_or-set_other, get_or-set_same, eqb-true}
use mathlib.Core.Logic.{by_cases}
use native.Mathlib.Decide.{dec_le}
use lib.Bits.{bit_and, bit_or, and_zero_r, or_zero_r, and_le_l, and_le_r}
use Rattle.dat_format.specs.Header.{Range}
use Rattle.dat_format.specs.Units.{InUnit}
use borrow.Author.Tests.{eqb-false}
use Rattle.dat_ranges.specs.Map.{bit, mark, Bits, Claimed, ClaimSays, From}
use Rattle.dat_ranges.proofs.BitLaws.{or_bit, and_bit, zero_bit, or_one, and_one, none-set}

-- where no unit is to be claimed, nothing changes
pub claim_none : (P : ℕ → Type 0) (m : List ℕ) → ((u : ℕ) → P u → ⊥) → Claimed P m m
claim_none P m none = record { words = refl; free = λ u p. absurd (none u p); inside = λ u p. absurd (none u p); outside = λ u o. refl }

-- the units of a range that holds something: from that of its first byte to that of its last
pub range_units : (r : Range) → 0 < r.size → (u : ℕ) → InUnit u r ↔ From (r.offset / 1024) ((r.offset + r.size - 1) / 1024 + 1) u
range_units r some u = (
  (λ i. (omega (arith, i.1, i.2), omega (arith, i.1, i.2))),
  (λ h. by_cases (dec_le r.offset (u * 1024)) (λ l. (u * 1024, (l, omega arith), omega arith))
      (λ l. (r.offset, (omega arith, omega arith), omega (arith, lt_of_not-le l)))),
)

-- the same units, told in another way
pub claims_same : {P Q : ℕ → Type 0} → ((u : ℕ) → Q u ↔ P u) → (r : Bool) (m after : List ℕ) → ClaimSays r P m after → ClaimSays r Q m after
claims_same is true m after c = record {
  words = c.words;
  free = λ u q. c.free u ((is u).0 q);
  inside = λ u q. c.inside u ((is u).0 q);
  outside = λ u o. c.outside u (λ p. o ((is u).1 p));
}
claims_same is false m after c = λ free. c (λ u p. free u ((is u).1 p))

-- ---- a word's marks, after some of its units were claimed

module _ (n : List ℕ) (w : ℕ) (bits : ℕ) where
  abbrev held : ℕ
  held = get_or n w 0

  abbrev after : List ℕ
  after = set n w (bit_or held bits)

  other : (u : ℕ) → (u / 64 ≡ w → ⊥) → mark after u ≡ mark n u
  other u h = ap (bit (u % 64)) (get_or-set_other n w (u / 64) (bit_or held bits) 0 h)

  -- unit u is in the word
  module _ (u : ℕ) (e : u / 64 ≡ w) where
    own : mark n u ≡ bit (u % 64) held
    own = ap (λ w. bit (u % 64) (get_or n w 0)) e

    joined : w < length n → mark after u ≡ bit_or (mark n u) (bit (u % 64) bits)
    joined l =
        ap (λ v. bit (u % 64) (get_or after v 0)) e ∙ ap (bit (u % 64)) (get_or-set_same n w (bit_or held bits) 0 l)
        ∙ or_bit (u % 64) held bits ∙ ap (λ x. bit_or x (bit (u % 64) bits)) (sym own)

    marked : w < length n → bit (u % 64) bits ≡ 1 → mark after u ≡ 1
    marked l b = joined l ∙ ap (bit_or (mark n u)) b ∙ or_one (u % 64) (get_or n (u / 64) 0)

    unchanged : w < length n → bit (u % 64) bits ≡ 0 → mark after u ≡ mark n u
    unchanged l b = joined l ∙ ap (bit_or (mark n u)) b ∙ or_zero_r (mark n u)

    was_free : bit_and held bits ≡ 0 → bit (u % 64) bits ≡ 1 → mark n u ≡ 0
    was_free z b =
        own ∙ sym (and_one (u % 64) held) ∙ ap (bit_and (bit (u % 64) held)) (sym b) ∙ sym (and_bit (u % 64) held bits)
        ∙ ap (bit (u % 64)) z ∙ zero_bit (u % 64)

-- ---- the units from a on, up to word w, are claimed, and the next ones, up to e, are in that word

module _ (w : ℕ) {a e bits : ℕ} {m n : List ℕ} (done : Claimed (From a (64 * w)) m n) (b : Bits (64 * w) a e bits) where
  pub claim_word : e ≤ 64 * w + 64 → 64 * w ≤ e → w < length n → bit_and (get_or n w 0) bits ≡ 0 → Claimed (From a e) m (set n w (bit_or (get_or n w 0) bits))
  claim_word up low l z = record {
    words = length-set n w (bit_or (get_or n w 0) bits) ∙ done.words;
    free = λ u p. by_cases (dec_le (64 * w) u)
        (λ k. sym (done.outside u (λ d. omega arith)) ∙ was_free n w bits u (omega arith) z (b.inside (u % 64) (omega arith) (omega arith) (omega arith)))
        (λ k. done.free u (p.0, lt_of_not-le k));
    inside = λ u p. by_cases (dec_le (64 * w) u)
        (λ k. marked n w bits u (omega arith) l (b.inside (u % 64) (omega arith) (omega arith) (omega arith)))
        (λ k. let k : u < 64 * w = lt_of_not-le k in other n w bits u (λ f. omega arith) ∙ done.inside u (p.0, k));
    outside = λ u o. by_cases (dec_le a u)
        (λ p. by_cases (dec_le e u)
        (λ q. unclaimed u (λ f. b.behind (u % 64) (omega arith) (omega arith)) ∙ done.outside u (λ d. omega arith))
        (λ q. absurd (o (p, lt_of_not-le q))))
        (λ p. let p : u < a = lt_of_not-le p in unclaimed u (λ f. b.before (u % 64) (omega arith) (omega arith)) ∙ done.outside u (λ d. omega arith));
  }
    where
      unclaimed : (u : ℕ) → (u / 64 ≡ w → bit (u % 64) bits ≡ 0) → mark (after n w bits) u ≡ mark n u
      unclaimed u f =
          by_cases (dec_le (u / 64) w)
          (λ p. by_cases (dec_le w (u / 64)) (λ q. let g : u / 64 ≡ w = omega arith in unchanged n w bits u g l (f g))
          (λ q. other n w bits u (λ g. omega (arith, lt_of_not-le q))))
          (λ p. other n w bits u (λ g. omega (arith, lt_of_not-le p)))

  -- where one of them is taken, not all up to a later one were free
  pub claim_taken : {last : ℕ} → e ≤ last → bits < 2 ^ 64 → (bit_and (get_or n w 0) bits ≡ 0 → ⊥)
      → ((u : ℕ) → From a last u → mark m u ≡ 0) → ⊥
  claim_taken {last} up fits taken free =
      taken (none-set 64 (bit_and (get_or n w 0) bits) (lt_of_le_of_lt (and_le_r (get_or n w 0) bits) fits) (λ i l. and_bit i (get_or n w 0) bits ∙ unset i l))
    where
      unset : (i : ℕ) → i < 64 → bit_and (bit i (get_or n w 0)) (bit i bits) ≡ 0
      unset i l =
          by_cases (dec_le a (64 * w + i))
          (λ p. by_cases (dec_le e (64 * w + i)) (λ q. clear (b.behind i l q)) (λ q. ap (λ x. bit_and x (bit i bits)) (free_bit p (lt_of_not-le q))))
          (λ p. clear (b.before i l (lt_of_not-le p)))
        where
          clear : bit i bits ≡ 0 → bit_and (bit i (get_or n w 0)) (bit i bits) ≡ 0
          clear z = ap (bit_and (bit i (get_or n w 0))) z ∙ and_zero_r (bit i (get_or n w 0))

          free_bit : a ≤ 64 * w + i → 64 * w + i < e → bit i (get_or n w 0) ≡ 0
          free_bit p q =
              let f : (64 * w + i) / 64 ≡ w = omega arith in
              let g : (64 * w + i) % 64 ≡ i = omega arith in
              ap₂ (λ v j. bit j (get_or n v 0)) (sym f) (sym g) ∙ done.outside (64 * w + i) (λ d. omega arith) ∙ free (64 * w + i) (p, omega arith)

-- ---- the walk over the words of the units from `first` on: those before `word` are done, and `bits` are the units of `word`

pub record Claiming (first word bits : ℕ) (m n : List ℕ) : Type 0 where
  pub room : length m ≡ 1024
  pub fits : bits < 2 ^ 64
  pub reach : first < 64 * word + 64
  pub done : Claimed (From first (64 * word)) m n
  pub here : Bits (64 * word) first (64 * word + 64) bits

pub claiming_start : (first : ℕ) {bits : ℕ} {m : List ℕ} → length m ≡ 1024 → bits < 2 ^ 64 → Bits 0 (first % 64) 64 bits
    → Claiming first (first / 64) bits m m
claiming_start first {bits} {m} l f b = record {
  room = l;
  fits = f;
  reach = omega arith;
  done = claim_none (From first (64 * (first / 64))) m (λ u p. omega arith);
  here = record {
    inside = λ i k p q. b.inside i k (omega arith) (omega arith);
    before = λ i k p. b.before i k (omega arith);
    behind = λ i k p. absurd (omega arith);
  };
}

module _ {first word bits : ℕ} {m n : List ℕ} (c : Claiming first word bits m n) (k : word < 1024) where
  pub claiming_on : {next : ℕ} {after : List ℕ} → next < 2 ^ 64 → Bits 0 0 64 next → bit_and (get_or n word 0) bits ≡ 0
      → after ≡ set n word (bit_or (get_or n word 0) bits)
      → Claiming first (word + 1) next m after
  claiming_on {next} f b z s =
      let e : 64 * word + 64 ≡ 64 * (word + 1) = omega arith in
      let d = claim_word word c.done c.here (omega arith) (omega arith) (omega (arith, c.room, c.done.words)) z in
      record {
        room = c.room;
        fits = f;
        reach = omega (arith, c.reach);
        done = rw (s, ← e) d;
        here = record {
          inside = λ i k p q. b.inside i k (omega arith) (omega arith);
          before = λ i k p. absurd (omega (arith, c.reach));
          behind = λ i k p. absurd (omega arith);
        };
      }

  -- where one of the word's units is taken, not all up to `last` were free
  pub claiming_stop : {last : ℕ} → 64 * word + 64 ≤ last → (bit_and (get_or n word 0) bits ≡ 0 → ⊥)
      → ((u : ℕ) → From first last u → mark m u ≡ 0) → ⊥
  claiming_stop up = claim_taken word c.done c.here up c.fits

-- the last word, of which the units up to `last` are claimed, itself among them
module _ (last : ℕ) {first bits top : ℕ} {m n : List ℕ} (c : Claiming first (last / 64) bits m n) (b : Bits 0 0 (last % 64 + 1) top) where
  abbrev stop : ℕ
  stop = last / 64

  both : Bits (64 * stop) first (last + 1) (bit_and bits top)
  both = record {
    inside = λ i k p q. and_bit i bits top ∙ ap₂ bit_and (c.here.inside i k p (omega arith)) (b.inside i k (omega arith) (omega arith));
    before = λ i k p. and_bit i bits top ∙ ap (λ x. bit_and x (bit i top)) (c.here.before i k p);
    behind = λ i k p. and_bit i bits top ∙ ap (bit_and (bit i bits)) (b.behind i k (omega arith)) ∙ and_zero_r (bit i bits);
  }

  pub claiming_last : last < 65536 → (r : Bool) {after : List ℕ} → r ≡ eqb (bit_and (get_or n stop 0) (bit_and bits top)) 0
      → after ≡ set n stop (bit_or (get_or n stop 0) (bit_and bits top)) → ClaimSays r (From first (last + 1)) m after
  claiming_last h true e s =
      rw s (claim_word stop c.done both (omega arith) (omega arith) (omega (arith, c.room, c.done.words)) (eqb-true _ 0 (sym e)))
  claiming_last h false e s =
      claim_taken stop c.done both (le_refl (last + 1)) (lt_of_le_of_lt (and_le_l bits top) c.fits) (eqb-false _ 0 (sym e))
