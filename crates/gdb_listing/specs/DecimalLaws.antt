-- Decimal digits: one more digit at the end, how many there are, and how they are written.
-- Assumes nothing.
use Rattle.std.specs.Prelude.{◌≡◌, refl, ℕ, zero, suc, ◌+◌, ◌*◌, ◌/◌, ◌%◌, ◌^◌, ◌<◌, ◌≤◌, max, [], ◌∷◌, ◌++◌, length}
use Rattle.std.proofs.Common.{ap, ⊎_elim, mod-eq_of_lt, div-lt_iff_lt-mul, pow-suc, zero-lt-suc, eq-zero-or-pos, arith, length-append}
use Rattle.std.proofs.Math.Nat.{div-eq_of_lt, div-lt_self, max-eq_left}
use Rattle.gdb_read.specs.Steps.{Row}
use Rattle.gdb_listing.specs.Text.{digits_f, decimal, ended, line_of}
use Rattle.gdb_listing.specs.Written.{Wrote, wrote_then}
use Rattle.gdb_listing.specs.declared.Writer.{Writer}

pub digits-count : (k j n : ℕ) → n ≤ k → n ≤ j → digits_f k n ≡ digits_f j n
digits-count zero zero n h i = refl
digits-count zero (suc j) zero h i = refl
digits-count zero (suc j) (suc m) h i = absurd (omega arith)
digits-count (suc k) zero zero h i = refl
digits-count (suc k) zero (suc m) h i = absurd (omega arith)
digits-count (suc k) (suc j) zero h i = refl
digits-count (suc k) (suc j) (suc m) h i =
    let d : suc m / 10 < suc m = div-lt_self (omega arith) (omega arith) in
    ap (λ l. l ++ (0x30 + suc m % 10) ∷ []) (digits-count k j (suc m / 10) (omega arith) (omega arith))

pub decimal-one : (n : ℕ) → n < 10 → decimal n ≡ (0x30 + n) ∷ []
unfolding decimal
decimal-one n h = rw (div-eq_of_lt h, mod-eq_of_lt h) (ap (λ l. l ++ (0x30 + n) ∷ []) (none n))
  where
    none : (k : ℕ) → digits_f k 0 ≡ []
    none zero = refl
    none (suc k) = refl

-- the digits of a number that is not 0 are its decimal digits
digits-some : (k n : ℕ) → 0 < n → n ≤ k → digits_f k n ≡ decimal n
unfolding decimal
digits-some zero n h i = absurd (omega arith)
digits-some (suc k) zero h i = absurd (omega arith)
digits-some (suc k) (suc m) h i =
    let d : suc m / 10 < suc m = div-lt_self (omega arith) (omega arith) in
    ap (λ l. l ++ (0x30 + suc m % 10) ∷ []) (digits-count k (suc m) (suc m / 10) (omega arith) (omega arith))

pub decimal_more : (n : ℕ) → 10 ≤ n → decimal n ≡ decimal (n / 10) ++ (0x30 + n % 10) ∷ []
unfolding decimal
decimal_more n h =
    let d : n / 10 < n = div-lt_self (omega arith) (omega arith) in
    ap (λ l. l ++ (0x30 + n % 10) ∷ []) (digits-some n (n / 10) (omega arith) (omega arith))

few : (k n : ℕ) → n / 10 ≡ 0 → length (decimal n) ≤ suc (suc k)
few k n z = omega (arith, ap length (decimal-one n (omega arith)))

more : (k n : ℕ) → length (decimal (n / 10)) ≤ suc k → 0 < n / 10 → length (decimal n) ≤ suc (suc k)
more k n i l = omega (arith, ap length (decimal_more n (omega arith)), length-append (decimal (n / 10)) ((0x30 + n % 10) ∷ []))

-- a number below 10 ^ (k + 1) has at most k + 1 digits
pub decimal-long : (k n : ℕ) → n < 10 ^ suc k → length (decimal n) ≤ suc k
decimal-long zero n h = omega (arith, ap length (decimal-one n h))
decimal-long (suc k) n h =
    let d : n / 10 < 10 ^ suc k = (div-lt_iff_lt-mul (zero-lt-suc 9)).1 (rw (pow-suc 10 (suc k)) at h) in
    ⊎_elim (few k n) (more k n (decimal-long k (n / 10) d)) (eq-zero-or-pos (n / 10))

-- a number of 64 bits has at most 20 digits
pub decimal-word : (n : ℕ) → n < 2 ^ 64 → length (decimal n) ≤ 20
decimal-word n h = decimal-long 19 n (omega arith)

ten_above : (k : ℕ) → 0 < 10 ^ k
ten_above zero = omega arith
ten_above (suc k) = omega (arith, pow-suc 10 k, ten_above k)

-- a number from 10 ^ k to below 10 ^ (k + 1) has k + 1 digits
decimal-digits : (k n : ℕ) → 10 ^ k ≤ n → n < 10 ^ suc k → length (decimal n) ≡ suc k
decimal-digits zero n h i = ap length (decimal-one n i)
decimal-digits (suc k) n h i =
    let p : 0 < 10 ^ k = ten_above k in
    let e : 10 ^ suc k ≡ 10 ^ k * 10 = pow-suc 10 k in
    let g : 10 ^ suc (suc k) ≡ 10 ^ suc k * 10 = pow-suc 10 (suc k) in
    let d = decimal-digits k (n / 10) (omega (arith, e, h)) (omega (arith, g, i)) in
    omega (arith, d, ap length (decimal_more n (omega (arith, e, h, p))), length-append (decimal (n / 10)) ((0x30 + n % 10) ∷ []))

-- by the logarithm, which 0 has none of
pub digits-log : (k n m : ℕ) → m ≡ max n 1 → 10 ^ k ≤ m → m < 10 * 10 ^ k → k + 1 ≡ length (decimal n)
digits-log zero zero m e h i = omega (arith, ap length (decimal-one 0 (omega arith)))
digits-log (suc k) zero m e h i = let o : max 0 1 ≡ 1 = refl in absurd (omega (arith, e, o, h, pow-suc 10 k, ten_above k))
digits-log k (suc j) m e h i =
    let o : max (suc j) 1 ≡ suc j = max-eq_left (omega arith) in
    omega (arith, decimal-digits k (suc j) (omega (arith, e, o, h)) (omega (arith, e, o, i, pow-suc 10 k)))

-- ---- a number written, digit by digit

module _ (at n size : ℕ) (h : at + length (decimal n) ≤ size) where
  pub one-room : n < 10 → at < size
  one-room l = omega (arith, ap length (decimal-one n l))

  pub more_room : 10 ≤ n → at + length (decimal (n / 10)) < size
  more_room l = omega (arith, ap length (decimal_more n l), length-append (decimal (n / 10)) ((0x30 + n % 10) ∷ []))

pub wrote_one : {a b : Writer} {n : ℕ} → n < 10 → Wrote a ((0x30 + n % 10) ∷ []) b → Wrote a (decimal n) b
wrote_one {a} {b} {n} h p = let m : n % 10 ≡ n = mod-eq_of_lt h in rw (decimal-one n h) (rw m at p)

pub wrote_more : {a m b : Writer} {n : ℕ} → 10 ≤ n → Wrote a (decimal (n / 10)) m → Wrote m ((0x30 + n % 10) ∷ []) b → Wrote a (decimal n) b
wrote_more {n = n} h p q = rw (decimal_more n h) (wrote_then p q)

-- ---- a line

pub ended-length : (n b : ℕ) → length (ended n b) ≡ length (decimal n) + 1
unfolding ended
ended-length n b = length-append (decimal n) (b ∷ [])

pub wrote_ended : {a m b : Writer} (n e : ℕ) → Wrote a (decimal n) m → Wrote m (e ∷ []) b → Wrote a (ended n e) b
unfolding ended
wrote_ended n e p q = wrote_then p q

pub line-length : (r : Row) → length (line_of r) ≡ length (ended r.tracepoint 0x20) + length (ended r.place 0x20) + length (ended r.size 0x0A)
unfolding line_of
line-length r =
    let b = ended r.place 0x20 in
    let c = ended r.size 0x0A in
    omega (arith, length-append (ended r.tracepoint 0x20) (b ++ c), length-append b c)

-- three numbers, each with the byte that ends it
pub line-digits : (r : Row) → length (line_of r) ≡ length (decimal r.tracepoint) + length (decimal r.place) + length (decimal r.size) + 3
line-digits r = omega (arith, line-length r, ended-length r.tracepoint 0x20, ended-length r.place 0x20, ended-length r.size 0x0A)

pub wrote_line : {a b c d : Writer} (r : Row) → Wrote a (ended r.tracepoint 0x20) b → Wrote b (ended r.place 0x20) c → Wrote c (ended r.size 0x0A) d
    → Wrote a (line_of r) d
unfolding line_of
wrote_line r p q s = wrote_then p (wrote_then q s)

-- a number below 100,000 has at most five digits
pub ended-short : (n b : ℕ) → n < 100000 → length (ended n b) ≤ 6
ended-short n b h = omega (arith, ended-length n b, decimal-long 4 n h)

pub line-short : (r : Row) → r.tracepoint < 100000 → r.place < 100000 → r.size < 100000 → length (line_of r) ≤ 18
line-short r a b c = omega (arith, line-length r, ended-short r.tracepoint 0x20 a, ended-short r.place 0x20 b, ended-short r.size 0x0A c)
