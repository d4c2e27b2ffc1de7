-- The reader's tests of the description's lines, against the rules: what an R line says, and that the tests line by line let through just the lines that fit.
-- Assumes nothing.
use Rattle.std.specs.Prelude.{◌≡◌, refl, Bool, true, false, cond, not, ◌&&◌, ◌||◌, ◌↔◌, ◌⊎◌, ℕ, suc, ◌+◌, ◌-◌, ◌*◌, ◌^◌, ◌<◌, ◌≤◌, List, [], ◌∷◌, ◌++◌, length, drop, leb, eqb}
use Rattle.std.proofs.Common.{sym, ap, ◌∙◌, inl, inr, add-mul, mul_assoc, mul-le-mul_right, arith, leb-true, leb-false, le-leb, eqb-true}
use Rattle.std.proofs.Math.Bool.{and-false, or-false}
use Rattle.std.proofs.Math.Option.{Option, none, some, some-injective}
use Rattle.std.proofs.Math.Nat.{pow-zero, pow-succ', pow-le-pow_right}
use Rattle.std.proofs.lemmas.Bool.{lt-leb}
use Rattle.fields.specs.Lists.{Each, Some, EachAfter, one, count, AtMostOne, first_of, first_then, clash}
use Rattle.fields.specs.Word.{starts, and_inv}
use Rattle.gdb_format.specs.Lines.{is_register, is_status, most_digits, between, digit, numeral, limited, size_of, is_some, any_line, may_follow, register_size}
use Rattle.gdb_format.specs.Layout.{NoEnd, IsDigit, Spelled, made, Spells, Form, Says, LineFits, LinesFit}
use Rattle.gdb_format.specs.Settings.{radix}
use Rattle.gdb_format.specs.declared.Base.{Base}
use Rattle.gdb_format.specs.declared.Base.TheVariants.{Ten, Sixteen}
use Rattle.gdb_format.specs.declared.Format.{Format}

-- ---- what an R line says

cond-some : {A : Type 0} (t : Bool) (x : Option A) (a : A) → cond t x none ≡ some a → (t ≡ true) × (x ≡ some a)
cond-some true x a e = (refl, e)
cond-some false x a e = clash (cc)

none_or : {A : Type 0} (t : Bool) (x : Option A) (a : A) → cond t none x ≡ some a → (t ≡ false) × (x ≡ some a)
none_or true x a e = clash (cc)
none_or false x a e = (refl, e)

limited-some : (x : Option ℕ) (n : ℕ) → limited x ≡ some n → (x ≡ some n) × (n ≤ 65535)
limited-some none n e = clash (cc)
limited-some (some v) n e =
    let q = cond-some (leb v 65535) (some v) n e in
    let i : v ≡ n = some-injective _ _ q.1 in
    (q.1, rw (← i) (leb-true v 65535 q.0))

-- ---- a digit is read as it is written

pub radix_most : (b : Base) → radix b ≤ 16
radix_most Ten = omega arith
radix_most Sixteen = omega arith

pub between_in : (low high x : ℕ) → low ≤ x → x ≤ high → between low high x ≡ true
between_in low high x a b = rw (le-leb low x a, le-leb x high b)

pub between-below : (low high x : ℕ) → x < low → between low high x ≡ false
between-below low high x a = rw (lt-leb low x a)

pub between_above : (low high x : ℕ) → high < x → between low high x ≡ false
between_above low high x a = rw (lt-leb x high a) (and-false (leb low x))

between_inv : (low high x : ℕ) → between low high x ≡ true → (low ≤ x) × (x ≤ high)
between_inv low high x e = let q = and_inv (leb low x) (leb x high) e in (leb-true low x q.0, leb-true x high q.1)

module _ (base : ℕ) (most : base ≤ 16) where
  digit-is : (x : ℕ) → digit x < base → IsDigit base x (digit x)
  digit-is x h = by (between 0x30 0x39 x) (between 0x41 0x46 x) (between 0x61 0x66 x) refl refl refl h
    where
      by : (t u w : Bool) → between 0x30 0x39 x ≡ t → between 0x41 0x46 x ≡ u → between 0x61 0x66 x ≡ w
          → cond t (x - 0x30) (cond u (x - 0x41 + 10) (cond w (x - 0x61 + 10) 16)) < base
          → IsDigit base x (cond t (x - 0x30) (cond u (x - 0x41 + 10) (cond w (x - 0x61 + 10) 16)))
      by true u w i j k h = let q = between_inv 0x30 0x39 x i in (h, inl (rw (le-leb (x - 0x30) 9 (omega (arith, q.1))) (omega (arith, q.0))))
      by false true w i j k h = let q = between_inv 0x41 0x46 x j in (h, inr (rw (lt-leb (x - 0x41 + 10) 9 (omega arith)) (omega (arith, q.0))))
      by false false true i j k h = let q = between_inv 0x61 0x66 x k in (h, inl (rw (lt-leb (x - 0x61 + 10) 9 (omega arith)) (omega (arith, q.0))))
      by false false false i j k h = absurd (omega arith)

  is_digit : (x v : ℕ) → IsDigit base x v → digit x ≡ v
  is_digit x v h = by (leb v 9) refl h.1
    where
      low : v ≤ 9 → x ≡ 0x30 + v → digit x ≡ v
      low l e = rw (between_in 0x30 0x39 x (omega arith) (omega arith)) (omega arith)

      by : (t : Bool) → leb v 9 ≡ t → (x ≡ cond t (0x30 + v) (0x61 + (v - 10))) ⊎ (x ≡ cond t (0x30 + v) (0x41 + (v - 10))) → digit x ≡ v
      by true i (inl e) = low (leb-true v 9 i) e
      by true i (inr e) = low (leb-true v 9 i) e
      by false i (inl e) =
          let g : 9 < v = leb-false v 9 i in
          let n : between 0x41 0x46 x ≡ false = between_above 0x41 0x46 x (omega arith) in
          rw (between_above 0x30 0x39 x (omega arith), n, between_in 0x61 0x66 x (omega arith) (omega (arith, h.0))) (omega arith)
      by false i (inr e) =
          let g : 9 < v = leb-false v 9 i in
          rw (between_above 0x30 0x39 x (omega arith), between_in 0x41 0x46 x (omega arith) (omega (arith, h.0))) (omega arith)

  -- ---- and so is a number

  -- a digit more behind v: what was before counts times the base, and the digit by the digits behind it
  place : (v w k m : ℕ) → (v * base + w) * base ^ k + m ≡ v * base ^ suc k + (w * base ^ k + m)
  place v w k m = rw (pow-succ' base k, add-mul (v * base) w (base ^ k), mul_assoc v base (base ^ k)) (omega arith)

  none_more : (v : ℕ) → v * base ^ 0 + 0 ≡ v
  none_more v = rw (pow-zero base) (omega arith)

  -- the bytes are digits, and behind those that gave v they make n
  abbrev Continues : ℕ → List ℕ → ℕ → Type 0
  Continues v d n = (vs : List ℕ) × Spelled base d vs × (v * base ^ length vs + made base vs ≡ n)

  spelled_of : (v n : ℕ) (d : List ℕ) → numeral base v d ≡ some n → Continues v d n
  spelled_of v n [] e = ([], tt, none_more v ∙ some-injective _ _ e)
  spelled_of v n (x ∷ d) e =
      let q = none_or (leb base (digit x)) (numeral base (v * base + digit x) d) n e in
      let r = spelled_of (v * base + digit x) n d q.1 in
      (digit x ∷ r.0, (digit-is x (leb-false base (digit x) q.0), r.1), sym (place v (digit x) (length r.0) (made base r.0)) ∙ r.2)

  of_spelled : (v : ℕ) (d vs : List ℕ) → Spelled base d vs → numeral base v d ≡ some (v * base ^ length vs + made base vs)
  of_spelled v [] [] h = ap some (sym (none_more v))
  of_spelled v [] (w ∷ vs) h = absurd h
  of_spelled v (x ∷ d) [] h = absurd h
  of_spelled v (x ∷ d) (w ∷ vs) h =
      rw (is_digit x w h.0, lt-leb base w h.0.0) (of_spelled (v * base + w) d vs h.1 ∙ ap some (place v w (length vs) (made base vs)))

  number_of : (n : ℕ) (d : List ℕ) → numeral base 0 d ≡ some n → Spells base d n
  number_of n d e = let q = spelled_of 0 n d e in (q.0, q.1, omega (arith, q.2))

  of_number : (n : ℕ) (d : List ℕ) → Spells base d n → numeral base 0 d ≡ some n
  of_number n d s = let i : 0 * base ^ length s.0 + made base s.0 ≡ n = omega (arith, s.2) in of_spelled 0 d s.0 s.1 ∙ ap some i

-- a number is below what a digit more in front of it would count
small : (base : ℕ) (d vs : List ℕ) → Spelled base d vs → made base vs < base ^ length d
small base [] [] h = rw (pow-zero base) (omega arith)
small base [] (w ∷ vs) h = absurd h
small base (x ∷ d) [] h = absurd h
small base (x ∷ d) (w ∷ vs) h =
    let p = base ^ length d in
    let i : length vs ≡ length d = as_many d vs h.1 in
    let m : (w + 1) * p ≤ base * p = mul-le-mul_right {m = w + 1} {n = base} p (omega (arith, h.0.0)) in
    rw (i, pow-succ' base (length d)) (omega (arith, m, add-mul w 1 p, small base d vs h.1))
  where
    as_many : (d vs : List ℕ) → Spelled base d vs → length vs ≡ length d
    as_many [] [] h = refl
    as_many [] (w ∷ vs) h = absurd h
    as_many (x ∷ d) [] h = absurd h
    as_many (x ∷ d) (w ∷ vs) h = ap suc (as_many d vs h.1)

-- four digits of base 16 spell 65,535 at most
four-digits : (d : List ℕ) (n : ℕ) → length d ≤ 4 → Spells 16 d n → n ≤ 65535
four-digits d n h s =
    let j : 16 ^ length d ≤ 16 ^ 4 = pow-le-pow_right {n = 16} (omega arith) {i = length d} {j = 4} h in
    omega (arith, small 16 d s.0 s.1, s.2)

-- the reader's tests of how many digits there are and of the value, and the form
abbrev Tested : Base → ℕ → ℕ → Type 0
Tested b k n = (1 ≤ k) × (k ≤ most_digits b) × (n ≤ 65535)

form_of : (b : Base) (k n : ℕ) → Tested b k n → Form b k n
form_of Ten k n h = h
form_of Sixteen k n h = (h.0, h.1)

of_form : (b : Base) (d : List ℕ) (n : ℕ) → Form b (length d) n → Spells (radix b) d n → Tested b (length d) n
of_form Ten d n h s = h
of_form Sixteen d n h s = (h.0, h.1, four-digits d n h.1 s)

-- the number that is read is the number that the line says
pub size-says : (f : Format) (l : List ℕ) (n : ℕ) → (size_of f l ≡ some n) ↔ Says f l n
size-says f l n = (forth, back)
  where
    forth : size_of f l ≡ some n → Says f l n
    forth e =
        let b = f.base in
        let d = drop 2 l in
        let q = cond-some (leb 1 (length d) && leb (length d) (most_digits b)) (limited (numeral (radix b) 0 d)) n e in
        let r = and_inv (leb 1 (length d)) (leb (length d) (most_digits b)) q.0 in
        let s = limited-some (numeral (radix b) 0 d) n q.1 in (
          form_of b (length d) n (leb-true 1 (length d) r.0, leb-true (length d) (most_digits b) r.1, s.1),
          number_of (radix b) (radix_most b) n d s.0,
        )

    back : Says f l n → size_of f l ≡ some n
    back h =
        let b = f.base in
        let d = drop 2 l in
        let t = of_form b d n h.0 h.1 in
        let m = of_number (radix b) (radix_most b) n d h.1 in
        rw (le-leb 1 (length d) t.0, le-leb (length d) (most_digits b) t.1, m, le-leb n 65535 t.2)

-- ---- which line may follow which

-- a line as it is read, after `before`
abbrev pub Follows : Format → List (List ℕ) → List ℕ → Type 0
Follows f before l = (0 < length l) × NoEnd l × (may_follow f before l ≡ true)

pub any_last : (p : List ℕ → Bool) (before : List (List ℕ)) (l : List ℕ) → any_line p (before ++ l ∷ []) ≡ any_line p before || p l
any_last p [] l = or-false (p l)
any_last p (m ∷ before) l = by (p m) (any_last p before l)
  where
    by : (t : Bool) → any_line p (before ++ l ∷ []) ≡ any_line p before || p l → t || any_line p (before ++ l ∷ []) ≡ t || any_line p before || p l
    by true e = refl
    by false e = e

-- a line of one kind is not of the other
pub one_kind : (l : List ℕ) → is_register l ≡ true → is_status l ≡ false
one_kind [] e = clash (cc)
one_kind (x ∷ l) e = let q = and_inv (eqb 0x52 x) (starts (0x20 ∷ []) l) e in rw (← eqb-true 0x52 x q.0)

-- the test by its parts: an R line, the size that it states, an R line before, a status line, a status line before
abbrev May : Bool → Option ℕ → Bool → Bool → Bool → Type 0
May t z a u b = cond t (is_some z && not a) (cond u (not b) true) ≡ true

-- and what it lets through: an R line says a size and is the first, and so is a status line
abbrev Allowed : Bool → Option ℕ → Bool → Bool → Bool → Type 0
Allowed t z a u b = (t ≡ true → (n : ℕ) × (z ≡ some n)) × (t ≡ true → a ≡ false) × (u ≡ true → b ≡ false)

may_then : (t : Bool) (z : Option ℕ) (a u b : Bool) → (t ≡ true → u ≡ false) → May t z a u b → Allowed t z a u b
may_then true none a u b k e = clash (cc)
may_then true (some n) true u b k e = clash (cc)
may_then true (some n) false u b k e = ((λ i. (n, refl)), (λ i. refl), (λ i. let w : u ≡ false = k refl in clash (cc)))
may_then false z a true true k e = clash (cc)
may_then false z a true false k e = ((λ i. clash (cc)), (λ i. clash (cc)), (λ i. refl))
may_then false z a false b k e = ((λ i. clash (cc)), (λ i. clash (cc)), (λ i. clash (cc)))

may_of : (t : Bool) (z : Option ℕ) (a u b : Bool) → Allowed t z a u b → May t z a u b
may_of true z a u b h = rw ((h.0 refl).1, h.1 refl)
may_of false z a true b h = rw (h.2 refl)
may_of false z a false b h = refl

module _ (f : Format) where
  -- the rules for lines that stand after `before`
  abbrev FitAfter : List (List ℕ) → List (List ℕ) → Type 0
  FitAfter before ls =
      Each (LineFits f) ls × (one (any_line is_register before) + count is_register ls ≤ 1)
      × (one (any_line is_status before) + count is_status ls ≤ 1)

  abbrev Follow : List (List ℕ) → List (List ℕ) → Type 0
  Follow before ls = EachAfter (Follows f) (λ before l. before ++ l ∷ []) before ls

  follow-after : (ls before : List (List ℕ)) → FitAfter before ls → Follow before ls
  follow-after [] before h = tt
  follow-after (l ∷ ls) before h =
      let r = first_then (any_line is_register before) (is_register l) (count is_register ls) h.1 in
      let s = first_then (any_line is_status before) (is_status l) (count is_status ls) h.2 in
      let z : is_register l ≡ true → (n : ℕ) × (size_of f l ≡ some n) = λ t. let q = h.0.0.2 t in (q.0, (size-says f l q.0).1 q.1) in (
        (h.0.0.0, h.0.0.1, may_of (is_register l) (size_of f l) (any_line is_register before) (is_status l) (any_line is_status before) (z, r.0, s.0)),
        follow-after ls (before ++ l ∷ []) (h.0.1, rw (any_last is_register before l) r.1, rw (any_last is_status before l) s.1),
      )

  after-follow : (ls before : List (List ℕ)) → (one (any_line is_register before) ≤ 1) → (one (any_line is_status before) ≤ 1)
      → Follow before ls → FitAfter before ls
  after-follow [] before u v h = (tt, omega arith, omega arith)
  after-follow (l ∷ ls) before u v h =
      let m = may_then (is_register l) (size_of f l) (any_line is_register before) (is_status l) (any_line is_status before) (one_kind l) h.0.2 in
      let g = after-follow ls (before ++ l ∷ []) (at_most (any_line is_register (before ++ l ∷ []))) (at_most (any_line is_status (before ++ l ∷ []))) h.1 in (
        ((h.0.0, h.0.1, λ t. let q = m.0 t in (q.0, (size-says f l q.0).0 q.1)), g.0),
        first_of (any_line is_register before) (is_register l) (count is_register ls) m.1 (rw (any_last is_register before l) at g.1),
        first_of (any_line is_status before) (is_status l) (count is_status ls) m.2 (rw (any_last is_status before l) at g.2),
      )
    where
      at_most : (b : Bool) → one b ≤ 1
      at_most true = omega arith
      at_most false = omega arith

  -- line by line and by the rules: the same lines
  pub fit_follow : (ls : List (List ℕ)) → LinesFit f ls → Follow [] ls
  fit_follow ls h = follow-after ls [] (h.0, omega (arith, h.1), omega (arith, h.2))

  pub follow_fit : (ls : List (List ℕ)) → Follow [] ls → LinesFit f ls
  follow_fit ls h = let g = after-follow ls [] (omega arith) (omega arith) h in (g.0, omega (arith, g.1), omega (arith, g.2))

-- ---- what the R line says

-- an R line among these says n
abbrev pub SaysIn : Format → List (List ℕ) → ℕ → Type 0
SaysIn f ls n = Some (λ l. (is_register l ≡ true) × Says f l n) ls

module _ (f : Format) (n : ℕ) where
  one_line : (ls : List (List ℕ)) → SaysIn f ls n → 1 ≤ count is_register ls
  one_line [] h = absurd h
  one_line (l ∷ ls) (inl h) = rw h.0 (omega arith)
  one_line (l ∷ ls) (inr h) = omega (arith, one_line ls h)

  says_of : (ls : List (List ℕ)) → register_size f ls ≡ some n → SaysIn f ls n
  says_of [] e = clash (cc)
  says_of (l ∷ ls) e = by (is_register l) refl e (says_of ls)
    where
      by : (t : Bool) → is_register l ≡ t → cond t (size_of f l) (register_size f ls) ≡ some n → (register_size f ls ≡ some n → SaysIn f ls n) → SaysIn f (l ∷ ls) n
      by true i e more = inl (i, (size-says f l n).0 e)
      by false i e more = inr (more e)

  of_says : (ls : List (List ℕ)) → AtMostOne is_register ls → SaysIn f ls n → register_size f ls ≡ some n
  of_says [] a h = absurd h
  of_says (l ∷ ls) a h = by (is_register l) refl a h (of_says ls)
    where
      by : (t : Bool) → is_register l ≡ t → one t + count is_register ls ≤ 1 → SaysIn f (l ∷ ls) n
          → (AtMostOne is_register ls → SaysIn f ls n → register_size f ls ≡ some n)
          → cond t (size_of f l) (register_size f ls) ≡ some n
      by true i a (inl h) more = (size-says f l n).1 h.1
      by true i a (inr h) more = absurd (omega (arith, one_line ls h))
      by false i a (inl h) more = let z : true ≡ false = sym h.0 ∙ i in clash (cc)
      by false i a (inr h) more = more (omega arith) h

  -- the size of the register blocks is what the R line says
  pub register_says : (ls : List (List ℕ)) → LinesFit f ls → (register_size f ls ≡ some n) ↔ SaysIn f ls n
  register_says ls h = (says_of ls, of_says ls h.1)
