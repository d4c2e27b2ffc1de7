-- Lists: what the definitions of every format share, and small facts.
-- Assumes nothing.
use Rattle.std.specs.Prelude.{◌≡◌, refl, Bool, true, false, ◌||◌, ◌⊎◌, ℕ, ◌+◌, ◌-◌, ◌<◌, ◌≤◌, List, [], ◌∷◌, ◌++◌, length, take, drop, get_or}
use Rattle.std.proofs.Common.{sym, ap, ◌∙◌, add-one, arith, append_assoc, length-take, length-drop, length-append, take-append-drop, drop-cons, drop-drop, take-add, take_at, drop_at, length-take-le}
use Rattle.std.proofs.lemmas.List.{take-append-le, drop-append-le}

-- the bytes of all elements, one after another
abbrev pub concat_map : {A : Type 0} → (A → List ℕ) → List A → List ℕ
concat_map put [] = []
concat_map put (x ∷ xs) = put x ++ concat_map put xs

-- P holds of every element
abbrev pub Each : {A : Type 0} → (A → Type 0) → List A → Type 0
Each P [] = Unit {0}
Each P (x ∷ xs) = P x × Each P xs

-- the bytes of two runs, one after the other
pub concat_map-append : {A : Type 0} (f : A → List ℕ) (l m : List A) → concat_map f (l ++ m) ≡ concat_map f l ++ concat_map f m
concat_map-append f [] m = refl
concat_map-append f (x ∷ l) m = ap (λ r. f x ++ r) (concat_map-append f l m) ∙ sym (append_assoc (f x) (concat_map f l) (concat_map f m))

pub each_append : {A : Type 0} (P : A → Type 0) (l m : List A) → Each P l → Each P m → Each P (l ++ m)
each_append P [] m h k = k
each_append P (x ∷ l) m h k = (h.0, each_append P l m h.1 k)

pub each_map : {A : Type 0} {P Q : A → Type 0} → ((x : A) → P x → Q x) → (l : List A) → Each P l → Each Q l
each_map f [] h = tt
each_map f (x ∷ l) h = (f x h.0, each_map f l h.1)

-- from a contradiction anything follows
pub clash : {X : Type 0} → ◌≡◌ {A = ℕ} 0 1 → X
clash e = absurd (omega arith)

-- P holds of some element
abbrev pub Some : {A : Type 0} → (A → Type 0) → List A → Type 0
Some P [] = ⊥
Some P (x ∷ xs) = P x ⊎ Some P xs

-- each element fits after those before it: `s` says what was met so far, and `after` with one more
abbrev pub EachAfter : {A S : Type 0} → (S → A → Type 0) → (S → A → S) → S → List A → Type 0
EachAfter F after s [] = Unit {0}
EachAfter F after s (x ∷ xs) = F s x × EachAfter F after (after s x) xs

-- where what was met does not count, each fits by itself
module _ {A : Type 0} (F : A → Type 0) where
  pub each_after : (l : List A) → Each F l → EachAfter (λ s. F) (λ s a. s) (tt {0}) l
  each_after [] h = tt
  each_after (a ∷ l) h = (h.0, each_after l h.1)

  pub after-each : (l : List A) → EachAfter (λ s. F) (λ s a. s) (tt {0}) l → Each F l
  after-each [] h = tt
  after-each (a ∷ l) h = (h.0, after-each l h.1)

-- how many elements pass a test
abbrev pub one : Bool → ℕ
one true = 1
one false = 0

abbrev pub count : {A : Type 0} → (A → Bool) → List A → ℕ
count p [] = 0
count p (x ∷ xs) = one (p x) + count p xs

abbrev pub AtMostOne : {A : Type 0} → (A → Bool) → List A → Type 0
AtMostOne p xs = count p xs ≤ 1

-- the same met one by one: an element that passes is the first such. k more pass after it.
pub first-counts : (seen t : Bool) (k : ℕ) → (t ≡ true → seen ≡ false) → one (seen || t) + k ≡ one seen + (one t + k)
first-counts false false k h = omega arith
first-counts false true k h = omega arith
first-counts true false k h = omega arith
first-counts true true k h = let z : true ≡ false = h refl in clash (cc)

pub first_of : (seen t : Bool) (k : ℕ) → (t ≡ true → seen ≡ false) → one (seen || t) + k ≤ 1 → one seen + (one t + k) ≤ 1
first_of seen t k h e = rw (← first-counts seen t k h) e

pub first_then : (seen t : Bool) (k : ℕ) → one seen + (one t + k) ≤ 1 → (t ≡ true → seen ≡ false) × (one (seen || t) + k ≤ 1)
first_then false false k e = ((λ h. refl), omega arith)
first_then false true k e = ((λ h. refl), omega arith)
first_then true false k e = ((λ h. clash (cc)), omega arith)
first_then true true k e = absurd (omega arith)

-- so of a list: each fits and at most one passes, exactly where each fits and one that passes is the first such
module _ {A : Type 0} (F : A → Type 0) (p : A → Bool) where
  abbrev pub FirstsAfter : Bool → List A → Type 0
  FirstsAfter seen l = EachAfter (λ seen a. F a × (p a ≡ true → seen ≡ false)) (λ seen a. seen || p a) seen l

  firsts_after : (seen : Bool) (l : List A) → Each F l → one seen + count p l ≤ 1 → FirstsAfter seen l
  firsts_after seen [] h e = tt
  firsts_after seen (a ∷ l) h e = let q = first_then seen (p a) (count p l) e in ((h.0, q.0), firsts_after (seen || p a) l h.1 q.1)

  after_firsts : (seen : Bool) (l : List A) → FirstsAfter seen l → Each F l × (one seen + count p l ≤ 1)
  after_firsts true [] h = (tt, omega arith)
  after_firsts false [] h = (tt, omega arith)
  after_firsts seen (a ∷ l) h = let q = after_firsts (seen || p a) l h.1 in ((h.0.0, q.0), first_of seen (p a) (count p l) h.0.1 q.1)

  pub firsts_of : (l : List A) → Each F l → AtMostOne p l → FirstsAfter false l
  firsts_of l h e = firsts_after false l h (omega (arith, e))

  pub of_firsts : (l : List A) → FirstsAfter false l → Each F l × AtMostOne p l
  of_firsts l h = let q = after_firsts false l h in (q.0, omega (arith, q.1))

pub drop-one : (l : List ℕ) (k : ℕ) → k < length l → drop k l ≡ get_or l k 0 ∷ drop (k + 1) l
drop-one l k h = rw (add-one k) (drop-cons l k 0 h)

pub nil_of_length : {A : Type 0} (l : List A) → length l ≡ 0 → l ≡ []
nil_of_length [] h = refl
nil_of_length (x ∷ l) h = absurd (omega arith)

-- two fields and data, which rest follows
pub regroup : (a b d rest : List ℕ) → (a ++ b) ++ (d ++ rest) ≡ (a ++ (b ++ d)) ++ rest
regroup a b d rest = simp append_assoc

-- a part of a list: its length, and that it is the end of a front of the list
module _ (s : List ℕ) (at n : ℕ) (h : at + n ≤ length s) where
  pub length_part : length (take n (drop at s)) ≡ n
  length_part = simp (length-take, length-drop) (omega arith)

  pub part-front : drop at (take (at + n) s) ≡ take n (drop at s)
  part-front = rw (take-add at n s) (drop_at (take at s) (take n (drop at s)) at (length-take-le at s (omega arith)))

-- what stands at a place of a list: d, after a, where a and d begin what is left at `at`
module _ (s : List ℕ) (at : ℕ) (a d rest : List ℕ) (e : a ++ (d ++ rest) ≡ drop at s) where
  pub part-behind : drop (at + length a) s ≡ d ++ rest
  part-behind = sym (drop-drop (length a) at s) ∙ ap (drop (length a)) (sym e) ∙ drop_at a (d ++ rest) (length a) refl

  pub part-there : take (length d) (drop (at + length a) s) ≡ d
  part-there = rw part-behind (take_at d rest (length d) refl)

  pub part-lengths : length a + (length d + length rest) ≡ length s - at
  part-lengths = omega (arith, length-append a (d ++ rest), length-append d rest, ap length e, length-drop at s)

-- where d stands at a place, each piece of d stands as far behind it as in d
pub piece-there : (s d : List ℕ) (at i n : ℕ) → take (length d) (drop at s) ≡ d → i + n ≤ length d → take n (drop (at + i) s) ≡ take n (drop i d)
piece-there s d at i n e h =
    let r : List ℕ = drop (length d) (drop at s) in
    let f : d ++ r ≡ drop at s = ap (λ l. l ++ r) (sym e) ∙ take-append-drop (length d) (drop at s) in
    let k : n ≤ length (drop i d) = omega (arith, length-drop i d) in
    ap (take n) (sym (drop-drop i at s) ∙ ap (drop i) (sym f) ∙ drop-append-le i d r (omega arith)) ∙ take-append-le n (drop i d) r k
