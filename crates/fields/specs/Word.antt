-- A word at a list's front, and lists of the same bytes.
-- Assumes nothing.
use Rattle.std.specs.Prelude.{◌≡◌, refl, Bool, true, false, ◌&&◌, ℕ, ◌+◌, ◌<◌, ◌≤◌, List, [], ◌∷◌, length, take, drop, get_or, eqb}
use Rattle.std.proofs.Common.{sym, ap, ap₂, arith, drop_of_length-le, eq-eqb, ne_eqb, eqb-true}
use Rattle.std.proofs.Math.Bool.{and-false}
use Rattle.fields.specs.Lists.{clash, drop-one, nil_of_length}

-- `l` begins with `word`
abbrev pub starts : List ℕ → List ℕ → Bool
starts [] l = true
starts (x ∷ word) [] = false
starts (x ∷ word) (y ∷ l) = eqb x y && starts word l

pub and_inv : (p q : Bool) → p && q ≡ true → (p ≡ true) × (q ≡ true)
and_inv true q e = (refl, e)
and_inv false q e = clash (cc)

pub starts-short : (w l : List ℕ) → length l < length w → starts w l ≡ false
starts-short [] l h = absurd (omega arith)
starts-short (x ∷ w) [] h = refl
starts-short (x ∷ w) (y ∷ l) h = rw (starts-short w l (omega arith)) (and-false (eqb x y))

pub starts-front : (w l : List ℕ) → starts w (take (length w) l) ≡ starts w l
starts-front [] l = refl
starts-front (x ∷ w) [] = refl
starts-front (x ∷ w) (y ∷ l) = ap (λ t. eqb x y && t) (starts-front w l)

-- a list as long as the word begins with it only where it is the word
pub starts-same : (a b : List ℕ) → length b ≡ length a → starts a b ≡ true → a ≡ b
starts-same [] b l e = sym (nil_of_length b l)
starts-same (x ∷ a) [] l e = absurd (omega arith)
starts-same (x ∷ a) (y ∷ b) l e =
    let q = and_inv (eqb x y) (starts a b) e in
    ap₂ {C = List ℕ} (λ z t. z ∷ t) (eqb-true x y q.0) (starts-same a b (omega arith) q.1)

pub starts_self : (w : List ℕ) → starts w w ≡ true
starts_self [] = refl
starts_self (x ∷ w) = rw (eq-eqb x x refl, starts_self w)

-- the test byte by byte
module _ (w l : List ℕ) (k : ℕ) where
  pub starts-end : length w ≤ k → starts (drop k w) (drop k l) ≡ true
  starts-end h = rw (drop_of_length-le w h)

  pub starts_more : k < length w → k < length l → get_or l k 0 ≡ get_or w k 0 → starts (drop (k + 1) w) (drop (k + 1) l) ≡ starts (drop k w) (drop k l)
  starts_more h j e = rw (drop-one w k h, drop-one l k j, eq-eqb (get_or w k 0) (get_or l k 0) (sym e))

  pub starts_differ : k < length w → k < length l → (get_or l k 0 ≡ get_or w k 0 → ⊥) → starts (drop k w) (drop k l) ≡ false
  starts_differ h j e = rw (drop-one w k h, drop-one l k j, ne_eqb (get_or w k 0) (get_or l k 0) (λ q. e (sym q)))

-- ---- the same bytes

abbrev pub same_bytes : List ℕ → List ℕ → Bool
same_bytes [] [] = true
same_bytes [] (y ∷ ys) = false
same_bytes (x ∷ xs) [] = false
same_bytes (x ∷ xs) (y ∷ ys) = eqb x y && same_bytes xs ys

pub same_bytes_lem : (a b : List ℕ) → same_bytes a b ≡ true → a ≡ b
same_bytes_lem [] [] e = refl
same_bytes_lem [] (y ∷ b) e = clash (cc)
same_bytes_lem (x ∷ a) [] e = clash (cc)
same_bytes_lem (x ∷ a) (y ∷ b) e =
    let q = and_inv (eqb x y) (same_bytes a b) e in
    ap₂ {C = List ℕ} (λ z t. z ∷ t) (eqb-true x y q.0) (same_bytes_lem a b q.1)

pub bytes_same : (a : List ℕ) → same_bytes a a ≡ true
bytes_same [] = refl
bytes_same (x ∷ a) = rw (eq-eqb x x refl) (bytes_same a)
