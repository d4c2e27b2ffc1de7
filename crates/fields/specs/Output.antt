-- What a call that gives a list does with an output that is lent to it: bytes, or records.
-- Assumes nothing.
use Rattle.std.specs.Prelude.{◌≡◌, refl, cond, ℕ, ◌<◌, ◌≤◌, List, ◌++◌, length, drop, leb}
use Rattle.std.proofs.Common.{ap, ◌∙◌, le-leb}
use Rattle.std.proofs.lemmas.Bool.{lt-leb}
use Rattle.refusals.specs.Refusal.{no_room}
use Rattle.fields.specs.Answer.{Answer, accepted, refused, next}

-- 11: the result is longer than the output, or there are more frames than records; it comes last
abbrev pub fitting : {A : Type 0} → ℕ → Answer (List A) → Answer (List A)
fitting room (accepted c) = cond (leb (length c) room) (accepted c) (refused no_room)
fitting room (refused n) = refused n

-- the result at the front; output beyond it stays unchanged; every refusal leaves the lent buffer unchanged
abbrev pub over : {A : Type 0} → List A → Answer (List A) → List A
over out (accepted c) = c ++ drop (length c) out
over out (refused n) = out

abbrev pub counted : {A : Type 0} → Answer (List A) → Answer ℕ
counted x = next x (λ c. accepted (length c))

-- the answer of a call that gives x: the length, or the refusal; and what the lent output holds at exit
abbrev pub answer : {A : Type 0} → Answer (List A) → List A → Answer ℕ
answer x out = counted (fitting (length out) x)

abbrev pub exit : {A : Type 0} → Answer (List A) → List A → List A
exit x out = over out (fitting (length out) x)

-- a call that gives x and is lent `out` answers r and leaves l there
pub record Lent {A : Type 0} (x : Answer (List A)) (out : List A) (r : Answer ℕ) (l : List A) : Type 0 where
  pub answers : r ≡ answer x out
  pub leaves : l ≡ exit x out

-- ---- the three outcomes: there is room, there is none, or it was refused before

module _ {A : Type 0} (x : Answer (List A)) (out : List A) where
  pub lent_written : (c : List A) (n : ℕ) (l : List A) → x ≡ accepted c → n ≡ length c → length c ≤ length out → l ≡ c ++ drop n out → Lent x out (accepted n) l
  lent_written c n l e en h el =
      rw (e, en) (record {
        answers = rw (le-leb (length c) (length out) h);
        leaves = rw (le-leb (length c) (length out) h) (el ∙ ap (λ m. c ++ drop m out) en);
      })

  pub lent-full : (c : List A) → x ≡ accepted c → length out < length c → Lent x out (refused no_room) out
  lent-full c e h = rw e (record { answers = rw (lt-leb (length c) (length out) h); leaves = rw (lt-leb (length c) (length out) h) })

  pub lent-refused : (n : ℕ) → x ≡ refused n → Lent x out (refused n) out
  lent-refused n e = rw e (record { answers = refl; leaves = refl })
