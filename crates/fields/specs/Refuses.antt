-- Which numbers an answer, or a reader, can refuse with. Each way of making one carries its law.
-- Assumes nothing.
use Rattle.std.specs.Prelude.{◌≡◌, refl, ◌↔◌, Bool, true, false, cond, ◌||◌, length, T, leb, eqb}
use Rattle.std.proofs.Common.{sym, subst, le_refl, arith, eqb-true, leb-false}
use Rattle.std.proofs.Math.Option.{Option, none, some}
use Prim.Native.Nat.{ℕ, zero, suc, ◌<◌}
use mathlib.Core.List.{List, [], ◌∷◌}
use Rattle.std.proofs.lemmas.Bool.{lt-leb}
use Rattle.refusals.specs.Refusal.{limit, too_long, no_room, table}
use Rattle.fields.specs.Lists.{Each}
use Rattle.fields.specs.Answer.{Answer, accepted, refused, next, never}
use Rattle.fields.specs.Reader.{Reader, ◌>>=◌, give, refuse, bytes, num, filling, to_end_f, to_end_after, end_or, until}
use Rattle.fields.specs.Takes.{Shorter}
use Rattle.fields.specs.Until.{until_step}
use Rattle.fields.specs.Output.{fitting, answer}
use Rattle.fields.specs.declared.Order.{Order}

-- where x refuses, P holds of the number
pub record Refuses {A : Type 0} (P : ℕ → Type 0) (x : Answer A) : Type 0 where
  pub only : (k : ℕ) → x ≡ refused k → P k

-- where the reader p refuses, whatever it reads
pub record Refusing {A : Type 0} (P : ℕ → Type 0) (p : Reader A) : Type 0 where
  pub reading : (b : List ℕ) → Refuses P (p b)

-- a number of a list
abbrev pub among : List ℕ → ℕ → Bool
among [] k = false
among (n ∷ ns) k = eqb n k || among ns k

abbrev pub OneOf : List ℕ → ℕ → Type 0
OneOf ns k = T (among ns k)

-- a number of the table
abbrev pub Listed : ℕ → Type 0
Listed = OneOf table

-- P holds of a number of a list where it holds of them all
each-one : (P : ℕ → Type 0) (ns : List ℕ) → Each P ns → (k : ℕ) → OneOf ns k → P k
each-one P [] h k m = absurd m
each-one P (n ∷ ns) h k m = by (eqb n k) refl (each-one P ns h.1 k) m
  where
    by : (t : Bool) → eqb n k ≡ t → (OneOf ns k → P k) → T (t || among ns k) → P k
    by true e g m = subst P (eqb-true n k e) h.0
    by false e g m = g m

-- ---- answers

module _ {P : ℕ → Type 0} where
  pub refuses_never : {A : Type 0} {a : A} → Refuses P (accepted a)
  refuses_never = record { only = λ k e. never (sym e) }

  pub refuses_with : {A : Type 0} {k : ℕ} → P k → Refuses {A = A} P (refused k)
  refuses_with {k} h = record { only = λ j e. let i : k ≡ j = cc in subst P i h }

  pub refuses_cond : {A : Type 0} (t : Bool) {x y : Answer A} → Refuses P x → Refuses P y → Refuses P (cond t x y)
  refuses_cond true h g = h
  refuses_cond false h g = g

  refuses_after : {A B : Type 0} {x : Answer A} {f : A → Answer B} → Refuses P x → ((a : A) → x ≡ accepted a → Refuses P (f a)) → Refuses P (next x f)
  refuses_after {x = accepted a} h g = g a refl
  refuses_after {x = refused k} h g = refuses_with (h.only k refl)

  pub refuses_next : {A B : Type 0} {x : Answer A} {f : A → Answer B} → Refuses P x → ((a : A) → Refuses P (f a)) → Refuses P (next x f)
  refuses_next h g = refuses_after h (λ a e. g a)

  -- the same by another P, which holds of every number of the list
  pub refuses_in : {A : Type 0} (ns : List ℕ) {x : Answer A} → Each P ns → Refuses (OneOf ns) x → Refuses P x
  refuses_in ns h r = record { only = λ k e. each-one P ns h k (r.only k e) }

  -- 1 exactly for what is longer than the limit, where nothing else gives it
  pub refuses_too_long : {A : Type 0} {x : Answer A} (n : ℕ) → Refuses P x → (P too_long → ⊥)
      → (cond (leb n limit) x (refused too_long) ≡ refused too_long) ↔ (limit < n)
  refuses_too_long {A} {x} n h other = (by (leb n limit) refl, λ l. rw (lt-leb n limit l))
    where
      by : (t : Bool) → leb n limit ≡ t → cond t x (refused too_long) ≡ refused too_long → limit < n
      by true i e = absurd (other (h.only too_long e))
      by false i e = leb-false n limit i

  -- 11 where the result is longer than the output
  refuses_fitting : {A : Type 0} {x : Answer (List A)} (room : ℕ) → P no_room → Refuses P x → Refuses P (fitting room x)
  refuses_fitting {x = accepted c} room g h = refuses_cond (leb (length c) room) refuses_never (refuses_with g)
  refuses_fitting {x = refused k} room g h = refuses_with (h.only k refl)

  pub refuses_answer : {A : Type 0} {x : Answer (List A)} (out : List A) → P no_room → Refuses P x → Refuses P (answer x out)
  refuses_answer out g h = refuses_next (refuses_fitting (length out) g h) (λ c. refuses_never)

  -- ---- readers

  pub refusing_give : {A : Type 0} {a : A} → Refusing P (give a)
  refusing_give = record { reading = λ b. refuses_never }

  pub refusing_refuse : {A : Type 0} {k : ℕ} → P k → Refusing {A = A} P (refuse k)
  refusing_refuse h = record { reading = λ b. refuses_with h }

  pub refusing_bytes : (n k : ℕ) → P k → Refusing P (bytes n k)
  refusing_bytes n k h = record { reading = λ b. refuses_cond (leb n (length b)) refuses_never (refuses_with h) }

  pub refusing_cond : {A : Type 0} (t : Bool) {p q : Reader A} → Refusing P p → Refusing P q → Refusing P (cond t p q)
  refusing_cond true h g = h
  refusing_cond false h g = g

  pub refusing_then : {A B : Type 0} {p : Reader A} {q : A → Reader B} → Refusing P p → ((a : A) → Refusing P (q a)) → Refusing P (p >>= q)
  refusing_then h g = record { reading = λ b. refuses_next (h.reading b) (λ r. (g r.0).reading r.1) }

  pub refusing_num : (o : Order) (w k : ℕ) → P k → Refusing P (num o w k)
  refusing_num o w k h = refusing_then (refusing_bytes w k h) (λ b. refusing_give)

  refuses_to_end : {A S : Type 0} {p : S → Reader A} (after : S → A → S) → ((s : S) → Refusing P (p s)) → (s : S) (b : List ℕ)
      → Refuses P (to_end_after p after s b)
  unfolding to_end_after
  refuses_to_end {A} {S} {p} after h s b = by (length b) s b
    where
      by : (n : ℕ) (s : S) (b : List ℕ) → Refuses P (to_end_f n p after s b)
      by zero s b = refuses_never
      by (suc n) s [] = refuses_never
      by (suc n) s (x ∷ xs) = refuses_next ((h s).reading (x ∷ xs)) (λ r. refuses_next (by n (after s r.0) r.1) (λ l. refuses_never))

  refuses_end : {A E : Type 0} (x : Option E) {y : Answer (List A × E)} → Refuses P y → Refuses P (end_or x y)
  refuses_end (some e) h = refuses_never
  refuses_end none h = h

  pub refuses_until : {A E : Type 0} (ends : List ℕ → Option E) {p : Reader A} → Shorter p → Refusing P p → (b : List ℕ) → Refuses P (until ends p b)
  refuses_until ends {p} short h b = by (suc (length b)) b (le_refl (suc (length b)))
    where
      by : (n : ℕ) (b : List ℕ) → length b < n → Refuses P (until ends p b)
      by zero b k = absurd (omega arith)
      by (suc n) b k =
          subst (Refuses P) (sym (until_step ends p short b))
          (refuses_end (ends b) (refuses_after (h.reading b) (λ r e.
          refuses_next (by n r.1 (omega (arith, k, short b r.0 r.1 e))) (λ q. refuses_never))))

  pub refusing_filling : {A S : Type 0} {p : S → Reader A} (after : S → A → S) (d : List ℕ) → ((s : S) → Refusing P (p s)) → (s : S)
      → Refusing P (filling d p after s)
  refusing_filling after d h s = record { reading = λ b. refuses_next (refuses_to_end after h s d) (λ l. refuses_never) }

  pub refusing_in : {A : Type 0} (ns : List ℕ) {p : Reader A} → Each P ns → Refusing (OneOf ns) p → Refusing P p
  refusing_in ns h r = record { reading = λ b. refuses_in ns h (r.reading b) }
