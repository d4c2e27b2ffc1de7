-- Element n of a list, or 12 where there is none.
-- Assumes nothing.
use Rattle.std.specs.Prelude.{◌≡◌, refl, Bool, true, ℕ, zero, suc, ◌+◌, ◌≤◌, List, [], ◌∷◌, map}
use Rattle.std.proofs.Common.{sym, ap, ap₂, ◌∙◌, subst, arith}
use Rattle.refusals.specs.Refusal.{not_found}
use Rattle.fields.specs.Lists.{Each, one, count, AtMostOne}
use Rattle.fields.specs.Answer.{Answer, accepted, refused, next, never, accepted-one}
use Rattle.fields.specs.Refuses.{Refuses}

abbrev pub nth : {A : Type 0} → List A → ℕ → Answer A
nth [] n = refused not_found
nth (x ∷ xs) zero = accepted x
nth (x ∷ xs) (suc n) = nth xs n

-- what holds of every element holds of this one
pub each-nth : {A : Type 0} (F : A → Type 0) (xs : List A) (n : ℕ) (x : A) → Each F xs → nth xs n ≡ accepted x → F x
each-nth F [] n x h e = never e
each-nth F (y ∷ xs) zero x h e = subst F (accepted-one e) h.0
each-nth F (y ∷ xs) (suc n) x h e = each-nth F xs n x h.1 e

-- functions that agree on every element map alike
pub map_same : {A B : Type 0} (g h : A → B) (xs : List A) → ((n : ℕ) (x : A) → nth xs n ≡ accepted x → g x ≡ h x) → map g xs ≡ map h xs
map_same g h [] e = refl
map_same g h (x ∷ xs) e = ap₂ (λ y l. y ∷ l) (e 0 x refl) (map_same g h xs (λ n z i. e (suc n) z i))

pub nth-map : {A B : Type 0} (g : A → B) (xs : List A) (n : ℕ) → nth (map g xs) n ≡ next (nth xs n) (λ x. accepted (g x))
nth-map g [] n = refl
nth-map g (x ∷ xs) zero = refl
nth-map g (x ∷ xs) (suc n) = nth-map g xs n

-- of those that pass a test, where at most one does, any two are one
module _ {A : Type 0} (p : A → Bool) where
  passes : (xs : List A) (n : ℕ) (x : A) → nth xs n ≡ accepted x → p x ≡ true → 1 ≤ count p xs
  passes [] n x e h = never e
  passes (y ∷ xs) zero x e h = let q : p y ≡ true = ap p (accepted-one e) ∙ h in rw q (omega arith)
  passes (y ∷ xs) (suc n) x e h = omega (arith, passes xs n x e h)

  pub only_one : (xs : List A) (i j : ℕ) (x y : A) → AtMostOne p xs → nth xs i ≡ accepted x → nth xs j ≡ accepted y → p x ≡ true → p y ≡ true → i ≡ j
  only_one [] i j x y m e g h k = never e
  only_one (z ∷ xs) zero zero x y m e g h k = refl
  only_one (z ∷ xs) zero (suc j) x y m e g h k =
      let q : p z ≡ true = ap p (accepted-one e) ∙ h in
      let l : one true + count p xs ≤ 1 = rw q at m in
      absurd (omega (arith, l, passes xs j y g k))
  only_one (z ∷ xs) (suc i) zero x y m e g h k =
      let q : p z ≡ true = ap p (accepted-one g) ∙ k in
      let l : one true + count p xs ≤ 1 = rw q at m in
      absurd (omega (arith, l, passes xs i x e h))
  only_one (z ∷ xs) (suc i) (suc j) x y m e g h k = ap suc (only_one xs i j x y (omega (arith, m)) e g h k)

pub nth-refused : {A : Type 0} (xs : List A) (n k : ℕ) → nth xs n ≡ refused k → k ≡ not_found
nth-refused [] n k e = cc
nth-refused (x ∷ xs) zero k e = never (sym e)
nth-refused (x ∷ xs) (suc n) k e = nth-refused xs n k e

pub nth-numbers : {P : ℕ → Type 0} {A : Type 0} (xs : List A) (n : ℕ) → P not_found → Refuses P (nth xs n)
nth-numbers {P} xs n h = record { only = λ k e. subst P (sym (nth-refused xs n k e)) h }
