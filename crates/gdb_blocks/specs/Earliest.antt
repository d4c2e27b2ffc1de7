-- The earliest of many: what `earliest` finds, and what it means that it is the earliest.
-- Assumes nothing.
use Rattle.std.specs.Prelude.{◌≡◌, ℕ, ◌↔◌, List, [], ◌∷◌, ◌++◌, length, refl}
use Rattle.std.proofs.Common.{sym, ap, ◌∙◌}
use Rattle.std.proofs.Math.Option.{Option, none, some, map}
use Rattle.refusals.specs.Refusal.{not_found}
use Rattle.fields.specs.Lists.{Each}
use Rattle.fields.specs.Answer.{Answer, accepted, refused, next, never, accepted-one}
use Rattle.fields.specs.Element.{nth}

abbrev pub or_later : {B : Type 0} → Option B → Answer B → Answer B
or_later none later = later
or_later (some y) later = accepted y

-- what `g` finds in the earliest element where it finds something, or 12
abbrev pub earliest : {A B : Type 0} → (A → Option B) → List A → Answer B
earliest g [] = refused not_found
earliest g (x ∷ xs) = let later = earliest g xs in or_later (g x) later

-- y is what `g` finds in the earliest element where it finds something: it finds nothing in those before
pub record Earliest {A B : Type 0} (g : A → Option B) (xs : List A) (y : B) : Type 0 where
  pub before : List A
  pub element : A
  pub after : List A
  pub split : xs ≡ before ++ element ∷ after
  pub none_before : Each (λ x. g x ≡ none) before
  pub finds : g element ≡ some y

module _ {A B : Type 0} (g : A → Option B) where
  -- ---- an answer is of the earliest

  forth : (xs : List A) (y : B) → earliest g xs ≡ accepted y → Earliest g xs y
  forth [] y e = never e
  forth (x ∷ xs) y e = by (g x) refl (forth xs y) e
    where
      by : (o : Option B) → g x ≡ o → (earliest g xs ≡ accepted y → Earliest g xs y) → or_later o (earliest g xs) ≡ accepted y → Earliest g (x ∷ xs) y
      by none i later e =
          let q = later e in
          record {
            before = x ∷ q.before;
            element = q.element;
            after = q.after;
            split = ap (λ l. x ∷ l) q.split;
            none_before = (i, q.none_before);
            finds = q.finds;
          }
      by (some w) i later e =
          record { before = []; element = x; after = xs; split = refl; none_before = tt; finds = i ∙ ap some (accepted-one e) }

  back : (before : List A) (x : A) (after : List A) (y : B) → Each (λ x. g x ≡ none) before → g x ≡ some y → earliest g (before ++ x ∷ after) ≡ accepted y
  back [] x after y h e = rw e
  back (z ∷ before) x after y h e = rw h.0 (back before x after y h.1 e)

  pub earliest-is : (xs : List A) (y : B) → (earliest g xs ≡ accepted y) ↔ Earliest g xs y
  earliest-is xs y = (forth xs y, λ q. ap (earliest g) q.split ∙ back q.before q.element q.after y q.none_before q.finds)

  pub earliest-nth : (xs : List A) (y : B) (q : Earliest g xs y) → nth xs (length q.before) ≡ accepted q.element
  earliest-nth xs y q = ap (λ l. nth l (length q.before)) q.split ∙ there q.before q.element q.after
    where
      there : (before : List A) (x : A) (after : List A) → nth (before ++ x ∷ after) (length before) ≡ accepted x
      there [] x after = refl
      there (z ∷ before) x after = there before x after

  -- ---- 12 where there is none

  none-forth : (xs : List A) (n : ℕ) → earliest g xs ≡ refused n → Each (λ x. g x ≡ none) xs
  none-forth [] n e = tt
  none-forth (x ∷ xs) n e = by (g x) refl (none-forth xs n) e
    where
      by : (o : Option B) → g x ≡ o → (earliest g xs ≡ refused n → Each (λ x. g x ≡ none) xs) → or_later o (earliest g xs) ≡ refused n
          → (g x ≡ none) × Each (λ x. g x ≡ none) xs
      by none i later e = (i, later e)
      by (some w) i later e = never (sym e)

  none-back : (xs : List A) → Each (λ x. g x ≡ none) xs → earliest g xs ≡ refused not_found
  none-back [] h = refl
  none-back (x ∷ xs) h = rw h.0 (none-back xs h.1)

  -- and no other number
  pub earliest-refused : (xs : List A) (n : ℕ) → earliest g xs ≡ refused n → n ≡ not_found
  earliest-refused xs n e = let i : refused n ≡ refused not_found = sym e ∙ none-back xs (none-forth xs n e) in cc

  pub earliest-none : (xs : List A) → (earliest g xs ≡ refused not_found) ↔ Each (λ x. g x ≡ none) xs
  earliest-none xs = (none-forth xs not_found, none-back xs)

  -- ---- to map what is found is to map what each element gives

  pub earliest-map : {C : Type 0} (h : B → C) (xs : List A) → next (earliest g xs) (λ y. accepted (h y)) ≡ earliest (λ x. map h (g x)) xs
  earliest-map h [] = refl
  earliest-map {C} h (x ∷ xs) = by (g x) (earliest-map h xs)
    where
      by : (o : Option B) → next (earliest g xs) (λ y. accepted (h y)) ≡ earliest (λ x. map h (g x)) xs
          → next (or_later o (earliest g xs)) (λ y. accepted (h y)) ≡ or_later (map h o) (earliest (λ x. map h (g x)) xs)
      by none later = later
      by (some w) later = refl
