-- The latest of many: what `latest` finds, and what it means that it is the latest.
-- Assumes nothing.
use Rattle.std.specs.Prelude.{◌≡◌, ◌↔◌, List, [], ◌∷◌, ◌++◌, reverse}
use Rattle.std.proofs.Common.{sym, ap, ◌∙◌, subst}
use Rattle.std.proofs.Math.Option.{Option, none}
use mathlib.Core.List.{reverse_aux, append_assoc, reverse-cons, reverse-append, reverse-reverse}
use Rattle.refusals.specs.Refusal.{not_found}
use Rattle.fields.specs.Lists.{Each}
use Rattle.fields.specs.Answer.{accepted, refused}
use Rattle.gdb_blocks.specs.Earliest.{or_later, earliest, Earliest, earliest-is, earliest-none}
use Rattle.gdb_blocks.specs.Latest.{latest, Latest}

-- ---- from the end

turned : {A : Type 0} (before : List A) (x : A) (after : List A) → reverse (before ++ x ∷ after) ≡ reverse after ++ x ∷ reverse before
turned before x after =
    reverse-append before (x ∷ after) ∙ ap (λ l. l ++ reverse before) (reverse-cons x after) ∙ append_assoc (reverse after) (x ∷ []) (reverse before)

each_turned : {A : Type 0} (P : A → Type 0) (xs : List A) → Each P xs → Each P (reverse xs)
each_turned {A} P xs h = onto xs [] h tt
  where
    onto : (xs r : List A) → Each P xs → Each P r → Each P (reverse_aux xs r)
    onto [] r h k = k
    onto (x ∷ xs) r h k = onto xs (x ∷ r) h.1 (h.0, k)

module _ {A B : Type 0} (g : A → Option B) where
  -- ---- an answer is of the latest

  forth : (xs : List A) (y : B) → latest g xs ≡ accepted y → Latest g xs y
  forth xs y e =
      let q = (earliest-is g (reverse xs) y).0 e in
      record {
        before = reverse q.after;
        element = q.element;
        after = reverse q.before;
        split = sym (reverse-reverse xs) ∙ ap reverse q.split ∙ turned q.before q.element q.after;
        none_after = each_turned (λ x. g x ≡ none) q.before q.none_before;
        finds = q.finds;
      }

  back : (xs : List A) (y : B) → Latest g xs y → Earliest g (reverse xs) y
  back xs y q =
      record {
        before = reverse q.after;
        element = q.element;
        after = reverse q.before;
        split = ap reverse q.split ∙ turned q.before q.element q.after;
        none_before = each_turned (λ x. g x ≡ none) q.after q.none_after;
        finds = q.finds;
      }

  pub latest-is : (xs : List A) (y : B) → (latest g xs ≡ accepted y) ↔ Latest g xs y
  latest-is xs y = (forth xs y, λ q. (earliest-is g (reverse xs) y).1 (back xs y q))

  -- ---- 12 where there is none

  pub latest-none : (xs : List A) → (latest g xs ≡ refused not_found) ↔ Each (λ x. g x ≡ none) xs
  latest-none xs = (
    (λ e. subst (Each (λ x. g x ≡ none)) (reverse-reverse xs) (each_turned (λ x. g x ≡ none) (reverse xs) ((earliest-none g (reverse xs)).0 e))),
    (λ h. (earliest-none g (reverse xs)).1 (each_turned (λ x. g x ≡ none) xs h)),
  )

  -- ---- with one element more

  pub latest_then : (xs : List A) (x : A) → latest g (xs ++ x ∷ []) ≡ or_later (g x) (latest g xs)
  latest_then xs x = ap (earliest g) (turned xs x [])
