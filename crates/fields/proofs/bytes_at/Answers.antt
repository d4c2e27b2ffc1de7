-- Past the end there are zeros. What stands from the place on is the list less what is before it, and its front is the bytes, or they are taken from it
-- one by one.
use Rattle.std.proofs.Common.{rules, ◌≡◌, ℕ, zero, suc, ◌+◌, List, ◌∷◌, refl, arith, sym, ap, ap₂, ◌∙◌, length, drop, replicate, get_or, get_or-drop, drop_of_length-le}
use Rattle.std.specs.List.{slice_range}
use Rattle.std.specs.Array.{IsFromFnResult, IsFromFnResultFrom}
use Rattle.std.specs.Fn.{Called, Mut}
use Rattle.std.proofs.lemmas.List.{get_or_past}
use Rattle.std.proofs.lemmas.Slice.{between_to_end}
use Rattle.fields.specs.Number.{spell, spell-front}
use Rattle.fields.specs.Lists.{drop-one}
use Rattle.fields.proofs.bytes_at.Goals as goal

zeros : (n : ℕ) (f : ℕ → ℕ) → ((k : ℕ) → f k ≡ 0) → replicate n 0 ≡ spell n f
zeros zero f h = refl
zeros (suc n) f h = ap₂ {C = List ℕ} (λ b l. b ∷ l) (sym (h 0)) (zeros n (λ k. f (suc k)) (λ k. h (suc k)))

reads : (s r : List ℕ) (at : ℕ) → r ≡ slice_range s at (length s) → (k : ℕ) → get_or s (at + k) 0 ≡ get_or r k 0
reads s r at e k = rw (e, between_to_end s at (length s) (omega arith), get_or-drop)

module _ {F : Type 0} (g : Mut F (ℕ × Unit {0}) ℕ) (f : F) (v : ℕ → ℕ) (h : (i y : ℕ) (q : F) → Called g f (i, tt) y q → (q ≡ f) × (y ≡ v i)) (ys : List ℕ) where
  spelled-from : (n i : ℕ) (w : ℕ → ℕ) → ((k : ℕ) → w k ≡ v (i + k)) → length ys ≡ i + n → IsFromFnResultFrom g f ys i n → drop i ys ≡ spell n w
  spelled-from zero i w e l r = drop_of_length-le ys (omega arith)
  spelled-from (suc n) i w e l (q, y, m, k, r) =
      let a = h i y q k in
      drop-one ys i (omega arith) ∙ ap₂ {C = List ℕ} (λ b l. b ∷ l) (m.1 0 ∙ a.1 ∙ sym (e 0 ∙ ap v (omega arith))) (spelled-from n (i + 1) (λ k. w (suc k)) (λ k. e (suc k) ∙ ap v (omega arith)) (omega arith) (rw a.0 at r))

  spelled : (n : ℕ) (w : ℕ → ℕ) → ((k : ℕ) → w k ≡ v k) → IsFromFnResult g f ys n → ys ≡ spell n w
  spelled n w e r = spelled-from n 0 w (λ k. e k ∙ ap v (omega arith)) (omega (arith, r.long)) r.each

pub returns-in_default : goal.returns-in_default
returns-in_default g c = zeros _ _ (λ k. get_or_past c.args.s.now (c.args.at + k) 0 (omega (arith, c.in_default.ensures.lookup.0)))

pub returns-in-Some-first_chunk : goal.returns-in-Some-first_chunk
returns-in-Some-first_chunk g c =
    let m = c.in-Some-first_chunk.ensures.cases in
    m.same ∙ sym (spell-front _ _ c.in-Some.rest.now (reads c.args.s.now _ c.args.at c.in-Some.ensures.lookup.0.2) m.enough)

pub returns-in-None : goal.returns-in-None
returns-in-None g c =
    spelled _ _ (λ k. get_or c.in-Some.rest.now k 0) (λ i y q k. search rules) c.from_fn.result _ _
    (reads c.args.s.now _ c.args.at c.in-Some.ensures.lookup.0.2) c.from_fn.ensures.items
