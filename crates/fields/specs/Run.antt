-- The elements at the front of a list, as far as they can be read: the equations of `run`, and what a walk from place to place meets of it.
-- Assumes nothing.
use Rattle.std.specs.Prelude.{◌≡◌, ℕ, zero, suc, ◌<◌, ◌≤◌, drop}
use Rattle.std.proofs.Math.Path.{refl, ap}
use Rattle.std.proofs.Common.{sym, ap₂, ◌∙◌, subst, arith, length-drop}
use Rattle.std.proofs.Math.Option.{none}
use mathlib.Core.List.{List, [], ◌∷◌}
use Rattle.std.proofs.Math.ListN.{length}
use Rattle.fields.specs.Lists.{Each, clash}
use Rattle.fields.specs.Number.{Bytes, bytes_back}
use Rattle.fields.specs.Answer.{Answer, accepted, refused, next_inv, accepted-one}
use Rattle.fields.specs.Reader.{Reader, to_end, run_then, run_f, run, step_at}
use Rattle.fields.specs.Takes.{Takes, Shorter, shorter, to_end-nil, to_end_step}
use Rattle.fields.specs.Exact.{Exact}
use Rattle.fields.specs.At.{Turn, step_refused, walk_end}

-- ---- the equations: nothing left, none read, and one more

module _ {A : Type 0} (p : Reader A) where
  pub run-nil : run p [] ≡ []
  unfolding run
  run-nil = refl

  pub run_none : (b : List ℕ) (n : ℕ) → p b ≡ refused n → run p b ≡ []
  unfolding run
  run_none [] n e = refl
  run_none (x ∷ xs) n e = rw e

  module _ (short : Shorter p) where
    same_count : (f g : ℕ) (b : List ℕ) → length b ≤ f → length b ≤ g → run_f f p b ≡ run_f g p b
    same_count zero zero b hf hg = refl
    same_count zero (suc g) [] hf hg = refl
    same_count zero (suc g) (x ∷ xs) hf hg = absurd (omega arith)
    same_count (suc f) zero [] hf hg = refl
    same_count (suc f) zero (x ∷ xs) hf hg = absurd (omega arith)
    same_count (suc f) (suc g) [] hf hg = refl
    same_count (suc f) (suc g) (x ∷ xs) hf hg = by (p (x ∷ xs)) refl (same_count f g)
      where
        by : (y : Answer (A × List ℕ)) → p (x ∷ xs) ≡ y → ((b : List ℕ) → length b ≤ f → length b ≤ g → run_f f p b ≡ run_f g p b)
            → run_then (run_f f p) y ≡ run_then (run_f g p) y
        by (accepted r) e same =
            let k : length r.1 < length (x ∷ xs) = short (x ∷ xs) r.0 r.1 e in
            ap (λ l. r.0 ∷ l) (same r.1 (omega arith) (omega arith))
        by (refused n) e same = refl

    pub run_more : (b : List ℕ) (a : A) (rest : List ℕ) → 0 < length b → p b ≡ accepted (a, rest) → run p b ≡ a ∷ run p rest
    unfolding run
    run_more [] a rest h e = absurd (omega arith)
    run_more (x ∷ xs) a rest h e =
        let k : length rest < length (x ∷ xs) = short (x ∷ xs) a rest e in
        ap (run_then (run_f (length xs) p)) e ∙ ap (λ l. a ∷ l) (same_count (length xs) (length rest) rest (omega arith) (omega arith))

    -- where elements fill the list, it is they
    step_inv : (b : List ℕ) (l : List A) → 0 < length b → to_end p b ≡ accepted l
        → (r : A × List ℕ) × (m : List A) × (p b ≡ accepted r) × (to_end p r.1 ≡ accepted m) × (r.0 ∷ m ≡ l)
    step_inv b l h e =
        let q = next_inv (p b) _ (sym (to_end_step p short b h) ∙ e) in
        let u = next_inv (to_end p q.0.1) (λ l. accepted (q.0.0 ∷ l)) q.2 in
        (q.0, u.0, q.1, u.1, accepted-one u.2)

    pub run-all : (l : List A) (b : List ℕ) → to_end p b ≡ accepted l → run p b ≡ l
    run-all [] b e = none_left b e
      where
        none_left : (b : List ℕ) → to_end p b ≡ accepted [] → run p b ≡ []
        none_left [] e = run-nil
        none_left (y ∷ ys) e = let q = step_inv (y ∷ ys) [] (omega arith) e in let z = q.4 in clash (cc)
    run-all (x ∷ xs) b e = more b e (run-all xs)
      where
        more : (b : List ℕ) → to_end p b ≡ accepted (x ∷ xs) → ((b : List ℕ) → to_end p b ≡ accepted xs → run p b ≡ xs) → run p b ≡ x ∷ xs
        more [] e all = let z : [] ≡ x ∷ xs = accepted-one (sym (to_end-nil p) ∙ e) in clash (cc)
        more (y ∷ ys) e all =
            let q = step_inv (y ∷ ys) (x ∷ xs) (omega arith) e in
            let z = q.4 in
            let first : q.0.0 ≡ x = cc in
            let rest : q.1 ≡ xs = cc in
            run_more (y ∷ ys) q.0.0 q.0.1 (omega arith) q.2 ∙ ap₂ (λ a l. a ∷ l) first (all q.0.1 (q.3 ∙ ap accepted rest))

-- ---- each of them fits

pub run_fits : {A : Type 0} {p : Reader A} {F : A → Type 0} {put : A → List ℕ} → Exact p F put → (b : List ℕ) → Bytes b → Each F (run p b)
unfolding run
run_fits {A} {p} {F} {put} ep b h = fits (length b) b h
  where
    fits : (n : ℕ) (b : List ℕ) → Bytes b → Each F (run_f n p b)
    fits zero b h = tt
    fits (suc n) [] h = tt
    fits (suc n) (x ∷ xs) h = by (p (x ∷ xs)) refl (fits n)
      where
        by : (y : Answer (A × List ℕ)) → p (x ∷ xs) ≡ y → ((b : List ℕ) → Bytes b → Each F (run_f n p b)) → Each F (run_then (run_f n p) y)
        by (accepted r) e more =
            let q = ep.forth (x ∷ xs) r.0 r.1 h e in
            (q.0, more r.1 (bytes_back (put r.0) r.1 (subst Bytes (sym q.1) h)))
        by (refused n) e more = tt

-- ---- by what stands at a place of a file

module _ {A C : Type 0} (view : ℕ → A → C) (p : Reader A) (t : Takes 1 p) (s : List ℕ) (at : ℕ) where
  pub run_end : step_at view p s at ≡ accepted none → run p (drop at s) ≡ []
  run_end e = run-all p (shorter 1 p (omega arith) t) [] (drop at s) (walk_end view p t s at e)

  pub run-refused : (n : ℕ) → step_at view p s at ≡ refused n → run p (drop at s) ≡ []
  run-refused n e = run_none p (drop at s) n (step_refused view p t s at n e).1

  pub run-turn : {v : C} {m : ℕ} (w : Turn view p s at v m) → run p (drop at s) ≡ w.element ∷ run p (drop m s)
  run-turn {m = m} w =
      run_more p (shorter 1 p (omega arith) t) (drop at s) w.element (drop m s) (omega (arith, length-drop at s, w.later, w.within)) w.read
