-- Elements one after another up to an end that is told: the equation, and when it is exact.
-- Assumes nothing.
use Rattle.std.specs.Prelude.{◌≡◌, refl, ℕ, zero, suc, ◌<◌, List, [], ◌∷◌, ◌++◌}
use Rattle.std.proofs.Common.{sym, ◌∙◌, le_refl, arith, append_assoc}
use Rattle.std.proofs.Math.Path.{ap}
use Rattle.std.proofs.Math.Option.{Option, none, some}
use Rattle.std.proofs.Math.ListN.{length}
use Rattle.fields.specs.Lists.{concat_map, Each}
use Rattle.fields.specs.Number.{Bytes, bytes_back}
use Rattle.fields.specs.Answer.{Answer, accepted, refused, accepted_inj, next, next_inv, next_cong}
use Rattle.fields.specs.Reader.{Reader, end_or, until_f, until}
use Rattle.fields.specs.Takes.{Shorter}
use Rattle.fields.specs.Exact.{Exact}

-- ---- the equation

module _ {A E : Type 0} (ends : List ℕ → Option E) (p : Reader A) (short : Shorter p) where
  same_count : (f g : ℕ) (b : List ℕ) → length b < f → length b < g → until_f f ends p b ≡ until_f g ends p b
  same_count zero g b hf hg = absurd (omega arith)
  same_count (suc f) zero b hf hg = absurd (omega arith)
  same_count (suc f) (suc g) b hf hg =
      ap (end_or (ends b)) (next_cong (p b) _ _ (λ r e.
      let k : length r.1 < length b = short b r.0 r.1 e in
      ap (λ l. next l (λ q. accepted (r.0 ∷ q.0, q.1))) (same_count f g r.1 (omega arith) (omega arith))))

  pub until_step : (b : List ℕ)
      → until ends p b ≡ end_or (ends b) (next (p b) (λ r. next (until ends p r.1) (λ q. accepted (r.0 ∷ q.0, q.1))))
  unfolding until
  until_step b =
      ap (end_or (ends b)) (next_cong (p b) _ _ (λ r e.
      let k : length r.1 < length b = short b r.0 r.1 e in
      ap (λ l. next l (λ q. accepted (r.0 ∷ q.0, q.1))) (same_count (length b) (suc (length r.1)) r.1 (omega arith) (omega arith))))

  -- the three ways of it: an end, a fault, and an element
  pub until_end : (b : List ℕ) (e : E) → ends b ≡ some e → until ends p b ≡ accepted ([], e)
  until_end b e i = until_step b ∙ rw i

  pub until-fault : (b : List ℕ) (n : ℕ) → ends b ≡ none → p b ≡ refused n → until ends p b ≡ refused n
  until-fault b n i g = until_step b ∙ rw (i, g)

  pub until_more : (b : List ℕ) (a : A) (rest : List ℕ) → ends b ≡ none → p b ≡ accepted (a, rest)
      → until ends p b ≡ next (until ends p rest) (λ q. accepted (a ∷ q.0, q.1))
  until_more b a rest i g = until_step b ∙ rw (i, g)

-- ---- exact where the element's reader is, and its ends are told apart

-- `ends` tells just the ends that `put_end` lays out, and where one stands no element does
pub record Ends {A E : Type 0} (ends : List ℕ → Option E) (p : Reader A) (put_end : E → List ℕ) : Type 0 where
  pub told : (e : E) → ends (put_end e) ≡ some e
  pub laid : (b : List ℕ) (e : E) → ends b ≡ some e → put_end e ≡ b
  pub alone : (e : E) (r : A × List ℕ) → p (put_end e) ≡ accepted r → ⊥

module _ {A E : Type 0} {ends : List ℕ → Option E} {p : Reader A} {put_end : E → List ℕ} {F : A → Type 0} {put : A → List ℕ}
    (short : Shorter p) (en : Ends ends p put_end) (ep : Exact p F put) where
  -- where an element stands no end does
  pub goes_on_lem : (b : List ℕ) (r : A × List ℕ) → p b ≡ accepted r → ends b ≡ none
  goes_on_lem b r e = by (ends b) refl
    where
      by : (x : Option E) → ends b ≡ x → x ≡ none
      by none i = refl
      by (some d) i = absurd (en.alone d r (rw (en.laid b d i) e))

  pub back-until : (l : List A) (e : E) → Each F l → until ends p (concat_map put l ++ put_end e) ≡ accepted (l, e)
  back-until [] e h = until_end ends p short (put_end e) e (en.told e)
  back-until (a ∷ l) e h =
      let rest = concat_map put l ++ put_end e in
      let i : p (put a ++ rest) ≡ accepted (a, rest) = ep.back a rest h.0 in
      ap (until ends p) (append_assoc (put a) (concat_map put l) (put_end e))
      ∙ until_more ends p short (put a ++ rest) a rest (goes_on_lem (put a ++ rest) (a, rest) i) i ∙ rw (back-until l e h.1)

  -- what was read
  abbrev Laid : List ℕ → List A → E → Type 0
  Laid b l e = Each F l × (concat_map put l ++ put_end e ≡ b)

  laid_end : (b : List ℕ) (l : List A) (d e : E) → ends b ≡ some d → ([] ≡ l) × (d ≡ e) → Laid b l e
  laid_end b l d e i g = rw (← g.0, ← g.1) (tt, en.laid b d i)

  laid_more : (b rest : List ℕ) (a : A) (m l : List A) (d e : E) → F a × (put a ++ rest ≡ b) → Laid rest m d
      → ◌≡◌ {A = Answer (List A × E)} (accepted (a ∷ m, d)) (accepted (l, e)) → Laid b l e
  laid_more b rest a m l d e fa w i =
      let g = accepted_inj i in
      rw (← g.0, ← g.1) ((fa.0, w.0), append_assoc (put a) (concat_map put m) (put_end d) ∙ ap (λ t. put a ++ t) w.1 ∙ fa.1)

  forth-at : (b : List ℕ) (l : List A) (e : E) (x : Option E) → Bytes b → ends b ≡ x
      → end_or x (next (p b) (λ r. next (until ends p r.1) (λ q. accepted (r.0 ∷ q.0, q.1)))) ≡ accepted (l, e)
      → ((rest : List ℕ) (m : List A) (d : E) → Bytes rest → length rest < length b → until ends p rest ≡ accepted (m, d) → Laid rest m d)
      → Laid b l e
  forth-at b l e (some d) h i g more = laid_end b l d e i (accepted_inj g)
  forth-at b l e none h i g more =
      let q = next_inv (p b) (λ r. next (until ends p r.1) (λ q. accepted (r.0 ∷ q.0, q.1))) g in
      let r = q.0 in
      let t = next_inv (until ends p r.1) (λ q. accepted (r.0 ∷ q.0, q.1)) q.2 in
      let fa = ep.forth b r.0 r.1 h q.1 in
      laid_more b r.1 r.0 t.0.0 l t.0.1 e fa
      (more r.1 t.0.0 t.0.1 (bytes_back (put r.0) r.1 (rw fa.1 h)) (short b r.0 r.1 q.1) t.1) t.2

  forth-count : (n : ℕ) (b : List ℕ) (l : List A) (e : E) → Bytes b → length b < n → until ends p b ≡ accepted (l, e) → Laid b l e
  forth-count zero b l e h k g = absurd (omega arith)
  forth-count (suc n) b l e h k g =
      forth-at b l e (ends b) h refl (sym (until_step ends p short b) ∙ g) (λ rest m d hr lt i. forth-count n rest m d hr (omega arith) i)

  pub forth-until : (b : List ℕ) (l : List A) (e : E) → Bytes b → until ends p b ≡ accepted (l, e) → Laid b l e
  forth-until b l e h g = forth-count (suc (length b)) b l e h (le_refl (suc (length b))) g
