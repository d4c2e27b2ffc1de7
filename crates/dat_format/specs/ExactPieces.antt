-- The pieces' readers are exact: each reads what its layout says, and nothing else.
-- Assumes nothing.
use Rattle.std.specs.Prelude.{◌≡◌, refl, Bool, true, false, cond, ℕ, zero, suc, List, [], ◌∷◌, ◌++◌, length, eqb}
use Rattle.std.proofs.Common.{ap, ◌∙◌, arith, append_assoc, append-nil, eqb-true, ne_eqb}
use Rattle.std.proofs.lemmas.Bool.{eqb-false}
use Rattle.refusals.specs.Refusal.{field_past_file}
use Rattle.fields.specs.Lists.{concat_map, Each, clash}
use Rattle.fields.specs.Number.{Bytes, bytes_back}
use Rattle.fields.specs.Word.{starts, starts-same, starts_self}
use Rattle.fields.specs.Answer.{Answer, accepted, refused, never, accepted_inj, next, next_inv}
use Rattle.fields.specs.Reader.{Reader}
use Rattle.fields.specs.Exact.{Exact, exact_give, exact_refuse, exact_bytes, exact_then, exact_as, exact_cond, exact_num}
use Rattle.fields.specs.declared.Order.{Order}
use Rattle.dat_format.specs.Pieces.{such, fixed, after, times, sized, put_sized, counted, put_counted, name, put_name}
use Rattle.dat_format.specs.Layout.{DataFits, CountFits, NameFits}

-- ---- a tested value, and a fixed string

pub exact_such : {A : Type 0} {p : Reader A} {F : A → Type 0} {put : A → List ℕ} (t : A → Bool) (k : ℕ) → Exact p F put
    → Exact (such p t k) (λ a. F a × (t a ≡ true)) put
exact_such {A} {p} {F} {put} t k ep =
    exact_as
    (exact_then ep
    {put_c = λ a c. []}
    (λ a. exact_cond {F = λ c. (c ≡ a) × (t a ≡ true)} (t a) (λ e. exact_as (exact_give a) (λ c f. (f.0, refl)) (λ c f. ((f, e), refl)))
    (λ e. exact_refuse k _ _ (λ c f. clash (cc))))
    (λ c. c) (λ a c f g. g.0))
    (λ c f. ((f.0, (refl, f.1)), append-nil (put c))) (λ c f. ((f.0, f.1.1), append-nil (put c)))

pub exact_fixed : (w : List ℕ) → Exact (fixed w) (λ a. (length a ≡ length w) × (starts w a ≡ true)) (λ a. a)
exact_fixed w = exact_such (starts w) _ (exact_bytes (length w) field_past_file)

pub exact_after : {A : Type 0} {p : Reader A} {F : A → Type 0} {put : A → List ℕ} (w : List ℕ) → Exact p F put → Exact (after w p) F (λ a. w ++ put a)
exact_after w ep =
    exact_as (exact_then (exact_fixed w) (λ u. ep) (λ a. w) (λ u a f g. starts-same w u f.0 f.1))
    (λ a f. (((refl, starts_self w), f), refl)) (λ a f. (f.1, refl))

-- ---- n elements

module _ {A : Type 0} {p : Reader A} {F : A → Type 0} {put : A → List ℕ} (ep : Exact p F put) where
  times-back : (n : ℕ) (l : List A) (rest : List ℕ) → (length l ≡ n) × Each F l → times n p (concat_map put l ++ rest) ≡ accepted (l, rest)
  times-back zero [] rest f = refl
  times-back zero (a ∷ l) rest f = absurd (omega arith)
  times-back (suc n) [] rest f = absurd (omega arith)
  times-back (suc n) (a ∷ l) rest f =
      rw (append_assoc (put a) (concat_map put l) rest, ep.back a (concat_map put l ++ rest) f.1.0, times-back n l rest (omega arith, f.1.1))

  -- b is l, n elements, and then the rest
  abbrev TimesOf : ℕ → List ℕ → List A → List ℕ → Type 0
  TimesOf n b l rest = ((length l ≡ n) × Each F l) × (concat_map put l ++ rest ≡ b)

  -- one more element, read before the others
  cons-forth : (n : ℕ) (b mid end rest : List ℕ) (a : A) (m l : List A) → F a × (put a ++ mid ≡ b) → TimesOf n mid m end
      → ◌≡◌ {A = Answer (List A × List ℕ)} (accepted (a ∷ m, end)) (accepted (l, rest)) → TimesOf (suc n) b l rest
  cons-forth n b mid end rest a m l fa fl e =
      let q = accepted_inj e in
      rw (← q.0, ← q.1) ((ap suc fl.0.0, (fa.0, fl.0.1)), append_assoc (put a) (concat_map put m) end ∙ ap (λ t. put a ++ t) fl.1 ∙ fa.1)

  times-forth : (n : ℕ) (b : List ℕ) (l : List A) (rest : List ℕ) → Bytes b → times n p b ≡ accepted (l, rest) → TimesOf n b l rest
  times-forth zero b l rest h e = let q = accepted_inj e in rw (← q.0, ← q.1) ((refl, tt), refl)
  times-forth (suc n) b l rest h e =
      let s = next_inv (p b) (λ r. next (times n p r.1) (λ m. accepted (r.0 ∷ m.0, m.1))) e in
      let u = next_inv (times n p s.0.1) (λ m. accepted (s.0.0 ∷ m.0, m.1)) s.2 in
      let fa = ep.forth b s.0.0 s.0.1 h s.1 in
      cons-forth n b s.0.1 u.0.1 rest s.0.0 u.0.0 l fa
      (times-forth n s.0.1 u.0.0 u.0.1 (bytes_back (put s.0.0) s.0.1 (rw fa.1 h)) u.1) u.2

  pub exact_times : (n : ℕ) → Exact (times n p) (λ l. (length l ≡ n) × Each F l) (concat_map put)
  exact_times n = record { back = times-back n; forth = times-forth n }

  pub exact_counted : (o : Order) → Exact (counted o p) (CountFits F) (put_counted o put)
  exact_counted o =
      exact_as (exact_then (exact_num o 4 field_past_file) exact_times (λ l. length l) (λ n l h f. f.0))
      (λ l f. ((f.0, (refl, f.1)), refl)) (λ l f. ((f.0, f.1.1), refl))

pub exact_sized : (o : Order) (w : ℕ) → Exact (sized o w) (DataFits w) (put_sized o w)
exact_sized o w =
    exact_as (exact_then (exact_num o w field_past_file) (λ n. exact_bytes n field_past_file) (λ d. length d) (λ n d h f. f))
    (λ d f. ((f, refl), refl)) (λ d f. (f.0, refl))

-- ---- a name

name_back : (n rest : List ℕ) → NameFits n → name (put_name n ++ rest) ≡ accepted (n, rest)
name_back [] rest h = refl
name_back (x ∷ n) rest h = rw (ne_eqb x 0 h.0, name_back n rest h.1)

abbrev NameOf : List ℕ → List ℕ → List ℕ → Type 0
NameOf b n rest = NameFits n × (put_name n ++ rest ≡ b)

name_byte : (x : ℕ) (b n rest : List ℕ) (m : Answer (List ℕ × List ℕ)) (t : Bool) → eqb x 0 ≡ t
    → cond {A = Answer (List ℕ × List ℕ)} t (accepted ([], b)) (next m (λ r. accepted (x ∷ r.0, r.1))) ≡ accepted (n, rest)
    → ((i j : List ℕ) → m ≡ accepted (i, j) → NameOf b i j) → NameOf (x ∷ b) n rest
name_byte x b n rest m true q e more = let i = accepted_inj e in rw (← i.0, ← i.1, eqb-true x 0 q) (tt, refl)
name_byte x b n rest (refused k) false q e more = never e
name_byte x b n rest (accepted r) false q e more =
    let i = accepted_inj e in
    let f = more r.0 r.1 refl in
    rw (← i.0, ← i.1) ((eqb-false x 0 q, f.0), ap {B = List ℕ} (λ t. x ∷ t) f.1)

name-forth : (b n rest : List ℕ) → name b ≡ accepted (n, rest) → NameOf b n rest
name-forth [] n rest e = never e
name-forth (x ∷ b) n rest e = name_byte x b n rest (name b) (eqb x 0) refl e (λ i j k. name-forth b i j k)

pub exact_name : Exact name NameFits put_name
exact_name = record { back = name_back; forth = λ b n rest h e. name-forth b n rest e }
