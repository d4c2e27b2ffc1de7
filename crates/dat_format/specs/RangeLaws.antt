-- The reader's tests of the CPU ranges against the layout's words: each lets through just the ranges that fit.
-- Assumes nothing.
use Rattle.std.specs.Prelude.{◌≡◌, refl, Bool, true, ◌&&◌, ◌↔◌, ℕ, ◌+◌, List, [], ◌∷◌, leb, eqb}
use Rattle.std.proofs.Math.Bool.{or-true}
use Rattle.std.proofs.Math.Logic.{by_cases}
use Rattle.std.proofs.Common.{lt_of_not-le, arith, eqb-true, eq-eqb, leb-true, le-leb}
use Rattle.std.proofs.Math.Decide.{dec_le}
use Rattle.fields.specs.Lists.{Each}
use Rattle.fields.specs.Word.{and_inv}
use Rattle.dat_format.specs.Header.{Range}
use Rattle.dat_format.specs.Layout.{LiesInFile, NoneInBoth, EachTwo}
use Rattle.dat_format.specs.Tests.{aligned, in_file, apart, all, all_apart}
use Rattle.dat_format.specs.Pages.{or_elim}
use Rattle.dat_format.specs.Alignment.{aligned-is}

-- ---- one range

in_file-is : (page end total : ℕ) (r : Range) → (in_file page end total r ≡ true) ↔ LiesInFile page end total r
in_file-is page end total r = (forth, back)
  where
    forth : in_file page end total r ≡ true → LiesInFile page end total r
    forth e some =
        or_elim (eqb r.size 0) _ e (λ t. absurd (omega (arith, eqb-true r.size 0 t))) (λ e.
        let q = and_inv (aligned page r.offset) (leb end r.offset && leb (r.offset + r.size) total) e in
        let p = and_inv (leb end r.offset) (leb (r.offset + r.size) total) q.1 in
        ((aligned-is page r.offset).0 q.0, leb-true end r.offset p.0, leb-true (r.offset + r.size) total p.1))

    back : LiesInFile page end total r → in_file page end total r ≡ true
    back h =
        by_cases (dec_le r.size 0) (λ z. rw (eq-eqb r.size 0 (omega arith))) (λ z.
        let q = h (lt_of_not-le z) in
        rw ((aligned-is page r.offset).1 q.0, le-leb end r.offset q.1, le-leb (r.offset + r.size) total q.2) (or-true (eqb r.size 0)))

-- ---- two ranges

apart-is : (r q : Range) → (apart r q ≡ true) ↔ NoneInBoth r q
apart-is r q = (
  (λ e x i j.
      or_elim (eqb r.size 0) _ e (λ t. omega (arith, eqb-true r.size 0 t))
      (λ e. or_elim (eqb q.size 0) _ e (λ t. omega (arith, eqb-true q.size 0 t))
      (λ e. or_elim (leb (r.offset + r.size) q.offset) _ e (λ t. omega (arith, leb-true (r.offset + r.size) q.offset t))
      (λ t. omega (arith, leb-true (q.offset + q.size) r.offset t))))),
  back,
)
  where
    back : NoneInBoth r q → apart r q ≡ true
    back clear =
        by_cases (dec_le r.size 0) (λ h. rw (eq-eqb r.size 0 (omega arith)))
        (λ h. by_cases (dec_le q.size 0) (λ k. rw (eq-eqb q.size 0 (omega arith)) (or-true (eqb r.size 0)))
        (λ k. by_cases (dec_le (r.offset + r.size) q.offset)
        (λ l. rw (le-leb (r.offset + r.size) q.offset l) (rw (or-true (eqb q.size 0)) (or-true (eqb r.size 0))))
        (λ l. by_cases (dec_le (q.offset + q.size) r.offset)
        (λ m. rw (le-leb (q.offset + q.size) r.offset m, or-true (leb (r.offset + r.size) q.offset), or-true (eqb q.size 0))
        (or-true (eqb r.size 0)))
        (λ m. by_cases (dec_le r.offset q.offset)
        (λ n. absurd (clear q.offset (n, omega (arith, lt_of_not-le l)) (omega arith, omega (arith, lt_of_not-le k))))
        (λ n. absurd (clear r.offset (omega arith, omega (arith, lt_of_not-le h)) (omega (arith, lt_of_not-le n), omega (arith, lt_of_not-le m))))))))

-- ---- all of them

all-each : {A : Type 0} (t : A → Bool) (P : A → Type 0) → ((a : A) → (t a ≡ true) ↔ P a) → (l : List A) → (all t l ≡ true) ↔ Each P l
all-each t P is [] = ((λ e. tt), (λ h. refl))
all-each t P is (a ∷ l) = (
  (λ e. let q = and_inv (t a) (all t l) e in ((is a).0 q.0, (all-each t P is l).0 q.1)),
  (λ h. rw ((is a).1 h.0, (all-each t P is l).1 h.1)),
)

pub all-in_file : (page end total : ℕ) (rs : List Range) → (all (in_file page end total) rs ≡ true) ↔ Each (LiesInFile page end total) rs
all-in_file page end total = all-each (in_file page end total) (LiesInFile page end total) (in_file-is page end total)

pub apart_from : (r : Range) (rs : List Range) → (all (apart r) rs ≡ true) ↔ Each (NoneInBoth r) rs
apart_from r = all-each (apart r) (NoneInBoth r) (apart-is r)

pub none_overlap : (rs : List Range) → (all_apart rs ≡ true) ↔ EachTwo NoneInBoth rs
none_overlap [] = ((λ e. tt), (λ h. refl))
none_overlap (r ∷ rs) = (
  (λ e. let q = and_inv (all (apart r) rs) (all_apart rs) e in ((apart_from r rs).0 q.0, (none_overlap rs).0 q.1)),
  (λ h. rw ((apart_from r rs).1 h.0, (none_overlap rs).1 h.1)),
)
