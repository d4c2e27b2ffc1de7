-- Demand 2 for trace.dat: a file is accepted exactly when it is the layout of a header that fits, and then any bytes.
-- Assumes nothing.
use Rattle.std.specs.Prelude.{◌≡◌, refl, true, cond, ◌↔◌, ℕ, ◌≤◌, List, ◌++◌, length, leb}
use Rattle.std.proofs.Common.{ap, subst, append-nil, le-leb, leb-true}
use Rattle.refusals.specs.Refusal.{limit, too_long, bad_range, ranges_overlap}
use Rattle.fields.specs.Number.{Bytes}
use Rattle.fields.specs.Answer.{accepted, refused, next, next_inv, cond_inv}
use Rattle.fields.specs.Exact.{Exact, exact_give, exact_then, exact_as}
use Rattle.dat_format.specs.Header.{Header, encode}
use Rattle.dat_format.specs.Layout.{HeaderFits, ranges, Layout}
use Rattle.dat_format.specs.Tests.{in_file, all, all_apart}
use Rattle.dat_format.specs.RangeLaws.{all-in_file, none_overlap}
use Rattle.dat_format.specs.Decode.{header, checked, decode}
use Rattle.dat_format.specs.ExactSections.{exact_opening, exact_sections, exact_texts}
use Rattle.dat_format.specs.ExactTail.{exact_tail}

pub exact_header : Exact header HeaderFits encode
unfolding header encode
exact_header =
    exact_as
    (exact_then exact_opening (λ p. exact_then (exact_sections p.order) (λ s. exact_then (exact_texts p.order)
    (λ t. exact_then (exact_tail p.order t.cpus) (λ e. exact_give (record { opening = p; sections = s; texts = t; tail = e }))
    (λ h. h.tail) (λ e h f k. ap (λ h. h.tail) k))
    (λ h. h.texts) (λ e h f k. ap (λ h. h.texts) k.1))
    (λ h. h.sections) (λ e h f k. ap (λ h. h.sections) k.1.1))
    (λ h. h.opening) (λ e h f k. ap (λ h. h.opening) k.1.1.1))
    (λ h f. ((f.0, (f.1, (f.2, (f.3, refl)))), simp append-nil))
    (λ h f. ((f.0, f.1.0, f.1.1.0, f.1.1.1.0), simp append-nil))

-- a header that may open b opens it
abbrev pub Opens : List ℕ → Header → Type 0
Opens b h = Layout (length b) h × ((rest : List ℕ) × (encode h ++ rest ≡ b))

pub checked_inv : (total : ℕ) (h g : Header) → checked total h ≡ accepted g
    → (h ≡ g) × (all (in_file h.opening.page (length (encode h)) total) (ranges h.tail.ending) ≡ true) × (all_apart (ranges h.tail.ending) ≡ true)
unfolding checked
checked_inv total h g e =
    let rs = ranges h.tail.ending in
    let q = cond_inv (all (in_file h.opening.page (length (encode h)) total) rs) (cond (all_apart rs) (accepted h) (refused ranges_overlap)) bad_range e in
    let r = cond_inv (all_apart rs) (accepted h) ranges_overlap q.1 in
    (cc, q.0, r.0)

opens : (b rest : List ℕ) (h g : Header) → length b ≤ limit → HeaderFits h × (encode h ++ rest ≡ b) → checked (length b) h ≡ accepted g → Opens b g
opens b rest h g k f e =
    let rs = ranges h.tail.ending in
    let c = checked_inv (length b) h g e in
    let l : Layout (length b) h = record {
      length-fits = k;
      fits = f.0;
      in_file_lem = (all-in_file h.opening.page (length (encode h)) (length b) rs).0 c.1;
      no_overlap = (none_overlap rs).0 c.2;
    } in
    subst (Opens b) c.0 (l, (rest, f.1))

decode-back : (b rest : List ℕ) (h : Header) → Layout (length b) h → encode h ++ rest ≡ b → decode b ≡ accepted h
unfolding decode checked
decode-back b rest h l e =
    let r : header b ≡ accepted (h, rest) = subst (λ b. header b ≡ accepted (h, rest)) e (exact_header.back h rest l.fits) in
    let rs = ranges h.tail.ending in
    let i = (all-in_file h.opening.page (length (encode h)) (length b) rs).1 l.in_file_lem in
    rw (le-leb (length b) limit l.length-fits, r, i, (none_overlap rs).1 l.no_overlap)

pub exactness : (b : List ℕ) (h : Header) → Bytes b → (decode b ≡ accepted h) ↔ Opens b h
unfolding decode
exactness b h hb = (
  (λ e.
      let q = cond_inv (leb (length b) limit) (next (header b) (λ r. checked (length b) r.0)) too_long e in
      let s = next_inv (header b) (λ r. checked (length b) r.0) q.1 in
      opens b s.0.1 s.0.0 h (leb-true (length b) limit q.0) (exact_header.forth b s.0.0 s.0.1 hb s.1) s.2),
  (λ o. decode-back b o.1.0 h o.0 o.1.1),
)
