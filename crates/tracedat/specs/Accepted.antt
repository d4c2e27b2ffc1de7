-- Which files the two questions answer, and with what: the theorem `exactness` joined to the public calls.
-- `Opens b h` says: b is no longer than the limit, the header h fits, its CPU ranges lie in b and apart, and b is h laid out, then any bytes.
-- Assumes nothing.
use Rattle.std.specs.Prelude.{◌≡◌, ◌↔◌, ℕ, List, length}
use Rattle.std.proofs.Common.{ap, ◌∙◌}
use Rattle.fields.specs.Number.{Bytes}
use Rattle.fields.specs.Answer.{Answer, accepted, accepted-one, next, next_inv}
use Rattle.fields.specs.Element.{nth}
use Rattle.dat_format.specs.Header.{Range, Header}
use Rattle.dat_format.specs.Layout.{ranges}
use Rattle.dat_format.specs.Decode.{decode}
use Rattle.dat_format.specs.Exactness.{Opens, exactness}
use Rattle.dat_read.specs.Summary.{summary}
use Rattle.dat_read.specs.declared.summary.Summary.{Summary}
use Rattle.tracedat.specs.Questions.{summed, cpu_range}

-- what is answered is answered of a header that opens the file
of_header : {A : Type 0} (b : List ℕ) (ask : Header → Answer A) (a : A) → Bytes b
    → (next (decode b) ask ≡ accepted a) ↔ ((h : Header) × Opens b h × (ask h ≡ accepted a))
of_header b ask a hb = (
  (λ e. let q = next_inv (decode b) ask e in (q.0, (exactness b q.0 hb).0 q.1, q.2)),
  (λ o. ap (λ x. next x ask) ((exactness b o.0 hb).1 o.1) ∙ o.2),
)

-- `summary` accepts, with the summary sm, exactly the files that open with a header that fits and whose summary is sm
pub summary_exactly : (b : List ℕ) (sm : Summary) → Bytes b → (summed b ≡ accepted sm) ↔ ((h : Header) × Opens b h × (summary (length b) h ≡ sm))
unfolding summed
summary_exactly b sm hb =
    let is = of_header b (λ h. accepted (summary (length b) h)) sm hb in
    ((λ e. let o = is.0 e in (o.0, o.1, accepted-one o.2)), (λ o. is.1 (o.0, o.1, ap accepted o.2)))

-- `cpu_range` answers, with the range r, exactly where the file opens with a header that fits and entry i of it is r
pub range_exactly : (b : List ℕ) (i : ℕ) (r : Range) → Bytes b
    → (cpu_range i b ≡ accepted r) ↔ ((h : Header) × Opens b h × (nth (ranges h.tail.ending) i ≡ accepted r))
unfolding cpu_range
range_exactly b i r hb = of_header b (λ h. nth (ranges h.tail.ending) i) r hb
