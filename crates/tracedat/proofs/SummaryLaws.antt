-- What `summary` and `cpu_range` answer in each case that the code tells apart.
-- Assumes nothing.
use mathlib.Core.Path.{◌≡◌, refl, sym, ap, ap₂, ◌∙◌, subst}
use mathlib.Core.Bool.{Bool, true, false, cond}
use Prim.Native.Nat.{ℕ, ◌+◌, ◌*◌, ◌<◌, ◌≤◌}
use native.Mathlib.Omega.{arith}
use mathlib.Core.List.{List, ◌++◌}
use lib.ListN.{length, drop}
use borrow.Author.Tests.{le-leb, lt-leb}
use Rattle.std.specs.Prelude.{Result, Ok, Err}
use Rattle.refusals.specs.Number.{number}
use Rattle.refusals.specs.Refusal.{limit, too_long, not_found, bad_range, ranges_overlap}
use Rattle.fields.specs.Lists.{clash}
use Rattle.fields.specs.Number.{word_at}
use Rattle.fields.specs.Given.{bytes-given}
use Rattle.std.specs.Int.{w8}
use Rattle.std.proofs.Common.{Fits, get_or}
use Rattle.fields.specs.Answer.{Answer, accepted, refused, accepted-one, next, next_inv, refused_inv}
use Rattle.fields.specs.Reader.{seen_at}
use Rattle.fields.specs.Got.{Got, not_read, got}
use Rattle.fields.specs.Element.{nth}
use Rattle.fields.specs.declared.Order.{Order}
use Rattle.dat_format.specs.Header.{Range, Ending, latency, flyrecord, Header, encode}
use Rattle.dat_format.specs.Layout.{PageFits, HeaderFits, ranges}
use Rattle.dat_format.specs.Tests.{is_page, in_file, all, all_apart}
use Rattle.dat_format.specs.Pages.{page_fits}
use Rattle.dat_format.specs.Decode.{header, checked, decode}
use Rattle.dat_format.specs.Entries.{entry_at, entries, nth-entry, no-entry}
use Rattle.dat_format.specs.Exactness.{exact_header, exactness}
use Rattle.dat_read.specs.Summary.{kind_of, summary, summary_seen}
use Rattle.dat_read.specs.declared.summary.EndingKind.TheVariants.{Latency, Flyrecord}
use Rattle.dat_read.specs.declared.summary.Summary.{Summary}
use Rattle.dat_walk.specs.Parts.{entries_are}
use Rattle.dat_ranges.specs.Ranges.{range_of, possible, judgement, judged, judged-there, refusal_of}
use Rattle.dat_ranges.specs.declared.Test.{Test}
use Rattle.dat_ranges.specs.declared.Fault.{Fault}
use Rattle.dat_ranges.specs.declared.Fault.TheVariants.{Misplaced, Overlap}
use Rattle.tracedat.specs.Questions.{summed, cpu_range}

kind_latency : (e : Ending) → kind_of e ≡ Latency → e ≡ latency
kind_latency latency k = refl
kind_latency (flyrecord rs) k = clash (cc)

kind_fly : (e : Ending) → kind_of e ≡ Flyrecord → (rs : List Range) × (e ≡ flyrecord rs)
kind_fly latency k = clash (cc)
kind_fly (flyrecord rs) k = (rs, refl)

-- ---- a header that fits and opens s, and its summary

pub record Summarised (s : List ℕ) (sm : Summary) : Type 0 where
  pub whole : Header
  pub rest : List ℕ
  pub laid : encode whole ++ rest ≡ s
  pub fits : HeaderFits whole
  pub sums : summary (length s) whole ≡ sm

module _ {s : List ℕ} {sm : Summary} (r : Summarised s sm) where
  abbrev ending : Ending
  ending = r.whole.tail.ending

  ending-is : kind_of ending ≡ sm.ending
  unfolding summary
  ending-is = ap (λ t. t.ending) r.sums

  is-text : sm.ending ≡ Latency → ending ≡ latency
  is-text k = kind_latency ending (ending-is ∙ k)

  page_same : r.whole.opening.page ≡ sm.flags.page
  unfolding summary
  page_same = ap (λ t. t.flags.page) r.sums

  is_page_lem : is_page sm.flags.page ≡ true
  is_page_lem = (page_fits _).1 (subst PageFits page_same r.fits.0.1)

  -- the entries, where the summary says
  abbrev Stored : Summary → Type 0
  Stored t = (t.body.place + 16 * t.texts.cpus ≤ length s) × (entries t.flags.order s t.texts.cpus t.body.place ≡ ranges ending)

  stored_are : sm.ending ≡ Flyrecord → Stored sm
  unfolding summary
  stored_are k =
      let f = kind_fly ending (ending-is ∙ k) in
      let q = entries_are s r.rest r.whole r.laid r.fits f.0 f.1 in
      subst Stored r.sums (q.0, q.1 ∙ sym (ap ranges f.1))

  pub room : sm.ending ≡ Flyrecord → sm.body.place + 16 * sm.texts.cpus ≤ length s
  room k = (stored_are k).0

-- ---- the summary

pub too_long_lem : (s : List ℕ) → limit < length s → refused too_long ≡ summed s
unfolding summed decode
too_long_lem s h = rw (lt-leb (length s) limit h)

-- the answer that a judgement stands for
abbrev Judgement : Type 0
Judgement = Result (Unit {0}) Fault

answered : Judgement → Header → Answer Header
answered (Ok u) h = accepted h
answered (Err f) h = refused (number (refusal_of f))

checked-is : (total : ℕ) (h : Header)
    → checked total h ≡ answered (judgement (in_file h.opening.page (length (encode h)) total) (ranges h.tail.ending)) h
unfolding checked answered
checked-is total h =
    let rs = ranges h.tail.ending in
    by (all (in_file h.opening.page (length (encode h)) total) rs) (all_apart rs)
  where
    by : (p q : Bool) → cond p (cond q (accepted h) (refused ranges_overlap)) (refused bad_range)
        ≡ answered (cond p (cond q (Ok (tt {0})) (Err Overlap)) (Err Misplaced)) h
    by true true = refl
    by true false = refl
    by false q = refl

decode-short : (s : List ℕ) → length s ≤ limit → decode s ≡ next (header s) (λ r. checked (length s) r.0)
unfolding decode
decode-short s short = rw (le-leb (length s) limit short)

-- a walk that was refused
pub bad_walk : (s : List ℕ) → length s ≤ limit → {n : ℕ} → refused n ≡ seen_at (summary_seen (length s)) header s 0 → refused n ≡ summed s
unfolding summed
bad_walk s short {n} e = rw (decode-short s short, not_read (summary_seen (length s)) header s 0 n e)

-- what the walk found in a file
pub record HeaderFound (s : List ℕ) (sm : Summary) (end : ℕ) : Type 0 where
  pub short : length s ≤ limit
  pub got : Got header HeaderFits encode s 0 end
  pub sums : summary (length s) got.value ≡ sm

pub header-found : {s : List ℕ} {sm : Summary} {end : ℕ} → ((i : ℕ) → Fits w8 (get_or s i 0)) → length s ≤ limit
    → accepted (sm, end) ≡ seen_at (summary_seen (length s)) header s 0 → HeaderFound s sm end
header-found {s} {sm} {end} b short e =
    let g = got exact_header s (bytes-given s b) 0 (omega arith) (summary_seen (length s)) sm end e in
    record { short = short; got = g.0; sums = g.1 }

module _ {s : List ℕ} {sm : Summary} {end : ℕ} (w : HeaderFound s sm end) where
  abbrev h : Header
  h = w.got.value

  abbrev summarised : Summarised s sm
  summarised = record { whole = h; rest = drop end s; laid = w.got.laid; fits = w.got.fits; sums = w.sums }

  end_is : length (encode h) ≡ end
  end_is = omega (arith, w.got.place)

  -- what the header's ranges are judged to be
  abbrev checks : Judgement
  checks = judgement (in_file h.opening.page (length (encode h)) (length s)) (ranges h.tail.ending)

  abbrev summed_as : Answer Header → Answer Summary
  summed_as x = next x (λ h. accepted (summary (length s) h))

  answers : (v : Judgement) → v ≡ checks → summed_as (answered v h) ≡ summed s
  unfolding summed
  answers v e =
      let d : decode s ≡ answered checks h =
      decode-short s w.short ∙ ap (λ x. next x (λ r. checked (length s) r.0)) w.got.reads ∙ checked-is (length s) h in
      ap (λ v. summed_as (answered v h)) e ∙ ap summed_as (sym d)

  sound : Ok tt ≡ checks → accepted sm ≡ summed s
  unfolding answered
  sound e = ap accepted (sym w.sums) ∙ answers (Ok tt) e

  pub accept_text : sm.ending ≡ Latency → accepted sm ≡ summed s
  accept_text k = sound (sym (ap (λ e. judgement (in_file h.opening.page (length (encode h)) (length s)) (ranges e)) (is-text summarised k)))

  module _ (k : sm.ending ≡ Flyrecord) where
    -- what the ranges are held to
    abbrev test : Test
    test = record { page = sm.flags.page; end = end; total = length s }

    abbrev Judged : Judgement → Type 0
    Judged v = v ≡ judged test sm.flags.order s sm.texts.cpus sm.body.place

    can_be_made : possible test ≡ true
    can_be_made = rw (le-leb (length s) limit w.short, is_page_lem summarised)

    checks-is : {v : Judgement} → Judged v → v ≡ checks
    checks-is e =
        e ∙ judged-there test sm.flags.order s sm.texts.cpus sm.body.place can_be_made (room summarised k)
        ∙ ap (judgement (in_file sm.flags.page end (length s))) (stored_are summarised k).1
        ∙ ap₂ (λ p n. judgement (in_file p n (length s)) (ranges h.tail.ending)) (sym (page_same summarised)) (sym end_is)

    pub bad_ranges : {f : Fault} → Judged (Err f) → refused (number (refusal_of f)) ≡ summed s
    unfolding answered
    bad_ranges {f} e = answers (Err f) (checks-is e)

    pub accept_entries : Judged (Ok tt) → accepted sm ≡ summed s
    accept_entries e = sound (checks-is e)

-- ---- a CPU's range

pub no_header : (s : List ℕ) (i : ℕ) {n : ℕ} → refused n ≡ summed s → refused n ≡ cpu_range i s
unfolding summed cpu_range
no_header s i {n} e = rw (refused_inv n (decode s) (λ h. summary (length s) h) e)

-- a file whose summary is sm
pub record Accepts (s : List ℕ) (sm : Summary) : Type 0 where
  pub summarised : Summarised s sm
  pub decodes : decode s ≡ accepted summarised.whole

pub accepts : {s : List ℕ} {sm : Summary} → ((i : ℕ) → Fits w8 (get_or s i 0)) → accepted sm ≡ summed s → Accepts s sm
unfolding summed
accepts {s} {sm} b e =
    let q = next_inv (decode s) (λ h. accepted (summary (length s) h)) (sym e) in
    let o = (exactness s q.0 (bytes-given s b)).0 q.1 in
    record {
      summarised = record { whole = q.0; rest = o.1.0; laid = o.1.1; fits = o.0.fits; sums = accepted-one q.2 };
      decodes = q.1;
    }

module _ {s : List ℕ} {sm : Summary} (w : Accepts s sm) (i : ℕ) where
  range-is : (x : Answer Range) → nth (ranges w.summarised.whole.tail.ending) i ≡ x → x ≡ cpu_range i s
  unfolding cpu_range
  range-is x f = sym f ∙ sym (ap (λ y. next y (λ h. nth (ranges h.tail.ending) i)) w.decodes)

  pub none_in_text : sm.ending ≡ Latency → refused not_found ≡ cpu_range i s
  none_in_text k = range-is (refused not_found) (ap (λ e. nth (ranges e) i) (is-text w.summarised k))

  module _ (k : sm.ending ≡ Flyrecord) where
    abbrev order : Order
    order = sm.flags.order

    abbrev place : ℕ
    place = sm.body.place + 16 * i

    listed : (x : Answer Range) → nth (entries order s sm.texts.cpus sm.body.place) i ≡ x → x ≡ cpu_range i s
    listed x f = range-is x (ap (λ l. nth l i) (sym (stored_are w.summarised k).1) ∙ f)

    pub no-cpu : sm.texts.cpus ≤ i → refused not_found ≡ cpu_range i s
    no-cpu l = listed (refused not_found) (no-entry order s sm.texts.cpus i sm.body.place l)

    pub the_range_lem : i < sm.texts.cpus → {a n : ℕ} → a ≡ word_at order 8 s place → n ≡ word_at order 8 s (place + 8) → accepted (range_of a n) ≡ cpu_range i s
    the_range_lem l ea en =
        ap₂ (λ a n. accepted (range_of a n)) ea en
        ∙ listed (accepted (entry_at order s place)) (nth-entry order s sm.texts.cpus i sm.body.place l)
