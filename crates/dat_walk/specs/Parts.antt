-- The parts that a summary names hold their sections' bytes.
-- Assumes nothing.
use Rattle.std.specs.Prelude.{◌≡◌, ℕ, ◌+◌, ◌-◌, ◌*◌, ◌≤◌, List, [], ◌∷◌, ◌++◌}
use Rattle.std.proofs.Math.Path.{refl, ap, subst}
use Rattle.std.proofs.Common.{sym, ap₂, ◌∙◌, append_assoc, take_at, take_all, drop-drop}
use Rattle.std.proofs.Math.Option.{Option, none, some}
use native.Mathlib.Omega.{arith}
use Rattle.std.proofs.Math.ListN.{length, take, drop, length-append}
use Rattle.std.proofs.Math.Seq.{drop_at}
use Rattle.fields.specs.Lists.{concat_map, Each}
use Rattle.fields.specs.Number.{Bytes, field, length-field}
use Rattle.fields.specs.Answer.{accepted, accepted_inj}
use Rattle.fields.specs.declared.Order.{Order}
use Rattle.dat_format.specs.Pieces.{times, put_sized, put_counted}
use Rattle.dat_format.specs.Header.{Opt, Range, Header, latency, flyrecord, options_word, fly_word, put_word, page_word, event_word, encode}
use Rattle.dat_format.specs.Header.{put_system, put_list, put_range, put_options, put_ending, put_opening, put_sections, put_texts, put_tail}
use Rattle.dat_format.specs.Layout.{RangeFits, EndingFits, HeaderFits}
use Rattle.dat_format.specs.Decode.{range, decode}
use Rattle.dat_format.specs.Entries.{entries, entries-read}
use Rattle.dat_format.specs.ExactPieces.{exact_times}
use Rattle.dat_format.specs.ExactTail.{exact_range}
use Rattle.dat_format.specs.Exactness.{exactness}
use Rattle.dat_read.specs.Summary.{part_to, kind_of, options_part, body_at, body_of, summary}
use Rattle.dat_read.specs.Read.{length-sized, length-counted}
use Rattle.dat_read.specs.declared.summary.Part.{Part}
use Rattle.dat_read.specs.declared.summary.Summary.{Summary}

abbrev pub bytes_in : List ℕ → Part → List ℕ
bytes_in b p = take p.size (drop p.place b)

-- x stands at `at` in b, and `rest` follows
record Holds (b : List ℕ) (at : ℕ) (x : List ℕ) : Type 0 where
  rest : List ℕ
  laid : drop at b ≡ x ++ rest

module _ {b : List ℕ} {at : ℕ} where
  front : {x : List ℕ} (y : List ℕ) → Holds b at (x ++ y) → Holds b at x
  front {x} y h = record { rest = y ++ h.rest; laid = h.laid ∙ append_assoc x y h.rest }

  back : (x : List ℕ) {y : List ℕ} → Holds b at (x ++ y) → Holds b (at + length x) y
  back x {y} h =
      let e = ap (drop (length x)) (h.laid ∙ append_assoc x y h.rest) in
      record { rest = h.rest; laid = sym (drop-drop (length x) at b) ∙ e ∙ drop_at x (y ++ h.rest) (length x) refl }

  moved : {to : ℕ} {x : List ℕ} → at ≡ to → Holds b at x → Holds b to x
  moved e h = record { rest = h.rest; laid = ap (λ i. drop i b) (sym e) ∙ h.laid }

  held : (p : Part) {x : List ℕ} → Holds b at x → at ≡ p.place → length x ≡ p.size → bytes_in b p ≡ x
  held p {x} h e l = ap₂ (λ n i. take n (drop i b)) (sym l) (sym e) ∙ ap (take (length x)) h.laid ∙ take_at x h.rest (length x) refl

module _ {b : List ℕ} {at : ℕ} (o : Order) where
  -- behind a number of w bytes
  number-back : (w n : ℕ) {x : List ℕ} → Holds b at (field o w n ++ x) → Holds b (at + w) x
  number-back w n h = let e : at + length (field o w n) ≡ at + w = omega (arith, length-field o w n) in moved e (back (field o w n) h)

  -- data behind its size, and elements behind their count
  sized-back : (w : ℕ) {d : List ℕ} → Holds b at (put_sized o w d) → Holds b (at + w) d
  sized-back w {d} h = number-back w (length d) h

  counted_back : {A : Type 0} (put : A → List ℕ) (l : List A) → Holds b at (put_counted o put l) → Holds b (at + 4) (concat_map put l)
  counted_back put l h = number-back 4 (length l) h

-- ---- a header that opens b

module _ (b rest : List ℕ) (h : Header) (laid : encode h ++ rest ≡ b) where
  abbrev o : Order
  o = h.opening.order

  abbrev parts : Summary
  parts = summary (length b) h

  whole : Holds b 0 (encode h)
  whole = record { rest = rest; laid = sym laid }

  -- ---- the sections

  abbrev start : ℕ
  start = length (put_opening h.opening)

  abbrev page_data : List ℕ
  page_data = put_sized o 8 h.sections.header_page

  abbrev event_data : List ℕ
  event_data = put_sized o 8 h.sections.header_event

  abbrev format_list : List ℕ
  format_list = put_counted o (put_sized o 8) h.sections.formats

  abbrev system_list : List ℕ
  system_list = put_counted o (put_system o) h.sections.systems

  abbrev lists : List ℕ
  lists = format_list ++ system_list

  abbrev later : List ℕ
  later = put_texts o h.texts ++ put_tail o h.tail

  after-opening : Holds b start (put_sections o h.sections ++ later)
  unfolding encode
  after-opening = moved {at = 0 + start} (omega arith) (back (put_opening h.opening) whole)

  from_page : Holds b (start + 12) (page_data ++ (event_word ++ (event_data ++ lists)))
  unfolding put_sections
  from_page = back page_word (front later after-opening)

  abbrev event_at : ℕ
  event_at = start + 12 + length page_data + 13

  from_event : Holds b event_at (event_data ++ lists)
  from_event = back event_word (back page_data from_page)

  abbrev formats_at : ℕ
  formats_at = event_at + length event_data

  from_formats : Holds b formats_at lists
  from_formats = back event_data from_event

  page_length : length page_data ≡ 8 + length h.sections.header_page
  page_length = length-sized o 8 h.sections.header_page

  event_length : length event_data ≡ 8 + length h.sections.header_event
  event_length = length-sized o 8 h.sections.header_event

  formats_length : length format_list ≡ 4 + length (concat_map (put_sized o 8) h.sections.formats)
  formats_length = length-counted o (put_sized o 8) h.sections.formats

  header_page_holds : bytes_in b parts.sections.header_page ≡ h.sections.header_page
  unfolding summary
  header_page_holds =
      held {at = start + 12 + 8} parts.sections.header_page (sized-back o 8 (front (event_word ++ (event_data ++ lists)) from_page)) (omega arith) refl

  header_event_holds : bytes_in b parts.sections.header_event ≡ h.sections.header_event
  unfolding summary
  header_event_holds =
      held {at = event_at + 8} parts.sections.header_event (sized-back o 8 (front lists from_event)) (omega (arith, page_length)) refl

  formats_hold : bytes_in b parts.sections.formats ≡ concat_map (put_sized o 8) h.sections.formats
  unfolding summary
  formats_hold =
      held {at = formats_at + 4} parts.sections.formats (counted_back o (put_sized o 8) h.sections.formats (front system_list from_formats))
      (omega (arith, page_length, event_length)) refl

  systems_hold : bytes_in b parts.sections.systems ≡ concat_map (put_system o) h.sections.systems
  unfolding summary
  systems_hold =
      held {at = formats_at + length format_list + 4} parts.sections.systems
      (counted_back o (put_system o) h.sections.systems (back format_list from_formats)) (omega (arith, page_length, event_length, formats_length)) refl

  -- ---- the texts

  abbrev texts : ℕ
  texts = start + length (put_sections o h.sections)

  abbrev symbols : List ℕ
  symbols = put_sized o 4 h.texts.kallsyms

  abbrev prints : List ℕ
  prints = put_sized o 4 h.texts.printk

  abbrev names : List ℕ
  names = put_sized o 8 h.texts.processes

  abbrev count : List ℕ
  count = field o 4 h.texts.cpus

  after-sections : Holds b texts later
  after-sections = back (put_sections o h.sections) after-opening

  from_kallsyms : Holds b texts (symbols ++ (prints ++ (names ++ count)))
  unfolding put_texts
  from_kallsyms = front (put_tail o h.tail) after-sections

  abbrev prints_at : ℕ
  prints_at = texts + length symbols

  from-printk : Holds b prints_at (prints ++ (names ++ count))
  from-printk = back symbols from_kallsyms

  symbols-length : length symbols ≡ 4 + length h.texts.kallsyms
  symbols-length = length-sized o 4 h.texts.kallsyms

  prints-length : length prints ≡ 4 + length h.texts.printk
  prints-length = length-sized o 4 h.texts.printk

  kallsyms_holds : bytes_in b parts.texts.kallsyms ≡ h.texts.kallsyms
  unfolding summary
  kallsyms_holds = held {at = texts + 4} parts.texts.kallsyms (sized-back o 4 (front (prints ++ (names ++ count)) from_kallsyms)) refl refl

  printk-holds : bytes_in b parts.texts.printk ≡ h.texts.printk
  unfolding summary
  printk-holds = held {at = prints_at + 4} parts.texts.printk (sized-back o 4 (front (names ++ count) from-printk)) (omega (arith, symbols-length)) refl

  processes_hold : bytes_in b parts.texts.processes ≡ h.texts.processes
  unfolding summary
  processes_hold =
      held {at = prints_at + length prints + 8} parts.texts.processes (sized-back o 8 (front count (back prints from-printk)))
      (omega (arith, symbols-length, prints-length)) refl

  -- ---- the options, and the entries or the text

  abbrev tail : ℕ
  tail = texts + length (put_texts o h.texts)

  abbrev option_bytes : List ℕ
  option_bytes = put_options o h.tail.options

  from_tail : Holds b tail (option_bytes ++ put_ending o h.tail.ending)
  unfolding put_tail
  from_tail = back (put_texts o h.texts) after-sections

  options_hold : (l : List Opt) → h.tail.options ≡ some l → bytes_in b parts.options ≡ put_list o l
  unfolding summary
  options_hold l e =
      let f : Holds b tail (put_word options_word ++ put_list o l) =
      subst (λ x. Holds b tail (put_options o x)) e (front (put_ending o h.tail.ending) from_tail) in
      ap (λ x. bytes_in b (options_part o (tail + 10) x)) e ∙ held {at = tail + 10} (options_part o (tail + 10) (some l)) (back (put_word options_word) f) refl refl

  abbrev body_place : ℕ
  body_place = body_at o (tail + 10) h.tail.options

  body_is : (x : Option (List Opt)) → tail + length (put_options o x) + 10 ≡ body_at o (tail + 10) x
  body_is none = omega arith
  body_is (some l) = omega (arith, length-append (put_word options_word) (put_list o l))

  from-ending : Holds b (tail + length option_bytes) (put_ending o h.tail.ending)
  from-ending = back option_bytes from_tail

  module _ (rs : List Range) (e : h.tail.ending ≡ flyrecord rs) where
    from_entries : Holds b body_place (concat_map (put_range o) rs)
    from_entries =
        moved {at = tail + length option_bytes + 10} (body_is h.tail.options)
        (back (put_word fly_word) (subst (λ e. Holds b (tail + length option_bytes) (put_ending o e)) e from-ending))

    end_is : length (encode h) ≡ body_place + length (concat_map (put_range o) rs)
    unfolding encode put_tail
    end_is =
        omega (
          arith,
          body_is h.tail.options,
          length-append (put_opening h.opening) (put_sections o h.sections ++ later),
          length-append (put_sections o h.sections) later,
          length-append (put_texts o h.texts) (put_tail o h.tail),
          length-append option_bytes (put_ending o h.tail.ending),
          ap (λ e. length (put_ending o e)) e,
          length-append (put_word fly_word) (concat_map (put_range o) rs),
        )

    body-entries : parts.body ≡ part_to body_place (length (encode h))
    unfolding summary
    body-entries = ap (λ e. body_of (kind_of e) body_place (length (encode h)) (length b)) e

    entries_hold : bytes_in b parts.body ≡ concat_map (put_range o) rs
    entries_hold = ap (bytes_in b) body-entries ∙ held (part_to body_place (length (encode h))) from_entries refl (omega (arith, end_is))

  text-holds : h.tail.ending ≡ latency → encode h ++ bytes_in b parts.body ≡ b
  unfolding summary
  text-holds e =
      let end = length (encode h) in
      let n : length b ≡ end + length rest = ap length (sym laid) ∙ length-append (encode h) rest in
      let d : drop end b ≡ rest = ap (drop end) (sym laid) ∙ drop_at (encode h) rest end refl in
      ap (λ e. encode h ++ bytes_in b (body_of (kind_of e) body_place end (length b))) e ∙ ap (λ r. encode h ++ take (length b - end) r) d
      ∙ ap (λ r. encode h ++ r) (take_all (length b - end) rest (omega arith)) ∙ laid

entries-length : (o : Order) (rs : List Range) → length (concat_map (put_range o) rs) ≡ 16 * length rs
entries-length o [] = refl
entries-length o (r ∷ rs) =
    omega (
      arith,
      entries-length o rs,
      length-append (put_range o r) (concat_map (put_range o) rs),
      length-append (field o 8 r.offset) (field o 8 r.size),
      length-field o 8 r.offset,
      length-field o 8 r.size,
    )

-- the ranges by their places: one entry after another, from where the body starts
pub entries_are : (b rest : List ℕ) (h : Header) → encode h ++ rest ≡ b → HeaderFits h → (rs : List Range) → h.tail.ending ≡ flyrecord rs
    → let at = (summary (length b) h).body.place in
    (at + 16 * h.texts.cpus ≤ length b) × (entries h.opening.order b h.texts.cpus at ≡ rs)
unfolding summary
entries_are b rest h laid fits rs e =
    let o = h.opening.order in
    let n = h.texts.cpus in
    let place = body_place b rest h laid in
    let f : (length rs ≡ n) × Each RangeFits rs = subst (EndingFits n) e fits.3.1 in
    let w = from_entries b rest h laid rs e in
    let l : place + 16 * n ≤ length b =
    omega (arith, entries-length o rs, f.0, end_is b rest h laid rs e, ap length laid, length-append (encode h) rest) in
    let r : times n (range o) (drop place b) ≡ accepted (rs, w.rest) =
    ap (times n (range o)) w.laid ∙ (exact_times (exact_range o) n).back rs w.rest f in
    let p : (summary (length b) h).body.place ≡ place = ap (λ q. q.place) (body-entries b rest h laid rs e) in
    (omega (arith, p, l), ap (entries o b n) p ∙ (accepted_inj (sym (entries-read o b n place l) ∙ r)).0)

-- ---- the whole

-- every part that the summary names holds its section's bytes
pub record SectionsHeld (b : List ℕ) (h : Header) : Type 0 where
  pub header_page_lem : bytes_in b (summary (length b) h).sections.header_page ≡ h.sections.header_page
  pub header_event_lem : bytes_in b (summary (length b) h).sections.header_event ≡ h.sections.header_event
  pub formats : bytes_in b (summary (length b) h).sections.formats ≡ concat_map (put_sized h.opening.order 8) h.sections.formats
  pub systems : bytes_in b (summary (length b) h).sections.systems ≡ concat_map (put_system h.opening.order) h.sections.systems
  pub kallsyms : bytes_in b (summary (length b) h).texts.kallsyms ≡ h.texts.kallsyms
  pub printk : bytes_in b (summary (length b) h).texts.printk ≡ h.texts.printk
  pub processes : bytes_in b (summary (length b) h).texts.processes ≡ h.texts.processes
  pub options : (l : List Opt) → h.tail.options ≡ some l → bytes_in b (summary (length b) h).options ≡ put_list h.opening.order l
  pub entries : (rs : List Range) → h.tail.ending ≡ flyrecord rs → bytes_in b (summary (length b) h).body ≡ concat_map (put_range h.opening.order) rs
  -- the text is all that follows the header
  pub text : h.tail.ending ≡ latency → encode h ++ bytes_in b (summary (length b) h).body ≡ b

pub parts_hold : (b : List ℕ) (h : Header) → Bytes b → decode b ≡ accepted h → SectionsHeld b h
parts_hold b h hb e =
    let q = ((exactness b h hb).0 e).1 in
    record {
      header_page_lem = header_page_holds b q.0 h q.1;
      header_event_lem = header_event_holds b q.0 h q.1;
      formats = formats_hold b q.0 h q.1;
      systems = systems_hold b q.0 h q.1;
      kallsyms = kallsyms_holds b q.0 h q.1;
      printk = printk-holds b q.0 h q.1;
      processes = processes_hold b q.0 h q.1;
      options = options_hold b q.0 h q.1;
      entries = entries_hold b q.0 h q.1;
      text = text-holds b q.0 h q.1;
    }
