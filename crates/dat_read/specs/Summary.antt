-- The summary of a header: where each section stands.
-- Assumes nothing: these are definitions.
use Rattle.std.proofs.Math.Option.{Option, none, some}
use Rattle.std.specs.Prelude.{ℕ, ◌+◌, ◌-◌, List, length}
use Rattle.fields.specs.Lists.{concat_map}
use Rattle.fields.specs.declared.Order.{Order}
use Rattle.dat_format.specs.Pieces.{put_sized}
use Rattle.dat_format.specs.Header.{Opening, Sections, Texts, Opt, Ending, latency, flyrecord, Tail, Header}
use Rattle.dat_format.specs.Header.{put_system, put_list, put_opening, put_sections, put_texts, encode}
use Rattle.dat_read.specs.declared.summary.Part.{Part}
use Rattle.dat_read.specs.declared.summary.Flags.{Flags}
use Rattle.dat_read.specs.declared.summary.SectionParts.{SectionParts}
use Rattle.dat_read.specs.declared.summary.TextParts.{TextParts}
use Rattle.dat_read.specs.declared.summary.EndingKind.{EndingKind}
use Rattle.dat_read.specs.declared.summary.EndingKind.TheVariants.{Latency, Flyrecord}
use Rattle.dat_read.specs.declared.summary.Summary.{Summary}
use Rattle.dat_read.specs.declared.summary.TailParts.{TailParts}

abbrev pub part : ℕ → ℕ → Part
part at n = record { place = at; size = n }

abbrev pub part_to : ℕ → ℕ → Part
part_to at next = part at (next - at)

-- ---- what each stretch of a header shows, where it starts at `at`

abbrev pub flags_seen : ℕ → Opening → Flags
flags_seen at h = record { order = h.order; long = h.long; page = h.page }

-- `header_page` NUL and its size are 20 bytes, `header_event` NUL and its size 21, a count 4
abbrev pub section_parts : Order → ℕ → Sections → SectionParts
section_parts o at h =
    let page = at + 20 in
    let event = page + length h.header_page + 21 in
    let formats = event + length h.header_event + 4 in
    let formatsSize = length (concat_map (put_sized o 8) h.formats) in
    let systems = formats + formatsSize + 4 in
    record {
      header_page = part page (length h.header_page);
      header_event = part event (length h.header_event);
      formats = part formats formatsSize;
      systems = part systems (length (concat_map (put_system o) h.systems));
      format_count = length h.formats;
      system_count = length h.systems;
    }

abbrev pub text_parts : ℕ → Texts → TextParts
text_parts at h =
    let printk = at + 4 + length h.kallsyms + 4 in
    let processes = printk + length h.printk + 8 in
    record {
      kallsyms = part (at + 4) (length h.kallsyms);
      printk = part printk (length h.printk);
      processes = part processes (length h.processes);
      cpus = h.cpus;
    }

abbrev pub kind_of : Ending → EndingKind
kind_of latency = Latency
kind_of (flyrecord rs) = Flyrecord

-- The options, from the first type through the closing 0, and where the entries or the text start; `at` is the end of the first word.
abbrev pub options_part : Order → ℕ → Option (List Opt) → Part
options_part o at none = part 0 0
options_part o at (some l) = part at (length (put_list o l))

abbrev pub body_at : Order → ℕ → Option (List Opt) → ℕ
body_at o at none = at
body_at o at (some l) = at + length (put_list o l) + 10

abbrev pub ending_parts : Part → ℕ → Ending → TailParts
ending_parts p at e = record { options = p; ending = kind_of e; place = at }

abbrev pub tail_parts_after : Order → ℕ → Tail → TailParts
tail_parts_after o at t = ending_parts (options_part o at t.options) (body_at o at t.options) t.ending

abbrev pub tail_parts : Order → ℕ → Tail → TailParts
tail_parts o at t = tail_parts_after o (at + 10) t

-- ---- the whole

-- the entries, or the text up to the file's end
abbrev pub body_of : EndingKind → ℕ → ℕ → ℕ → Part
body_of Latency place end total = part_to end total
body_of Flyrecord place end total = part_to place end

-- of a header at the start of a file of `total` bytes
unfoldable pub summary : ℕ → Header → Summary
summary total h =
    let o = h.opening.order in
    let sections = length (put_opening h.opening) in
    let texts = sections + length (put_sections o h.sections) in
    let tail = texts + length (put_texts o h.texts) in
    let t = tail_parts o tail h.tail in
    record {
      flags = flags_seen 0 h.opening;
      sections = section_parts o sections h.sections;
      texts = text_parts texts h.texts;
      options = t.options;
      ending = t.ending;
      body = body_of t.ending t.place (length (encode h)) total;
    }

abbrev pub summary_seen : ℕ → ℕ → Header → Summary
summary_seen total at h = summary total h
