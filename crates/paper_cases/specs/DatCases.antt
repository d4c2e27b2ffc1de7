-- Document 01's cases of trace.dat, and both sides of its rules, as one table with one statement about it; the bytes are written out.
-- Assumes nothing.
use Rattle.std.specs.Prelude.{◌≡◌, refl, ℕ, ◌-◌, ◌^◌, List, [], ◌∷◌, ◌++◌, take, replicate}
use Rattle.fields.specs.Lists.{Each}
use Rattle.fields.specs.Answer.{Answer, accepted, refused, next}
use Rattle.fields.specs.declared.Order.{Order}
use Rattle.fields.specs.declared.Order.TheVariants.{Little, Big}
use Rattle.dat_format.specs.Header.{put_opening, put_sections, put_texts, put_tail, encode}
use Rattle.dat_format.specs.Decode.{sizes, flags, opening, system, sections, texts, word, options, range, ending, tail_after, tail, header, checked, decode}
use Rattle.dat_read.specs.Summary.{summary}
use Rattle.dat_read.specs.declared.summary.Part.{Part}
use Rattle.dat_read.specs.declared.summary.Flags.{Flags}
use Rattle.dat_read.specs.declared.summary.SectionParts.{SectionParts}
use Rattle.dat_read.specs.declared.summary.TextParts.{TextParts}
use Rattle.dat_read.specs.declared.summary.EndingKind.{EndingKind}
use Rattle.dat_read.specs.declared.summary.EndingKind.TheVariants.{Latency, Flyrecord}
use Rattle.dat_read.specs.declared.summary.Summary.{Summary}
use Rattle.tracedat.specs.Questions.{summed, cpu_range}

-- ---- a case: a question about a file, and its reply

pub data Question : Type 0 where
  the_summary : Question
  the_range : ℕ → Question  -- of a CPU

pub data Reply : Type 0 where
  sums : Summary → Reply
  place : ℕ × ℕ → Reply  -- offset and size

pub record Case : Type 0 where
  pub file : List ℕ
  pub question : Question
  pub reply : Answer Reply

abbrev about : List ℕ → Question → Answer Reply
about b the_summary = next (summed b) (λ s. accepted (sums s))
about b (the_range i) = next (cpu_range i b) (λ r. accepted (place (r.offset, r.size)))

abbrev Holds : Case → Type 0
Holds c = about c.file c.question ≡ c.reply

abbrev read : List ℕ → Summary → Case
read b s = record { file = b; question = the_summary; reply = accepted (sums s) }

abbrev no : List ℕ → ℕ → Case
no b n = record { file = b; question = the_summary; reply = refused n }

abbrev cpu : ℕ → List ℕ → Answer (ℕ × ℕ) → Case
cpu i b r = record { file = b; question = the_range i; reply = next r (λ p. accepted (place p)) }

-- ---- bytes

-- 17 08 44, `tracing`, `6` NUL; little, 8, 4,096
abbrev start : List ℕ
start = 0x17 ∷ 8 ∷ 0x44 ∷ 0x74 ∷ 0x72 ∷ 0x61 ∷ 0x63 ∷ 0x69 ∷ 0x6E ∷ 0x67 ∷ 0x36 ∷ 0 ∷ []

abbrev little : List ℕ
little = 0 ∷ 8 ∷ 0 ∷ 0x10 ∷ 0 ∷ 0 ∷ []

-- `header_page` NUL, `header_event` NUL
abbrev page_text : List ℕ
page_text = 0x68 ∷ 0x65 ∷ 0x61 ∷ 0x64 ∷ 0x65 ∷ 0x72 ∷ 0x5F ∷ 0x70 ∷ 0x61 ∷ 0x67 ∷ 0x65 ∷ 0 ∷ []

abbrev event_text : List ℕ
event_text = 0x68 ∷ 0x65 ∷ 0x61 ∷ 0x64 ∷ 0x65 ∷ 0x72 ∷ 0x5F ∷ 0x65 ∷ 0x76 ∷ 0x65 ∷ 0x6E ∷ 0x74 ∷ 0 ∷ []

-- `options  ` NUL, `latency  ` NUL, `flyrecord` NUL
abbrev options_text : List ℕ
options_text = 0x6F ∷ 0x70 ∷ 0x74 ∷ 0x69 ∷ 0x6F ∷ 0x6E ∷ 0x73 ∷ 0x20 ∷ 0x20 ∷ 0 ∷ []

abbrev latency : List ℕ
latency = 0x6C ∷ 0x61 ∷ 0x74 ∷ 0x65 ∷ 0x6E ∷ 0x63 ∷ 0x79 ∷ 0x20 ∷ 0x20 ∷ 0 ∷ []

abbrev flyrecord : List ℕ
flyrecord = 0x66 ∷ 0x6C ∷ 0x79 ∷ 0x72 ∷ 0x65 ∷ 0x63 ∷ 0x6F ∷ 0x72 ∷ 0x64 ∷ 0 ∷ []

-- 97 bytes: page size 4,096, every other section size and count 0, ending `flyrecord`
abbrev whole_file : List ℕ
whole_file =
    -- 17 08 44, `tracing`, `6` NUL
    0x17 ∷ 8 ∷ 0x44 ∷ 0x74 ∷ 0x72 ∷ 0x61 ∷ 0x63 ∷ 0x69 ∷ 0x6E ∷ 0x67 ∷ 0x36 ∷ 0 ∷
    -- little, 8, 4,096
    0 ∷ 8 ∷ 0 ∷ 0x10 ∷ 0 ∷ 0 ∷
    -- `header_page` NUL, 0
    0x68 ∷ 0x65 ∷ 0x61 ∷ 0x64 ∷ 0x65 ∷ 0x72 ∷ 0x5F ∷ 0x70 ∷ 0x61 ∷ 0x67 ∷ 0x65 ∷ 0 ∷ 0 ∷ 0 ∷ 0 ∷ 0 ∷ 0 ∷ 0 ∷ 0 ∷ 0 ∷
    -- `header_event` NUL, 0
    0x68 ∷ 0x65 ∷ 0x61 ∷ 0x64 ∷ 0x65 ∷ 0x72 ∷ 0x5F ∷ 0x65 ∷ 0x76 ∷ 0x65 ∷ 0x6E ∷ 0x74 ∷ 0 ∷ 0 ∷ 0 ∷ 0 ∷ 0 ∷ 0 ∷ 0 ∷ 0 ∷ 0 ∷
    -- no ftrace formats, no systems
    0 ∷ 0 ∷ 0 ∷ 0 ∷ 0 ∷ 0 ∷ 0 ∷ 0 ∷
    -- kallsyms, printk formats, process names
    0 ∷ 0 ∷ 0 ∷ 0 ∷ 0 ∷ 0 ∷ 0 ∷ 0 ∷ 0 ∷ 0 ∷ 0 ∷ 0 ∷ 0 ∷ 0 ∷ 0 ∷ 0 ∷
    -- no CPUs
    0 ∷ 0 ∷ 0 ∷ 0 ∷
    -- `flyrecord` NUL
    0x66 ∷ 0x6C ∷ 0x79 ∷ 0x72 ∷ 0x65 ∷ 0x63 ∷ 0x6F ∷ 0x72 ∷ 0x64 ∷ 0 ∷ []

-- with these flags and nothing in the sections, up to the CPU count
abbrev empty : List ℕ → List ℕ → List ℕ
empty given rest = start ++ given ++ page_text ++ replicate 8 0 ++ event_text ++ replicate 8 0 ++ replicate 24 0 ++ rest

-- n CPUs with these entries, and then k zeros; pages of 1,024
abbrev ranged : ℕ → List ℕ → ℕ → List ℕ
ranged n entries k = empty (0 ∷ 8 ∷ 0 ∷ 4 ∷ 0 ∷ 0 ∷ []) (n ∷ 0 ∷ 0 ∷ 0 ∷ flyrecord ++ entries ++ replicate k 0)

-- the two low bytes of an offset, and of a size
abbrev entry : ℕ → ℕ → ℕ → ℕ → List ℕ
entry a b c d = a ∷ b ∷ 0 ∷ 0 ∷ 0 ∷ 0 ∷ 0 ∷ 0 ∷ c ∷ d ∷ 0 ∷ 0 ∷ 0 ∷ 0 ∷ 0 ∷ 0 ∷ []

-- ranges at 1,024, 2,048, 5,120, 3,072 and 4,096, of a page each, the second longer by so many bytes
abbrev five : ℕ → List ℕ
five more = entry 0 4 0 4 ++ entry 0 8 more 4 ++ entry 0 0x14 0 4 ++ entry 0 0xC 0 4 ++ entry 0 0x10 0 4

-- pages of as many bytes as these two say, times 256; one CPU with one byte at an offset of these bytes, then k zeros
abbrev paged : ℕ → ℕ → List ℕ → ℕ → List ℕ
paged low high offset k = empty (0 ∷ 8 ∷ 0 ∷ low ∷ high ∷ 0 ∷ []) (1 ∷ 0 ∷ 0 ∷ 0 ∷ flyrecord ++ offset ++ 1 ∷ replicate 7 0 ++ replicate k 0)

-- the three low bytes of an offset, or of a size
abbrev at : ℕ → ℕ → ℕ → List ℕ
at a b c = a ∷ b ∷ c ∷ replicate 5 0

-- 911 bytes of kallsyms make a header of 1,024 bytes; pages of 1,024
abbrev to_the_page : List ℕ
to_the_page =
    start ++ (0 ∷ 8 ∷ 0 ∷ 4 ∷ 0 ∷ 0 ∷ []) ++ page_text ++ replicate 8 0 ++ event_text ++ replicate 16 0 ++ (0x8F ∷ 3 ∷ 0 ∷ 0 ∷ []) ++ replicate 923 0
    ++ (1 ∷ 0 ∷ 0 ∷ 0 ∷ flyrecord) ++ entry 0 4 1 0 ++ 0 ∷ []

-- big order, one CPU: 5 bytes at 1,024
abbrev big_range : List ℕ
big_range =
    empty (1 ∷ 8 ∷ 0 ∷ 0 ∷ 4 ∷ 0 ∷ [])
    (0 ∷ 0 ∷ 0 ∷ 1 ∷ flyrecord ++ replicate 6 0 ++ (4 ∷ 0 ∷ []) ++ replicate 7 0 ++ (5 ∷ []) ++ replicate 916 0)

-- data in every section
abbrev full : List ℕ
full =
    -- 17 08 44, `tracing`, `6` NUL
    0x17 ∷ 8 ∷ 0x44 ∷ 0x74 ∷ 0x72 ∷ 0x61 ∷ 0x63 ∷ 0x69 ∷ 0x6E ∷ 0x67 ∷ 0x36 ∷ 0 ∷
    -- byte order, long size, page size
    0 ∷ 8 ∷ 0 ∷ 4 ∷ 0 ∷ 0 ∷
    -- `header_page` NUL, size, data
    0x68 ∷ 0x65 ∷ 0x61 ∷ 0x64 ∷ 0x65 ∷ 0x72 ∷ 0x5F ∷ 0x70 ∷ 0x61 ∷ 0x67 ∷ 0x65 ∷ 0 ∷ 3 ∷ 0 ∷ 0 ∷ 0 ∷ 0 ∷ 0 ∷ 0 ∷ 0 ∷ 0xA1 ∷ 0xA2 ∷ 0xA3 ∷
    -- `header_event` NUL, size, data
    0x68 ∷ 0x65 ∷ 0x61 ∷ 0x64 ∷ 0x65 ∷ 0x72 ∷ 0x5F ∷ 0x65 ∷ 0x76 ∷ 0x65 ∷ 0x6E ∷ 0x74 ∷ 0 ∷ 2 ∷ 0 ∷ 0 ∷ 0 ∷ 0 ∷ 0 ∷ 0 ∷ 0 ∷ 0xB1 ∷ 0xB2 ∷
    -- two ftrace formats
    2 ∷ 0 ∷ 0 ∷ 0 ∷ 1 ∷ 0 ∷ 0 ∷ 0 ∷ 0 ∷ 0 ∷ 0 ∷ 0 ∷ 0xC1 ∷ 2 ∷ 0 ∷ 0 ∷ 0 ∷ 0 ∷ 0 ∷ 0 ∷ 0 ∷ 0xC2 ∷ 0xC3 ∷
    -- three systems: `ab` with a format, one with no name and no format, `c` with two
    3 ∷ 0 ∷ 0 ∷ 0 ∷ 0x61 ∷ 0x62 ∷ 0 ∷ 1 ∷ 0 ∷ 0 ∷ 0 ∷ 1 ∷ 0 ∷ 0 ∷ 0 ∷ 0 ∷ 0 ∷ 0 ∷ 0 ∷ 0xD1 ∷ 0 ∷ 0 ∷ 0 ∷ 0 ∷ 0 ∷ 0x63 ∷
    0 ∷ 2 ∷ 0 ∷ 0 ∷ 0 ∷ 0 ∷ 0 ∷ 0 ∷ 0 ∷ 0 ∷ 0 ∷ 0 ∷ 0 ∷ 2 ∷ 0 ∷ 0 ∷ 0 ∷ 0 ∷ 0 ∷ 0 ∷ 0 ∷ 0xD2 ∷ 0xD3 ∷
    -- kallsyms
    5 ∷ 0 ∷ 0 ∷ 0 ∷ 0xE0 ∷ 0xE1 ∷ 0xE2 ∷ 0xE3 ∷ 0xE4 ∷
    -- printk formats
    4 ∷ 0 ∷ 0 ∷ 0 ∷ 0xE8 ∷ 0xE9 ∷ 0xEA ∷ 0xEB ∷
    -- process names
    6 ∷ 0 ∷ 0 ∷ 0 ∷ 0 ∷ 0 ∷ 0 ∷ 0 ∷ 0xF0 ∷ 0xF1 ∷ 0xF2 ∷ 0xF3 ∷ 0xF4 ∷ 0xF5 ∷
    -- two CPUs
    2 ∷ 0 ∷ 0 ∷ 0 ∷
    -- options of types 1 and 3, and the closing 0
    0x6F ∷ 0x70 ∷ 0x74 ∷ 0x69 ∷ 0x6F ∷ 0x6E ∷ 0x73 ∷ 0x20 ∷ 0x20 ∷ 0 ∷ 1 ∷ 0 ∷ 2 ∷ 0 ∷ 0 ∷ 0 ∷ 0xF8 ∷ 0xF9 ∷ 3 ∷ 0 ∷ 0 ∷ 0 ∷ 0 ∷ 0 ∷ 0 ∷ 0 ∷
    -- 2,048 for 1,000 and 1,024 for 1,024
    0x66 ∷ 0x6C ∷ 0x79 ∷ 0x72 ∷ 0x65 ∷ 0x63 ∷ 0x6F ∷ 0x72 ∷ 0x64 ∷ 0 ∷ 0 ∷ 8 ∷ 0 ∷ 0 ∷ 0 ∷ 0 ∷ 0 ∷ 0 ∷ 0xE8 ∷ 3 ∷ 0 ∷ 0 ∷ 0 ∷ 0 ∷ 0 ∷ 0 ∷
    0 ∷ 4 ∷ 0 ∷ 0 ∷ 0 ∷ 0 ∷ 0 ∷ 0 ∷ 0 ∷ 4 ∷ 0 ∷ 0 ∷ 0 ∷ 0 ∷ 0 ∷ 0 ∷ []

-- the same in big order, with long size 4 and pages of 65,536, and a text
abbrev full_big : List ℕ
full_big =
    -- 17 08 44, `tracing`, `6` NUL
    0x17 ∷ 8 ∷ 0x44 ∷ 0x74 ∷ 0x72 ∷ 0x61 ∷ 0x63 ∷ 0x69 ∷ 0x6E ∷ 0x67 ∷ 0x36 ∷ 0 ∷
    -- byte order, long size, page size
    1 ∷ 4 ∷ 0 ∷ 1 ∷ 0 ∷ 0 ∷
    -- `header_page` NUL, size, data
    0x68 ∷ 0x65 ∷ 0x61 ∷ 0x64 ∷ 0x65 ∷ 0x72 ∷ 0x5F ∷ 0x70 ∷ 0x61 ∷ 0x67 ∷ 0x65 ∷ 0 ∷ 0 ∷ 0 ∷ 0 ∷ 0 ∷ 0 ∷ 0 ∷ 0 ∷ 3 ∷ 0xA1 ∷ 0xA2 ∷ 0xA3 ∷
    -- `header_event` NUL, size, data
    0x68 ∷ 0x65 ∷ 0x61 ∷ 0x64 ∷ 0x65 ∷ 0x72 ∷ 0x5F ∷ 0x65 ∷ 0x76 ∷ 0x65 ∷ 0x6E ∷ 0x74 ∷ 0 ∷ 0 ∷ 0 ∷ 0 ∷ 0 ∷ 0 ∷ 0 ∷ 0 ∷ 2 ∷ 0xB1 ∷ 0xB2 ∷
    -- two ftrace formats
    0 ∷ 0 ∷ 0 ∷ 2 ∷ 0 ∷ 0 ∷ 0 ∷ 0 ∷ 0 ∷ 0 ∷ 0 ∷ 1 ∷ 0xC1 ∷ 0 ∷ 0 ∷ 0 ∷ 0 ∷ 0 ∷ 0 ∷ 0 ∷ 2 ∷ 0xC2 ∷ 0xC3 ∷
    -- three systems: `ab` with a format, one with no name and no format, `c` with two
    0 ∷ 0 ∷ 0 ∷ 3 ∷ 0x61 ∷ 0x62 ∷ 0 ∷ 0 ∷ 0 ∷ 0 ∷ 1 ∷ 0 ∷ 0 ∷ 0 ∷ 0 ∷ 0 ∷ 0 ∷ 0 ∷ 1 ∷ 0xD1 ∷ 0 ∷ 0 ∷ 0 ∷ 0 ∷ 0 ∷ 0x63 ∷
    0 ∷ 0 ∷ 0 ∷ 0 ∷ 2 ∷ 0 ∷ 0 ∷ 0 ∷ 0 ∷ 0 ∷ 0 ∷ 0 ∷ 0 ∷ 0 ∷ 0 ∷ 0 ∷ 0 ∷ 0 ∷ 0 ∷ 0 ∷ 2 ∷ 0xD2 ∷ 0xD3 ∷
    -- kallsyms
    0 ∷ 0 ∷ 0 ∷ 7 ∷ 0xE0 ∷ 0xE1 ∷ 0xE2 ∷ 0xE3 ∷ 0xE4 ∷ 0xE5 ∷ 0xE6 ∷
    -- printk formats
    0 ∷ 0 ∷ 0 ∷ 4 ∷ 0xE8 ∷ 0xE9 ∷ 0xEA ∷ 0xEB ∷
    -- process names
    0 ∷ 0 ∷ 0 ∷ 0 ∷ 0 ∷ 0 ∷ 0 ∷ 6 ∷ 0xF0 ∷ 0xF1 ∷ 0xF2 ∷ 0xF3 ∷ 0xF4 ∷ 0xF5 ∷
    -- two CPUs
    0 ∷ 0 ∷ 0 ∷ 2 ∷
    -- options of types 1 and 3, and the closing 0
    0x6F ∷ 0x70 ∷ 0x74 ∷ 0x69 ∷ 0x6F ∷ 0x6E ∷ 0x73 ∷ 0x20 ∷ 0x20 ∷ 0 ∷ 0 ∷ 1 ∷ 0 ∷ 0 ∷ 0 ∷ 2 ∷ 0xF8 ∷ 0xF9 ∷ 0 ∷ 3 ∷ 0 ∷ 0 ∷ 0 ∷ 0 ∷ 0 ∷ 0 ∷
    -- the text
    0x6C ∷ 0x61 ∷ 0x74 ∷ 0x65 ∷ 0x6E ∷ 0x63 ∷ 0x79 ∷ 0x20 ∷ 0x20 ∷ 0 ∷ 0x61 ∷ 0x62 ∷ 0x63 ∷ []

-- ---- summaries

abbrev part : ℕ → ℕ → Part
part at n = record { place = at; size = n }

abbrev flags_of : Order → ℕ → ℕ → Flags
flags_of o long page = record { order = o; long = long; page = page }

-- of a header with nothing in its sections
abbrev no_sections : SectionParts
no_sections =
    record { header_page = part 38 0; header_event = part 59 0; formats = part 63 0; systems = part 67 0; format_count = 0; system_count = 0 }

abbrev no_texts : ℕ → TextParts
no_texts n = record { kallsyms = part 71 0; printk = part 75 0; processes = part 83 0; cpus = n }

abbrev summary_shown : Order → ℕ → ℕ → Part → EndingKind → Part → Summary
summary_shown o page n p e q = record { flags = flags_of o 8 page; sections = no_sections; texts = no_texts n; options = p; ending = e; body = q }

-- and no options
abbrev plain : Order → ℕ → ℕ → EndingKind → ℕ → Summary
plain o page n e size = summary_shown o page n (part 0 0) e (part 97 size)

abbrev full_summary : Summary
full_summary =
    record {
      flags = flags_of Little 8 1024;
      sections = record {
        header_page = part 38 3;
        header_event = part 62 2;
        formats = part 68 19;
        systems = part 91 45;
        format_count = 2;
        system_count = 3;
      };
      texts = record { kallsyms = part 140 5; printk = part 149 4; processes = part 161 6; cpus = 2 };
      options = part 181 16;
      ending = Flyrecord;
      body = part 207 32;
    }

abbrev big_summary : Summary
big_summary =
    record {
      flags = flags_of Big 4 65536;
      sections = record {
        header_page = part 38 3;
        header_event = part 62 2;
        formats = part 68 19;
        systems = part 91 45;
        format_count = 2;
        system_count = 3;
      };
      texts = record { kallsyms = part 140 7; printk = part 151 4; processes = part 163 6; cpus = 2 };
      options = part 183 16;
      ending = Latency;
      body = part 209 3;
    }

-- ---- the table
abbrev papers : List Case
papers =
    -- document 01: 97 bytes, accepted; without the last byte; CPU counts on both sides
    read whole_file (plain Little 4096 0 Flyrecord 0) ∷
    no (take 96 whole_file) 14 ∷
    read (empty little (0 ∷ 4 ∷ 0 ∷ 0 ∷ latency)) (plain Little 4096 1024 Latency 0) ∷
    no (empty little (1 ∷ 4 ∷ 0 ∷ 0 ∷ latency)) 16 ∷ []

abbrev strings : List Case
strings =
    -- each fixed string cut, and wholly there and wrong; one cut short is 14 also where it differs
    no [] 14 ∷
    no (0x17 ∷ 8 ∷ []) 14 ∷
    no (0x18 ∷ 8 ∷ []) 14 ∷
    no (0x17 ∷ 8 ∷ 0x45 ∷ []) 15 ∷
    no (0x17 ∷ 8 ∷ 0x44 ∷ 0x74 ∷ 0x72 ∷ 0x61 ∷ 0x63 ∷ 0x69 ∷ 0x6E ∷ []) 14 ∷
    no (0x17 ∷ 8 ∷ 0x44 ∷ 0x74 ∷ 0x72 ∷ 0x61 ∷ 0x63 ∷ 0x69 ∷ 0x6E ∷ 0x47 ∷ []) 15 ∷
    no (0x17 ∷ 8 ∷ 0x44 ∷ 0x74 ∷ 0x72 ∷ 0x61 ∷ 0x63 ∷ 0x69 ∷ 0x6E ∷ 0x67 ∷ 0x36 ∷ []) 14 ∷
    no (0x17 ∷ 8 ∷ 0x44 ∷ 0x74 ∷ 0x72 ∷ 0x61 ∷ 0x63 ∷ 0x69 ∷ 0x6E ∷ 0x67 ∷ 0x37 ∷ 0 ∷ []) 15 ∷
    no (0x17 ∷ 8 ∷ 0x44 ∷ 0x74 ∷ 0x72 ∷ 0x61 ∷ 0x63 ∷ 0x69 ∷ 0x6E ∷ 0x67 ∷ 0x36 ∷ 0x30 ∷ []) 15 ∷ []

abbrev later_strings : List Case
later_strings =
    -- `header_page`, `header_event` and the 10-byte word, likewise
    no (start ++ little ++ take 11 page_text) 14 ∷
    no (start ++ little ++ 0x68 ∷ 0x65 ∷ 0x61 ∷ 0x64 ∷ 0x65 ∷ 0x72 ∷ 0x5F ∷ 0x70 ∷ 0x61 ∷ 0x67 ∷ 0x45 ∷ 0 ∷ []) 15 ∷
    no (start ++ little ++ page_text ++ replicate 8 0 ++ take 12 event_text) 14 ∷
    no (start ++ little ++ page_text ++ replicate 8 0 ++ 0x68 ∷ 0x65 ∷ 0x61 ∷ 0x64 ∷ 0x65 ∷ 0x72 ∷ 0x5F ∷ 0x65 ∷ 0x76 ∷ 0x65 ∷ 0x6E ∷ 0x54 ∷ 0 ∷ []) 15 ∷
    no (empty little (0 ∷ 0 ∷ 0 ∷ 0 ∷ 0x66 ∷ 0x6C ∷ 0x79 ∷ 0x72 ∷ 0x65 ∷ 0x63 ∷ 0x6F ∷ 0x72 ∷ 0x44 ∷ 0 ∷ [])) 15 ∷
    no (empty little (0 ∷ 0 ∷ 0 ∷ 0 ∷ 0x6F ∷ 0x70 ∷ 0x74 ∷ 0x69 ∷ 0x6F ∷ 0x6E ∷ 0x73 ∷ 0x20 ∷ 0 ∷ 0 ∷ [])) 15 ∷
    -- the two texts exchanged
    no (start ++ little ++ event_text ++ replicate 8 0 ++ page_text ++ replicate 36 0 ++ flyrecord) 15 ∷ []

abbrev numbers : List Case
numbers =
    -- flags: byte order 2, long size 5, page sizes on both sides and between
    no (start ++ 2 ∷ []) 15 ∷
    no (start ++ 0 ∷ 5 ∷ []) 15 ∷
    no (start ++ 0 ∷ 8 ∷ 0 ∷ 2 ∷ 0 ∷ 0 ∷ []) 15 ∷
    no (start ++ 0 ∷ 8 ∷ 0 ∷ 0x0C ∷ 0 ∷ 0 ∷ []) 15 ∷
    no (start ++ 0 ∷ 8 ∷ 0 ∷ 0 ∷ 2 ∷ 0 ∷ []) 15 ∷
    no (start ++ 0 ∷ 8 ∷ 0 ∷ 0x10 ∷ 0 ∷ []) 14 ∷
    read (empty (0 ∷ 8 ∷ 0 ∷ 0 ∷ 1 ∷ 0 ∷ []) (0 ∷ 0 ∷ 0 ∷ 0 ∷ latency)) (plain Little 65536 0 Latency 0) ∷
    read (empty (1 ∷ 8 ∷ 0 ∷ 0 ∷ 4 ∷ 0 ∷ []) (0 ∷ 0 ∷ 0 ∷ 0 ∷ latency)) (plain Big 1024 0 Latency 0) ∷
    -- 2 ^ 32 - 1 formats in a short file; a size of 2 ^ 64 - 1; a name with no NUL
    no (take 59 whole_file ++ 0xFF ∷ 0xFF ∷ 0xFF ∷ 0xFF ∷ []) 14 ∷
    no (take 30 whole_file ++ replicate 8 0xFF) 14 ∷
    no (take 63 whole_file ++ 1 ∷ 0 ∷ 0 ∷ 0 ∷ 0x61 ∷ []) 14 ∷ []

abbrev tails : List Case
tails =
    -- the CPU count is judged ahead of the word: 1,025 and then nothing, or a wrong word; 1,024 and then nothing
    no (empty little (1 ∷ 4 ∷ 0 ∷ 0 ∷ [])) 16 ∷
    no (empty little (1 ∷ 4 ∷ 0 ∷ 0 ∷ replicate 10 0)) 16 ∷
    no (empty little (0 ∷ 4 ∷ 0 ∷ 0 ∷ [])) 14 ∷
    -- a list of its closing 0 alone; `options` a second time; options cut
    read (empty little (0 ∷ 0 ∷ 0 ∷ 0 ∷ options_text ++ 0 ∷ 0 ∷ flyrecord)) (summary_shown Little 4096 0 (part 97 2) Flyrecord (part 109 0)) ∷
    no (empty little (0 ∷ 0 ∷ 0 ∷ 0 ∷ options_text ++ 0 ∷ 0 ∷ options_text ++ 0 ∷ 0 ∷ flyrecord)) 15 ∷
    no (empty little (0 ∷ 0 ∷ 0 ∷ 0 ∷ options_text ++ 1 ∷ 0 ∷ 2 ∷ 0 ∷ 0 ∷ 0 ∷ 9 ∷ [])) 14 ∷ []

abbrev ranges : List Case
ranges =
    -- of 3,072 bytes with pages of 1,024: offset 2 ^ 64 - 4,096 with size 8,192; size 0 at 2 ^ 64 - 1
    no (ranged 1 (0 ∷ 0xF0 ∷ replicate 6 0xFF ++ 0 ∷ 0x20 ∷ replicate 6 0) 2959) 16 ∷
    read (ranged 1 (replicate 8 0xFF ++ replicate 8 0) 2959) (plain Little 1024 1 Flyrecord 16) ∷
    -- 1,024 for 2,048, up to the end; one byte more; before the header's end; misaligned
    read (ranged 1 (entry 0 4 0 8) 2959) (plain Little 1024 1 Flyrecord 16) ∷
    no (ranged 1 (entry 0 4 1 8) 2959) 16 ∷
    no (ranged 1 (entry 0 0 1 0) 2959) 16 ∷
    no (ranged 1 (entry 1 4 1 0) 2959) 16 ∷
    -- ranges that touch; that overlap by a byte; one within the other, a range of size 0 between them
    read (ranged 2 (entry 0 8 0 4 ++ entry 0 4 0 4) 2943) (plain Little 1024 2 Flyrecord 32) ∷
    no (ranged 2 (entry 0 8 0 4 ++ entry 0 4 1 4) 2943) 17 ∷
    no (ranged 3 (entry 0 4 0 8 ++ entry 0 4 0 0 ++ entry 0 8 1 0) 2927) 17 ∷
    -- the first two overlap and the third is misaligned: 16, and 14 where the third is not there
    no (ranged 3 (entry 0 4 1 4 ++ entry 0 8 0 4 ++ entry 1 8 1 0) 2927) 16 ∷
    no (empty (0 ∷ 8 ∷ 0 ∷ 4 ∷ 0 ∷ 0 ∷ []) (3 ∷ 0 ∷ 0 ∷ 0 ∷ flyrecord ++ entry 0 4 1 4 ++ entry 0 8 0 4)) 14 ∷
    -- a header of 1,024 bytes and a range of one byte right behind it; a range in big order
    cpu 0 to_the_page (accepted (1024, 1)) ∷
    cpu 0 big_range (accepted (1024, 5)) ∷ []

abbrev alignments : List Case
alignments =
    -- of each page size a range at the start of a page, up to the file's end, and one at half a page
    cpu 0 (paged 4 0 (at 0 4 0) 912) (accepted (1024, 1)) ∷
    no (paged 4 0 (at 0 2 0) 912) 16 ∷
    cpu 0 (paged 8 0 (at 0 8 0) 1936) (accepted (2048, 1)) ∷
    no (paged 8 0 (at 0 4 0) 1936) 16 ∷
    cpu 0 (paged 0x10 0 (at 0 0x10 0) 3984) (accepted (4096, 1)) ∷
    no (paged 0x10 0 (at 0 8 0) 3984) 16 ∷
    cpu 0 (paged 0x20 0 (at 0 0x20 0) 8080) (accepted (8192, 1)) ∷
    no (paged 0x20 0 (at 0 0x10 0) 8080) 16 ∷
    cpu 0 (paged 0x40 0 (at 0 0x40 0) 16272) (accepted (16384, 1)) ∷
    no (paged 0x40 0 (at 0 0x20 0) 16272) 16 ∷
    cpu 0 (paged 0x80 0 (at 0 0x80 0) 32656) (accepted (32768, 1)) ∷
    no (paged 0x80 0 (at 0 0x40 0) 32656) 16 ∷
    cpu 0 (paged 0 1 (at 0 0 1) 65424) (accepted (65536, 1)) ∷
    no (paged 0 1 (at 0 0x80 0) 65424) 16 ∷
    -- three bytes behind the start, with more than a byte and up to the file's end
    no (ranged 1 (entry 3 4 2 0) 2959) 16 ∷
    no (ranged 1 (entry 3 4 0xFD 7) 2959) 16 ∷
    -- a byte behind the start; 1,024 with the bit of 2 ^ 32, which is past the file
    no (paged 0 1 (at 1 0 1) 65425) 16 ∷
    no (paged 4 0 (0 ∷ 4 ∷ 0 ∷ 0 ∷ 1 ∷ 0 ∷ 0 ∷ 0 ∷ []) 912) 16 ∷ []

abbrev pairs : List Case
pairs =
    -- of five ranges out of order none overlap; the second and the fourth alone have a byte in common
    read (ranged 5 (five 0) 5967) (plain Little 1024 5 Flyrecord 80) ∷
    no (ranged 5 (five 1) 5967) 17 ∷
    -- a range of size 0 within another; a byte twice, and a page
    read (ranged 2 (entry 0 4 0 8 ++ entry 0 8 0 0) 2943) (plain Little 1024 2 Flyrecord 32) ∷
    no (ranged 2 (entry 0 4 1 0 ++ entry 0 4 1 0) 2943) 17 ∷
    no (ranged 2 (entry 0 4 0 4 ++ entry 0 4 0 4) 2943) 17 ∷ []

abbrev borders : List Case
borders =
    -- up to 65,536, the end of 64 units of 1,024 bytes, and from there on, the lower first and last; a byte in common; the unit before it twice
    read (ranged 2 (at 0 4 0 ++ at 0 0xFC 0 ++ at 0 0 1 ++ at 0 4 0) 66431) (plain Little 1024 2 Flyrecord 32) ∷
    read (ranged 2 (at 0 0 1 ++ at 0 4 0 ++ at 0 4 0 ++ at 0 0xFC 0) 66431) (plain Little 1024 2 Flyrecord 32) ∷
    no (ranged 2 (at 0 4 0 ++ at 1 0xFC 0 ++ at 0 0 1 ++ at 0 4 0) 66431) 17 ∷
    no (ranged 2 (at 0 0 1 ++ at 0 4 0 ++ at 0 4 0 ++ at 1 0xFC 0) 66431) 17 ∷
    no (ranged 2 (at 0 4 0 ++ at 0 0xFC 0 ++ at 0 0xFC 0 ++ at 1 0 0) 66431) 17 ∷ []

abbrev wholes : List Case
wholes =
    -- data in every section, and every part of the summary; then big, and a text
    read (full ++ replicate 2833 0) full_summary ∷
    read full_big big_summary ∷
    -- a CPU's range, as stored; no such CPU; a latency file has none; a file that is refused
    cpu 0 (full ++ replicate 2833 0) (accepted (2048, 1000)) ∷
    cpu 1 (full ++ replicate 2833 0) (accepted (1024, 1024)) ∷
    cpu 2 (full ++ replicate 2833 0) (refused 12) ∷
    cpu 0 (ranged 1 (replicate 8 0xFF ++ replicate 8 0) 2959) (accepted (2 ^ 64 - 1, 0)) ∷
    cpu 0 full_big (refused 12) ∷
    cpu 2 full (refused 16) ∷ []

abbrev table : List (List Case)
table = papers ∷ strings ∷ later_strings ∷ numbers ∷ tails ∷ ranges ∷ alignments ∷ pairs ∷ borders ∷ wholes ∷ []

pub cases_hold : Each (Each Holds) table
unfolding summed cpu_range summary decode header checked opening flags sizes sections system texts tail tail_after word options ending range
    encode put_opening put_sections put_texts put_tail
cases_hold =
    let of_papers : Each Holds papers = (refl, (refl, (refl, (refl, tt)))) in
    let of_strings : Each Holds strings = (refl, (refl, (refl, (refl, (refl, (refl, (refl, (refl, (refl, tt))))))))) in
    let of_later_strings : Each Holds later_strings = (refl, (refl, (refl, (refl, (refl, (refl, (refl, tt))))))) in
    let of_numbers : Each Holds numbers = (refl, (refl, (refl, (refl, (refl, (refl, (refl, (refl, (refl, (refl, (refl, tt))))))))))) in
    let of_tails : Each Holds tails = (refl, (refl, (refl, (refl, (refl, (refl, tt)))))) in
    let of_ranges : Each Holds ranges = (refl, (refl, (refl, (refl, (refl, (refl, (refl, (refl, (refl, (refl, (refl, (refl, (refl, tt))))))))))))) in
    let of_alignments : Each Holds alignments =
    (refl, (refl, (refl, (refl, (refl, (refl, (refl, (refl, (refl, (refl, (refl, (refl, (refl, (refl, (refl, (refl, (refl, (refl, tt)))))))))))))))))) in
    let of_pairs : Each Holds pairs = (refl, (refl, (refl, (refl, (refl, tt))))) in
    let of_borders : Each Holds borders = (refl, (refl, (refl, (refl, (refl, tt))))) in
    let of_wholes : Each Holds wholes = (refl, (refl, (refl, (refl, (refl, (refl, (refl, (refl, tt)))))))) in
    (of_papers, (of_strings, (of_later_strings, (of_numbers, (of_tails, (of_ranges, (of_alignments, (of_pairs, (of_borders, (of_wholes, tt))))))))))
