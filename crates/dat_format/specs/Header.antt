-- What a trace.dat header of version 6 is, and how it is laid out in bytes.
-- Assumes nothing: these are definitions.
use Rattle.std.proofs.Math.Option.{Option, none, some}
use Rattle.std.specs.Prelude.{ℕ, List, [], ◌∷◌, ◌++◌}
use Rattle.fields.specs.Lists.{concat_map}
use Rattle.fields.specs.Number.{field}
use Rattle.fields.specs.declared.Order.{Order}
use Rattle.fields.specs.declared.Order.TheVariants.{Little, Big}
use Rattle.dat_format.specs.Pieces.{put_sized, put_counted, put_name}

-- ---- what a header is

-- byte order, long size and page size
pub record Opening : Type 0 where
  pub order : Order
  pub long : ℕ
  pub page : ℕ

-- an event system: its name, and its formats
pub record System : Type 0 where
  pub name : List ℕ
  pub formats : List (List ℕ)

pub record Sections : Type 0 where
  pub header_page : List ℕ
  pub header_event : List ℕ
  pub formats : List (List ℕ)
  pub systems : List System

-- kallsyms, printk formats, process names, and the CPU count
pub record Texts : Type 0 where
  pub kallsyms : List ℕ
  pub printk : List ℕ
  pub processes : List ℕ
  pub cpus : ℕ

pub record Opt : Type 0 where
  pub type : ℕ
  pub body : List ℕ

-- where a CPU's data stands
pub record Range : Type 0 where
  pub offset : ℕ
  pub size : ℕ

pub data Ending : Type 0 where
  latency : Ending
  flyrecord : List Range → Ending

pub record Tail : Type 0 where
  pub options : Option (List Opt)
  pub ending : Ending

pub record Header : Type 0 where
  pub opening : Opening
  pub sections : Sections
  pub texts : Texts
  pub tail : Tail

-- ---- the fixed strings

-- 17 08 44; `tracing`; `6` NUL
abbrev pub magic : List ℕ
magic = 0x17 ∷ 0x08 ∷ 0x44 ∷ []

abbrev pub tracing : List ℕ
tracing = 0x74 ∷ 0x72 ∷ 0x61 ∷ 0x63 ∷ 0x69 ∷ 0x6E ∷ 0x67 ∷ []

abbrev pub version : List ℕ
version = 0x36 ∷ 0 ∷ []

-- `header_page` NUL, `header_event` NUL
abbrev pub page_word : List ℕ
page_word = 0x68 ∷ 0x65 ∷ 0x61 ∷ 0x64 ∷ 0x65 ∷ 0x72 ∷ 0x5F ∷ 0x70 ∷ 0x61 ∷ 0x67 ∷ 0x65 ∷ 0 ∷ []

abbrev pub event_word : List ℕ
event_word = 0x68 ∷ 0x65 ∷ 0x61 ∷ 0x64 ∷ 0x65 ∷ 0x72 ∷ 0x5F ∷ 0x65 ∷ 0x76 ∷ 0x65 ∷ 0x6E ∷ 0x74 ∷ 0 ∷ []

-- the 10-byte words: `options  ` NUL, `latency  ` NUL, `flyrecord` NUL
pub data Word : Type 0 where
  options_word : Word
  latency_word : Word
  fly_word : Word

abbrev pub put_word : Word → List ℕ
put_word options_word = 0x6F ∷ 0x70 ∷ 0x74 ∷ 0x69 ∷ 0x6F ∷ 0x6E ∷ 0x73 ∷ 0x20 ∷ 0x20 ∷ 0 ∷ []
put_word latency_word = 0x6C ∷ 0x61 ∷ 0x74 ∷ 0x65 ∷ 0x6E ∷ 0x63 ∷ 0x79 ∷ 0x20 ∷ 0x20 ∷ 0 ∷ []
put_word fly_word = 0x66 ∷ 0x6C ∷ 0x79 ∷ 0x72 ∷ 0x65 ∷ 0x63 ∷ 0x6F ∷ 0x72 ∷ 0x64 ∷ 0 ∷ []

-- ---- the layout in bytes

abbrev pub code_of : Order → ℕ
code_of Little = 0
code_of Big = 1

abbrev pub put_flags : Opening → List ℕ
put_flags h = field Little 1 (code_of h.order) ++ (field Little 1 h.long ++ field h.order 4 h.page)

unfoldable pub put_opening : Opening → List ℕ
put_opening h = magic ++ (tracing ++ (version ++ put_flags h))

abbrev pub put_system : Order → System → List ℕ
put_system o s = put_name s.name ++ put_counted o (put_sized o 8) s.formats

unfoldable pub put_sections : Order → Sections → List ℕ
put_sections o h =
    page_word ++ (put_sized o 8 h.header_page ++ (event_word ++ (put_sized o 8 h.header_event
    ++ (put_counted o (put_sized o 8) h.formats ++ put_counted o (put_system o) h.systems))))

unfoldable pub put_texts : Order → Texts → List ℕ
put_texts o h = put_sized o 4 h.kallsyms ++ (put_sized o 4 h.printk ++ (put_sized o 8 h.processes ++ field o 4 h.cpus))

abbrev pub put_opt : Order → Opt → List ℕ
put_opt o x = field o 2 x.type ++ put_sized o 4 x.body

-- from the first type through the closing 0
abbrev pub put_list : Order → List Opt → List ℕ
put_list o l = concat_map (put_opt o) l ++ field o 2 0

abbrev pub put_options : Order → Option (List Opt) → List ℕ
put_options o none = []
put_options o (some l) = put_word options_word ++ put_list o l

abbrev pub put_range : Order → Range → List ℕ
put_range o r = field o 8 r.offset ++ field o 8 r.size

abbrev pub put_ending : Order → Ending → List ℕ
put_ending o latency = put_word latency_word
put_ending o (flyrecord rs) = put_word fly_word ++ concat_map (put_range o) rs

unfoldable pub put_tail : Order → Tail → List ℕ
put_tail o t = put_options o t.options ++ put_ending o t.ending

unfoldable pub encode : Header → List ℕ
encode h =
    let o = h.opening.order in
    put_opening h.opening ++ (put_sections o h.sections ++ (put_texts o h.texts ++ put_tail o h.tail))
