-- Which headers the layout admits, and what it asks of the CPU ranges.
-- Assumes nothing: these are definitions.
use Rattle.std.specs.Prelude.{◌≡◌, ◌⊎◌, ℕ, ◌+◌, ◌*◌, ◌^◌, ◌<◌, ◌≤◌, List, [], ◌∷◌, length}
use Rattle.std.proofs.Math.Option.{Option, none, some}
use Rattle.refusals.specs.Refusal.{limit}
use Rattle.fields.specs.Lists.{Each}
use Rattle.dat_format.specs.Header.{Opening, System, Sections, Texts, Opt, Range, Ending, latency, flyrecord, Tail, Header, encode}

-- ---- each field's conditions

-- 4 or 8
abbrev pub LongFits : ℕ → Type 0
LongFits n = (n ≡ 4) ⊎ (n ≡ 8)

-- a power of two from 1,024 to 65,536
abbrev pub PageFits : ℕ → Type 0
PageFits n = (1024 ≤ n) × (n ≤ 65536) × ((k : ℕ) × (n ≡ 2 ^ k))

abbrev pub most_cpus : ℕ
most_cpus = 1024

abbrev pub OpeningFits : Opening → Type 0
OpeningFits h = LongFits h.long × PageFits h.page

-- data whose size stands in w bytes
abbrev pub DataFits : ℕ → List ℕ → Type 0
DataFits w d = length d < 256 ^ w

abbrev pub CountFits : {A : Type 0} → (A → Type 0) → List A → Type 0
CountFits F l = (length l < 256 ^ 4) × Each F l

-- a name holds no NUL; it may be empty
abbrev pub NameFits : List ℕ → Type 0
NameFits = Each (λ x. x ≡ 0 → ⊥)

abbrev pub SystemFits : System → Type 0
SystemFits s = NameFits s.name × CountFits (DataFits 8) s.formats

abbrev pub SectionsFit : Sections → Type 0
SectionsFit h = DataFits 8 h.header_page × DataFits 8 h.header_event × CountFits (DataFits 8) h.formats × CountFits SystemFits h.systems

abbrev pub TextsFit : Texts → Type 0
TextsFit h = DataFits 4 h.kallsyms × DataFits 4 h.printk × DataFits 8 h.processes × (h.cpus ≤ most_cpus)

-- type 0 ends the list and has no size, so no option has it; otherwise a 4-byte size and data
abbrev pub OptFits : Opt → Type 0
OptFits x = (0 < x.type) × (x.type < 256 ^ 2) × DataFits 4 x.body

abbrev pub OptionsFit : Option (List Opt) → Type 0
OptionsFit none = Unit {0}
OptionsFit (some l) = Each OptFits l

abbrev pub RangeFits : Range → Type 0
RangeFits r = (r.offset < 256 ^ 8) × (r.size < 256 ^ 8)

-- after `flyrecord`, for each of n CPUs an 8-byte offset and an 8-byte size
abbrev pub EndingFits : ℕ → Ending → Type 0
EndingFits n latency = Unit {0}
EndingFits n (flyrecord rs) = (length rs ≡ n) × Each RangeFits rs

abbrev pub TailFits : ℕ → Tail → Type 0
TailFits n t = OptionsFit t.options × EndingFits n t.ending

abbrev pub HeaderFits : Header → Type 0
HeaderFits h = OpeningFits h.opening × SectionsFit h.sections × TextsFit h.texts × TailFits h.texts.cpus h.tail

-- ---- the CPU ranges of a file of `total` bytes whose header ends at `end`

abbrev pub ranges : Ending → List Range
ranges latency = []
ranges (flyrecord rs) = rs

-- a multiple of the page size
abbrev pub Multiple : ℕ → ℕ → Type 0
Multiple page n = (k : ℕ) × (n ≡ k * page)

-- of a range of size 0 the offset is not looked at; of the others it is a multiple of the page size and not before the header's end,
-- and offset plus size, as whole numbers, is not past the file's end
abbrev pub LiesInFile : ℕ → ℕ → ℕ → Range → Type 0
LiesInFile page end total r = 0 < r.size → Multiple page r.offset × (end ≤ r.offset) × (r.offset + r.size ≤ total)

-- the byte at x lies in the range; a range of size 0 holds none
abbrev pub Inside : ℕ → Range → Type 0
Inside x r = (r.offset ≤ x) × (x < r.offset + r.size)

-- no byte lies in both
abbrev pub NoneInBoth : Range → Range → Type 0
NoneInBoth r q = (x : ℕ) → Inside x r → Inside x q → ⊥

-- R holds of every two elements: of each and each later one
abbrev pub EachTwo : {A : Type 0} → (A → A → Type 0) → List A → Type 0
EachTwo R [] = Unit {0}
EachTwo R (x ∷ xs) = Each (R x) xs × EachTwo R xs

-- a header that may open a file of `total` bytes
pub record Layout (total : ℕ) (h : Header) : Type 0 where
  pub length-fits : total ≤ limit
  pub fits : HeaderFits h
  pub in_file_lem : Each (LiesInFile h.opening.page (length (encode h)) total) (ranges h.tail.ending)
  pub no_overlap : EachTwo NoneInBoth (ranges h.tail.ending)
