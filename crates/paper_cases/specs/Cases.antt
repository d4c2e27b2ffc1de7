-- Document 01's cases marked (P), as one table, and the one statement about it. Bytes and refusals are the paper's own.
-- Assumes nothing.
use Rattle.std.specs.Prelude.{◌≡◌, refl, Bool, true, ℕ, ◌-◌, ◌^◌, List, [], ◌∷◌, ◌++◌, take, replicate, ℤ, negsuc}
use Rattle.fields.specs.Lists.{Each}
use Rattle.fields.specs.Answer.{Answer, accepted, refused, next}
use Rattle.gdb_format.specs.Trace.{opening, encode}
use Rattle.gdb_format.specs.Decode.{read}
use Rattle.gdb_format.specs.Settings.{radix}
use Rattle.gdb_format.specs.declared.Base.{Base}
use Rattle.gdb_format.specs.declared.Base.TheVariants.{Ten, Sixteen}
use Rattle.gdb_format.specs.declared.Settings.{Settings}
use Rattle.gdb_read.specs.Steps.{Row}
use Rattle.gdb_frames.specs.Places.{part}
use Rattle.gdb_frames.specs.Questions.{asked, end_mark, table}
use Rattle.gdb_blocks.specs.Search.{registers_at, memory_at, variable_at}
use Rattle.gdb_cut.specs.Cut.{cut_of}
use Rattle.gdb_select.specs.declared.Range.{Range}
use Rattle.gdb_select.specs.declared.Selection.{Selection}

pub data Question : Type 0 where
  frames : Question
  marked : Question  -- whether the end mark is there
  registers : ℕ → Question  -- of a frame
  memory : ℕ → ℕ → Question  -- in a frame, at an address
  variable : ℕ → ℕ → Question  -- in a frame, by number
  cut : Selection → Question

pub data Reply : Type 0 where
  rows : List Row → Reply
  told : Bool → Reply
  bytes : List ℕ → Reply
  value : ℤ → Reply

abbrev of_part : List ℕ → Answer (ℕ × ℕ) → Answer Reply
of_part b a = next a (λ r. accepted (bytes (part b (accepted r))))

abbrev pub about : Settings → List ℕ → Question → Answer Reply
about s b frames = asked s b (λ f t. accepted (rows (table f t)))
about s b marked = next (asked s b end_mark) (λ m. accepted (told m))
about s b (registers n) = of_part b (asked s b (registers_at n))
about s b (memory n a) = of_part b (asked s b (memory_at n a))
about s b (variable n v) = next (asked s b (variable_at n v)) (λ z. accepted (value z))
about s b (cut sel) = next (cut_of s sel b) (λ c. accepted (bytes c))

pub record Case : Type 0 where
  pub settings : Settings
  pub file : List ℕ
  pub question : Question
  pub reply : Answer Reply

abbrev pub Holds : Case → Type 0
Holds c = about c.settings c.file c.question ≡ c.reply

-- ---- the table

-- in a byte order and a base
abbrev pub in_settings : Settings → List ℕ → Question → Answer Reply → Case
in_settings s b q r = record { settings = s; file = b; question = q; reply = r }

abbrev pub row : ℕ → ℕ → ℕ → Row
row n at k = record { tracepoint = n; place = at; size = k }

-- H, in document 01's bytes
abbrev pub h : List ℕ
h = 0x7F ∷ 0x54 ∷ 0x52 ∷ 0x41 ∷ 0x43 ∷ 0x45 ∷ 0x30 ∷ 0x0A ∷ []

-- H 0A, and then the frames
abbrev pub bare : List ℕ → List ℕ
bare b = h ++ 0x0A ∷ b

-- frames of size 0 with the numbers 1 and 2
abbrev pub empty1 : List ℕ
empty1 = 1 ∷ 0 ∷ 0 ∷ 0 ∷ 0 ∷ 0 ∷ []

abbrev pub empty2 : List ℕ
empty2 = 2 ∷ 0 ∷ 0 ∷ 0 ∷ 0 ∷ 0 ∷ []

-- `R 2`
abbrev pub two : List ℕ → List ℕ
two b = h ++ 0x52 ∷ 0x20 ∷ 0x32 ∷ 0x0A ∷ 0x0A ∷ b

-- `M` at address 2 ^ 64 - 1, bytes 11 22
abbrev top : List ℕ
top = bare (1 ∷ 0 ∷ 13 ∷ 0 ∷ 0 ∷ 0 ∷ 0x4D ∷ 0xFF ∷ 0xFF ∷ 0xFF ∷ 0xFF ∷ 0xFF ∷ 0xFF ∷ 0xFF ∷ 0xFF ∷ 2 ∷ 0 ∷ 0x11 ∷ 0x22 ∷ [])

-- `V` number 1, value bytes all FF
abbrev minus : List ℕ
minus = bare (1 ∷ 0 ∷ 13 ∷ 0 ∷ 0 ∷ 0 ∷ 0x56 ∷ 1 ∷ 0 ∷ 0 ∷ 0 ∷ 0xFF ∷ 0xFF ∷ 0xFF ∷ 0xFF ∷ 0xFF ∷ 0xFF ∷ 0xFF ∷ 0xFF ∷ [])

-- keep 1..1, as a caller makes it: eight ranges, of which the first is stated
abbrev pub range : ℕ → ℕ → Range
range a b = record { low = a; high = b }

abbrev only1 : Selection
only1 = record { ranges = range 1 1 ∷ replicate 7 (range 0 0); count = 1; keep = true }

module _ (base : Base) where
  abbrev little : List ℕ → Question → Answer Reply → Case
  little = in_settings (record { order = 0; base = radix base })

  abbrev big : List ℕ → Question → Answer Reply → Case
  big = in_settings (record { order = 1; base = radix base })

  -- the paper's rows: a size of one digit below 10 says the same in both bases
  abbrev pub cases : List Case
  cases =
      little [] frames (refused 3)
      ∷ little h frames (refused 4)
      ∷ little (bare []) frames (accepted (rows []))
      ∷ little (bare empty1) frames (accepted (rows (row 1 15 0 ∷ [])))
      ∷ big (bare empty1) frames (accepted (rows (row 256 15 0 ∷ [])))
      ∷ little (bare (take 5 empty1)) frames (refused 6)
      ∷ little (bare (1 ∷ 0 ∷ 1 ∷ 0 ∷ 0 ∷ 0 ∷ 0x52 ∷ [])) frames (refused 10)
      ∷ little (bare (1 ∷ 0 ∷ 1 ∷ 0 ∷ 0 ∷ 0 ∷ 0 ∷ [])) frames (refused 8)
      ∷ little (two (1 ∷ 0 ∷ 3 ∷ 0 ∷ 0 ∷ 0 ∷ 0x52 ∷ 0xAA ∷ 0xBB ∷ [])) (registers 0) (accepted (bytes (0xAA ∷ 0xBB ∷ [])))
      ∷ little (two (1 ∷ 0 ∷ 2 ∷ 0 ∷ 0 ∷ 0 ∷ 0x52 ∷ 0xAA ∷ [])) (registers 0) (refused 9)
      ∷ little top (memory 0 (2 ^ 64 - 1)) (accepted (bytes (0x11 ∷ 0x22 ∷ [])))
      ∷ little top (memory 0 0) (accepted (bytes (0x22 ∷ [])))
      ∷ little top (memory 0 1) (refused 12)
      ∷ little minus (variable 0 1) (accepted (value (negsuc 0)))
      ∷ little (bare (empty1 ++ empty2 ++ empty1)) (cut only1) (accepted (bytes (bare (empty1 ++ empty1))))
      ∷ []

-- in both bases
pub cases_hold : (base : Base) → Each Holds (cases base)
unfolding read opening encode cut_of
cases_hold Ten =
    (refl, (refl, (refl, (refl, (refl, (refl, (refl, (refl, (refl, (refl, (refl, (refl, (refl, (refl, (refl, tt)))))))))))))))
cases_hold Sixteen =
    (refl, (refl, (refl, (refl, (refl, (refl, (refl, (refl, (refl, (refl, (refl, (refl, (refl, (refl, (refl, tt)))))))))))))))
