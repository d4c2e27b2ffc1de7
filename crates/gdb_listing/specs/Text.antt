-- The listing of a trace as text.
-- Assumes nothing: these are definitions.
use Rattle.std.specs.Prelude.{cond, ℕ, zero, suc, ◌+◌, ◌/◌, ◌%◌, List, [], ◌∷◌, ◌++◌, length, ltb}
use Rattle.refusals.specs.Refusal.{too_long}
use Rattle.fields.specs.Lists.{concat_map}
use Rattle.fields.specs.Answer.{Answer, accepted, refused}
use Rattle.gdb_format.specs.Trace.{Trace}
use Rattle.gdb_format.specs.declared.Format.{Format}
use Rattle.gdb_format.specs.Settings.{default_settings}
use Rattle.gdb_format.specs.declared.Settings.{Settings}
use Rattle.gdb_read.specs.Steps.{Row}
use Rattle.gdb_frames.specs.Questions.{asked, table}

-- ---- the text

-- the digits of n, none for 0. Any count from n on gives them all (`digits-count`).
abbrev pub digits_f : ℕ → ℕ → List ℕ
digits_f zero n = []
digits_f (suc k) zero = []
digits_f (suc k) (suc m) = digits_f k (suc m / 10) ++ (0x30 + suc m % 10) ∷ []

-- a number in decimal, without leading zeros: the last digit, after the digits of a tenth
unfoldable pub decimal : ℕ → List ℕ
decimal n = digits_f n (n / 10) ++ (0x30 + n % 10) ∷ []

-- a number, and the byte that ends it
unfoldable pub ended : ℕ → ℕ → List ℕ
ended n b = decimal n ++ b ∷ []

-- a frame's line: number, place, size
unfoldable pub line_of : Row → List ℕ
line_of r = ended r.tracepoint 0x20 ++ (ended r.place 0x20 ++ ended r.size 0x0A)

-- `frames ` and `refused `
abbrev pub frames_word : List ℕ
frames_word = 0x66 ∷ 0x72 ∷ 0x61 ∷ 0x6D ∷ 0x65 ∷ 0x73 ∷ 0x20 ∷ []

abbrev pub refused_word : List ℕ
refused_word = 0x72 ∷ 0x65 ∷ 0x66 ∷ 0x75 ∷ 0x73 ∷ 0x65 ∷ 0x64 ∷ 0x20 ∷ []

-- the number of frames and a line for each, or the refusal
abbrev pub text : Answer (List Row) → List ℕ
text (accepted rows) = frames_word ++ (ended (length rows) 0x0A ++ concat_map line_of rows)
text (refused n) = refused_word ++ ended n 0x0A

-- ---- what is listed

-- the program's own limit
abbrev pub listing_limit : ℕ
listing_limit = 65536

-- the listing is of a little-endian file, its R line in the default base
abbrev pub little : Settings
little = default_settings 0

-- every frame of the table
abbrev pub whole_table : Format → Trace → Answer (List Row)
whole_table f t = accepted (table f t)

-- the frame table of a file, or its refusal; 1 over the program's limit
unfoldable pub listed : List ℕ → Answer (List Row)
listed b = cond (ltb listing_limit (length b)) (refused too_long) (asked little b whole_table)

-- the listing of a file: always a text
abbrev pub listing_of : List ℕ → Answer (List ℕ)
listing_of b = accepted (text (listed b))
