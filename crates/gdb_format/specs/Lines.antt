-- The description's lines: their kinds, the R line's number, and which line may follow which.
-- Assumes nothing: these are definitions.
use Rattle.std.specs.Prelude.{Bool, true, false, cond, not, ◌&&◌, ◌||◌, ℕ, ◌+◌, ◌-◌, ◌*◌, List, [], ◌∷◌, length, drop, leb}
use Rattle.std.proofs.Math.Option.{Option, none, some}
use Rattle.fields.specs.Word.{starts}
use Rattle.gdb_format.specs.Settings.{radix}
use Rattle.gdb_format.specs.declared.Base.{Base}
use Rattle.gdb_format.specs.declared.Base.TheVariants.{Ten, Sixteen}
use Rattle.gdb_format.specs.declared.Format.{Format}
use Rattle.gdb_format.specs.declared.LineKind.{LineKind}
use Rattle.gdb_format.specs.declared.LineKind.TheVariants as kind

-- ---- a line's kind is set by what it starts with, space included

-- `R `
abbrev pub is_register : List ℕ → Bool
is_register = starts (0x52 ∷ 0x20 ∷ [])

-- `status `
abbrev pub is_status : List ℕ → Bool
is_status = starts (0x73 ∷ 0x74 ∷ 0x61 ∷ 0x74 ∷ 0x75 ∷ 0x73 ∷ 0x20 ∷ [])

-- `tp `, `tsv `, `tdesc `
abbrev pub is_tracepoint : List ℕ → Bool
is_tracepoint = starts (0x74 ∷ 0x70 ∷ 0x20 ∷ [])

abbrev pub is_variable : List ℕ → Bool
is_variable = starts (0x74 ∷ 0x73 ∷ 0x76 ∷ 0x20 ∷ [])

abbrev pub is_target : List ℕ → Bool
is_target = starts (0x74 ∷ 0x64 ∷ 0x65 ∷ 0x73 ∷ 0x63 ∷ 0x20 ∷ [])

abbrev pub kind_of : List ℕ → LineKind
kind_of l =
    cond (is_register l) kind.Registers
    (cond (is_status l) kind.Status
    (cond (is_tracepoint l) kind.Tracepoint
    (cond (is_variable l) kind.Variable
    (cond (is_target l) kind.Target kind.Other))))

-- ---- the R line's number, in the base of the settings

abbrev pub most_digits : Base → ℕ
most_digits Ten = 5
most_digits Sixteen = 4

abbrev pub between : ℕ → ℕ → ℕ → Bool
between low high x = leb low x && leb x high

-- the value of a digit, letters in either case; 16, which is a digit's in no base, for every other byte
abbrev pub digit : ℕ → ℕ
digit x =
    cond (between 0x30 0x39 x) (x - 0x30)
    (cond (between 0x41 0x46 x) (x - 0x41 + 10)
    (cond (between 0x61 0x66 x) (x - 0x61 + 10) 16))

-- the number that digits of a base spell, after those that gave v
abbrev pub numeral : ℕ → ℕ → List ℕ → Option ℕ
numeral base v [] = some v
numeral base v (x ∷ xs) = let more = numeral base (v * base + digit x) xs in cond (leb base (digit x)) none more

-- the value where it is at most 65,535
abbrev pub limited : Option ℕ → Option ℕ
limited none = none
limited (some v) = cond (leb v 65535) (some v) none

-- what stands after `R `: digits of the base, not too many of them, and nothing else, value 0 to 65,535
abbrev pub size_of : Format → List ℕ → Option ℕ
size_of f l =
    let d = drop 2 l in
    cond (leb 1 (length d) && leb (length d) (most_digits f.base)) (limited (numeral (radix f.base) 0 d)) none

-- ---- at most one `R ` line and one `status ` line

abbrev pub is_some : {A : Type 0} → Option A → Bool
is_some none = false
is_some (some n) = true

abbrev pub any_line : (List ℕ → Bool) → List (List ℕ) → Bool
any_line p [] = false
any_line p (l ∷ ls) = p l || any_line p ls

-- a line may stand after `before`: an `R ` line has its form, and neither it nor a `status ` line is a second one
abbrev pub may_follow : Format → List (List ℕ) → List ℕ → Bool
may_follow f before l =
    cond (is_register l) (is_some (size_of f l) && not (any_line is_register before))
    (cond (is_status l) (not (any_line is_status before)) true)

-- what the R line says
abbrev pub register_size : Format → List (List ℕ) → Option ℕ
register_size f [] = none
register_size f (l ∷ ls) = cond (is_register l) (size_of f l) (register_size f ls)
