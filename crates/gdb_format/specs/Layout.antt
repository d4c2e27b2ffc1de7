-- Which traces the layout admits.
-- Assumes nothing: these are definitions.
use Rattle.std.specs.Prelude.{◌≡◌, true, cond, ◌⊎◌, ℕ, ◌+◌, ◌-◌, ◌*◌, ◌^◌, ◌<◌, ◌≤◌, List, [], ◌∷◌, length, drop, leb}
use Rattle.std.proofs.Math.Option.{Option, some}
use Rattle.refusals.specs.Refusal.{limit}
use Rattle.fields.specs.Lists.{Each, AtMostOne}
use Rattle.fields.specs.Signed.{Signed64}
use Rattle.gdb_format.specs.Trace.{Block, registers, memory, variable, is_registers, Frame, Trace, data_of, encode}
use Rattle.gdb_format.specs.Lines.{is_register, is_status, register_size}
use Rattle.gdb_format.specs.Settings.{radix}
use Rattle.gdb_format.specs.declared.Base.{Base}
use Rattle.gdb_format.specs.declared.Base.TheVariants.{Ten, Sixteen}
use Rattle.gdb_format.specs.declared.Format.{Format}

-- a line may hold every byte but 0A
abbrev pub NoEnd : List ℕ → Type 0
NoEnd l = Each (λ x. x ≡ 0x0A → ⊥) l

-- how a value is written as a digit: from `0` on, and above 9 from a letter on
abbrev pub glyph : ℕ → ℕ → ℕ
glyph a v = cond (leb v 9) (0x30 + v) (a + (v - 10))

-- the byte x is the digit of the value v in a base, in either case
abbrev pub IsDigit : ℕ → ℕ → ℕ → Type 0
IsDigit base x v = (v < base) × ((x ≡ glyph 0x61 v) ⊎ (x ≡ glyph 0x41 v))

-- the bytes are the digits of these values, one by one
abbrev pub Spelled : ℕ → List ℕ → List ℕ → Type 0
Spelled base [] [] = Unit {0}
Spelled base [] (v ∷ vs) = ⊥
Spelled base (x ∷ xs) [] = ⊥
Spelled base (x ∷ xs) (v ∷ vs) = IsDigit base x v × Spelled base xs vs

-- the number that digits of these values make: each counts times the base for every digit behind it
abbrev pub made : ℕ → List ℕ → ℕ
made base [] = 0
made base (v ∷ vs) = v * base ^ length vs + made base vs

-- the bytes are digits of a base, and spell n
abbrev pub Spells : ℕ → List ℕ → ℕ → Type 0
Spells base d n = (vs : List ℕ) × Spelled base d vs × (made base vs ≡ n)

-- how many digits, and which value: in base 10 one to five, value 0 to 65,535; in base 16 one to four
abbrev pub Form : Base → ℕ → ℕ → Type 0
Form Ten k n = (1 ≤ k) × (k ≤ 5) × (n ≤ 65535)
Form Sixteen k n = (1 ≤ k) × (k ≤ 4)

-- the line says n: after `R ` stand digits of the base, in their form, and nothing else
abbrev pub Says : Format → List ℕ → ℕ → Type 0
Says f l n = let d = drop 2 l in Form f.base (length d) n × Spells (radix f.base) d n

-- a line is not empty and holds no 0A, and an `R ` line says a number
abbrev pub LineFits : Format → List ℕ → Type 0
LineFits f l = (0 < length l) × NoEnd l × (is_register l ≡ true → (n : ℕ) × Says f l n)

-- at most one `R ` line and one `status ` line
abbrev pub LinesFit : Format → List (List ℕ) → Type 0
LinesFit f ls = Each (LineFits f) ls × AtMostOne is_register ls × AtMostOne is_status ls

-- an `R` block has as many bytes as the R line says; the other blocks' values fit their fields
abbrev pub BlockFits : Option ℕ → Block → Type 0
BlockFits size (registers b) = size ≡ some (length b)
BlockFits size (memory a b) = (a < 2 ^ 64) × (length b < 2 ^ 16)
BlockFits size (variable n v) = (n < 2 ^ 32) × Signed64 v

-- no frame has the number 0, which begins the end mark; of its blocks at most one is a register block
abbrev pub FrameFits : Format → Option ℕ → Frame → Type 0
FrameFits f size r =
    (r.tracepoint < 2 ^ 16) × (length (data_of f r) < 2 ^ 32) × Each (BlockFits size) r.blocks × (0 < r.tracepoint) × AtMostOne is_registers r.blocks

pub record Layout (f : Format) (t : Trace) : Type 0 where
  pub lines_fit : LinesFit f t.lines
  pub frames_fit : Each (FrameFits f (register_size f t.lines)) t.frames
  pub length-fits : length (encode f t) ≤ limit
