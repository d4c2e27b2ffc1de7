-- What the blocks of a frame hold, wherever they stand, and what an answer names.
-- Assumes nothing: these are definitions.
use Rattle.std.specs.Prelude.{◌≡◌, ℕ, ◌+◌, ◌-◌, ◌%◌, ◌^◌, cond, List, [], length, take, drop, ℤ, ◌==◌, nat_lt}
use Rattle.std.proofs.Math.Option.{Option, none, some}
use Rattle.fields.specs.Lists.{Each}
use Rattle.fields.specs.Answer.{Answer, accepted, refused, next}
use Rattle.fields.specs.Element.{nth}
use Rattle.gdb_format.specs.Trace.{Block, registers, memory, variable, Frame, Trace}
use Rattle.gdb_format.specs.declared.Format.{Format}
use Rattle.gdb_blocks.specs.Earliest.{earliest}

-- ---- a block

-- the register bytes
abbrev pub registers_of : Block → Option (List ℕ)
registers_of (registers d) = some d
registers_of (memory b d) = none
registers_of (variable m x) = none

-- a minus b, taken modulo 2 ^ 64: how far address a lies into a block at address b
abbrev pub offset : ℕ → ℕ → ℕ
offset a b = (a + 2 ^ 64 - b) % 2 ^ 64

-- a block at address b of length L covers a when a minus b, taken modulo 2 ^ 64, is less than L: its bytes from a to its end
abbrev pub memory_of : ℕ → Block → Option (List ℕ)
memory_of a (registers d) = none
memory_of a (memory b d) = cond (nat_lt (offset a b) (length d)) (some (drop (offset a b) d)) none
memory_of a (variable m x) = none

-- the value of variable v
abbrev pub value_of : ℕ → Block → Option ℤ
value_of v (registers d) = none
value_of v (memory b d) = none
value_of v (variable m x) = cond (m == v) (some x) none

-- ---- a frame

-- what `g` finds in the earliest block of frame n in which it finds something, or 12
abbrev pub held_in : {B : Type 0} → ℕ → (Block → Option B) → Format → Trace → Answer B
held_in n g f t = next (nth t.frames n) (λ r. earliest g r.blocks)

-- `g` finds nothing in frame n, or there is no such frame
abbrev pub Missing : {B : Type 0} → ℕ → (Block → Option B) → Trace → Type 0
Missing n g t = (r : Frame) → nth t.frames n ≡ accepted r → Each (λ x. g x ≡ none) r.blocks

-- block k of frame n, or 12
abbrev pub block_held : ℕ → ℕ → Format → Trace → Answer Block
block_held n k f t = next (nth t.frames n) (λ r. nth r.blocks k)

-- ---- an answer

-- the answer through `h`; a refusal stays
abbrev pub mapped : {A C : Type 0} → (A → C) → Answer A → Answer C
mapped h x = next x (λ y. accepted (h y))

-- of a place and a length: the length, and the bytes of the file that they name
abbrev pub named : List ℕ → ℕ × ℕ → ℕ × List ℕ
named b r = (r.1, take r.1 (drop r.0 b))

-- of bytes: their length, and the bytes
abbrev pub with_length : List ℕ → ℕ × List ℕ
with_length d = (length d, d)

-- the bytes, none where there is a refusal
abbrev pub or_empty : Answer (List ℕ) → List ℕ
or_empty (accepted d) = d
or_empty (refused n) = []
