-- What a GDB trace is, and how it is laid out in bytes. A trace holds no places: where a thing stands follows from the layout.
-- Assumes nothing: these are definitions.
use Rattle.std.specs.Prelude.{Bool, true, false, ℕ, List, [], ◌∷◌, ◌++◌, length, ℤ}
use Rattle.fields.specs.Lists.{concat_map}
use Rattle.fields.specs.Number.{field}
use Rattle.fields.specs.Signed.{unsigned64}
use Rattle.gdb_format.specs.declared.Format.{Format}

pub data Block : Type 0 where
  registers : List ℕ → Block  -- the register bytes
  memory : ℕ → List ℕ → Block  -- an address, and the bytes from there
  variable : ℕ → ℤ → Block  -- a variable's number and value

abbrev pub is_registers : Block → Bool
is_registers (registers b) = true
is_registers (memory a b) = false
is_registers (variable n v) = false

pub record Frame : Type 0 where
  pub tracepoint : ℕ
  pub blocks : List Block

-- the description's lines, each without its 0A and the closing empty one not among them; the frames; and whether the end mark stands behind them
pub record Trace : Type 0 where
  pub lines : List (List ℕ)
  pub frames : List Frame
  pub marked : Bool

abbrev pub trace_of : List (List ℕ) → List Frame → Bool → Trace
trace_of ls fs m = record { lines = ls; frames = fs; marked = m }

-- the same description and mark with other frames
abbrev pub with_frames : Trace → List Frame → Trace
with_frames t fs = trace_of t.lines fs t.marked

-- the same description and frames without a mark
abbrev pub unmarked : Trace → Trace
unmarked t = trace_of t.lines t.frames false

-- ---- the layout in bytes

abbrev pub head : List ℕ
head = 0x7F ∷ 0x54 ∷ 0x52 ∷ 0x41 ∷ 0x43 ∷ 0x45 ∷ 0x30 ∷ 0x0A ∷ []

-- a line is ended by 0A
abbrev pub put_line : List ℕ → List ℕ
put_line l = l ++ 0x0A ∷ []

-- the *opening*: head and description, with the empty line's 0A
unfoldable pub opening : List (List ℕ) → List ℕ
opening ls = head ++ (concat_map put_line ls ++ 0x0A ∷ [])

-- `R` (52): the bytes. `M` (4D): 8-byte address, 2-byte length, the bytes. `V` (56): 4-byte unsigned number, 8-byte signed value in two's complement.
abbrev pub put_block : Format → Block → List ℕ
put_block f (registers b) = 0x52 ∷ b
put_block f (memory a b) = 0x4D ∷ field f.order 8 a ++ (field f.order 2 (length b) ++ b)
put_block f (variable n v) = 0x56 ∷ field f.order 4 n ++ field f.order 8 (unsigned64 v)

-- blocks fill the data exactly
abbrev pub data_of : Format → Frame → List ℕ
data_of f r = concat_map (put_block f) r.blocks

-- a frame is a 2-byte tracepoint number, a 4-byte size, then that many bytes of data
abbrev pub put_data : Format → ℕ × List ℕ → List ℕ
put_data f h = field f.order 2 h.0 ++ (field f.order 4 (length h.1) ++ h.1)

abbrev pub head_in : Format → Frame → ℕ × List ℕ
head_in f r = (r.tracepoint, data_of f r)

abbrev pub put_frame : Format → Frame → List ℕ
put_frame f r = put_data f (head_in f r)

-- the end mark: four bytes of 0, the file's last
abbrev pub mark : List ℕ
mark = 0 ∷ 0 ∷ 0 ∷ 0 ∷ []

abbrev pub put_mark : Bool → List ℕ
put_mark true = mark
put_mark false = []

unfoldable pub encode : Format → Trace → List ℕ
encode f t = opening t.lines ++ (concat_map (put_frame f) t.frames ++ put_mark t.marked)
