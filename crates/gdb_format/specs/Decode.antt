-- Reading a GDB trace front to back: each rule with its refusal's number beside it, and the first fault met decides.
-- Assumes nothing: these are definitions.
use Rattle.std.specs.Prelude.{Bool, true, false, cond, ◌&&◌, ◌||◌, ℕ, List, [], ◌∷◌, ◌++◌, length, leb, eqb}
use Rattle.std.proofs.Math.Option.{Option, none, some}
use Rattle.refusals.specs.Refusal.{limit, too_long, bad_head, no_empty_line, bad_line, short_head, data_past_file, bad_letter, block_past_data, no_register_size}
use Rattle.refusals.specs.Refusal.{bad_mark, second_registers}
use Rattle.fields.specs.Signed.{signed64}
use Rattle.fields.specs.Word.{starts, same_bytes}
use Rattle.fields.specs.Answer.{Answer, accepted, refused, next}
use Rattle.fields.specs.Reader.{Reader, ◌>>=◌, give, refuse, bytes, num, filling, to_end_after, until}
use Rattle.fields.specs.declared.Order.TheVariants.{Little}
use Rattle.gdb_format.specs.Trace.{Block, registers, memory, variable, is_registers, Frame, Trace, trace_of, head, mark}
use Rattle.gdb_format.specs.Lines.{may_follow, register_size}
use Rattle.gdb_format.specs.Settings.{settings_of}
use Rattle.gdb_format.specs.declared.Settings.{Settings}
use Rattle.gdb_format.specs.declared.Format.{Format}

-- ---- a block's content, by kind

unfoldable pub register_block : Option ℕ → Reader Block
register_block none = refuse no_register_size
register_block (some n) = do
  b ← bytes n block_past_data
  give (registers b)

unfoldable pub memory_block : Format → Reader Block
memory_block f = do
  a ← num f.order 8 block_past_data
  n ← num f.order 2 block_past_data
  b ← bytes n block_past_data
  give (memory a b)

unfoldable pub variable_block : Format → Reader Block
variable_block f = do
  n ← num f.order 4 block_past_data
  v ← num f.order 8 block_past_data
  give (variable n (signed64 v))

-- `R`, `M`, `V`
unfoldable pub block_of : Format → Option ℕ → ℕ → Reader Block
unfolding register_block memory_block variable_block
block_of f size letter =
    cond (eqb letter 0x52) (register_block size)
    (cond (eqb letter 0x4D) (memory_block f)
    (cond (eqb letter 0x56) (variable_block f)
    (refuse bad_letter)))

-- a block of a frame, where `seen` tells whether a register block stands before it there: a second one is refused at its letter
unfoldable pub block_after : Format → Option ℕ → Bool → Reader Block
unfolding block_of
block_after f size seen = do
  letter ← num Little 1 block_past_data
  cond (seen && eqb letter 0x52) (refuse second_registers) (block_of f size letter)

abbrev pub seen_after : Bool → Block → Bool
seen_after seen b = seen || is_registers b

-- a block by itself
unfoldable pub block : Format → Option ℕ → Reader Block
unfolding block_after
block f size = block_after f size false

-- ---- frames

-- the size and the data of the frame with number n
unfoldable pub numbered : Format → ℕ → Reader (ℕ × List ℕ)
numbered f n = do
  k ← num f.order 4 short_head
  d ← bytes k data_past_file
  give (n, d)

-- a frame's tracepoint number, and its data not looked into; two bytes of 0 begin no frame, but the end mark
unfoldable pub frame_head : Format → Reader (ℕ × List ℕ)
unfolding numbered
frame_head f = do
  n ← num f.order 2 short_head
  cond (eqb n 0) (refuse bad_mark) (numbered f n)

-- blocks fill the data exactly
unfoldable pub blocks : Format → Option ℕ → List ℕ → Reader (List Block)
unfolding block_after to_end_after
blocks f size d = filling d (block_after f size) seen_after false

unfoldable pub frame : Format → Option ℕ → Reader Frame
unfolding frame_head blocks
frame f size = do
  h ← frame_head f
  bs ← blocks f size h.1
  give (record { tracepoint = h.0; blocks = bs })

-- what ends the frames: the file's end, or the mark, which is all that is left
abbrev pub ending : List ℕ → Option Bool
ending [] = some false
ending (x ∷ xs) = cond (same_bytes (x ∷ xs) mark) (some true) none

-- frames follow up to the file's end or the mark, and which of both it is
unfoldable pub frames : Format → Option ℕ → List ℕ → Answer (List Frame × Bool)
unfolding frame until
frames f size b = until ending (frame f size) b

-- ---- the description

-- the lines up to the closing empty one, after the lines `before` and the bytes `line` of one that has begun
unfoldable pub description : Format → List (List ℕ) → List ℕ → Reader (List (List ℕ))
description f before line [] = refused no_empty_line
description f before line (x ∷ xs) =
    let more = description f before (line ++ x ∷ []) xs in
    let after = description f (before ++ line ∷ []) [] xs in
    let ended = cond (may_follow f before line) after (refused bad_line) in
    cond (eqb x 0x0A) (cond (eqb (length line) 0) (accepted (before, xs)) ended) more

unfoldable pub opening_lines : Format → Reader (List (List ℕ))
unfolding description
opening_lines f = do
  h ← bytes 8 bad_head
  cond (starts head h) (description f [] []) (refuse bad_head)

-- ---- a file

-- without the length limit
unfoldable pub trace : Format → List ℕ → Answer Trace
unfolding opening_lines frames
trace f b =
    next (opening_lines f b) (λ r.
    next (frames f (register_size f r.0) r.1) (λ q.
    accepted (trace_of r.0 q.0 q.1)))

unfoldable pub decode : Format → List ℕ → Answer Trace
unfolding trace
decode f b = let t = trace f b in cond (leb (length b) limit) t (refused too_long)

-- under the caller's settings: 2, then 1, then the file front to back; the format that they name, and the trace
unfoldable pub read : Settings → List ℕ → Answer (Format × Trace)
unfolding decode
read s b = next (settings_of s) (λ f. next (decode f b) (λ t. accepted (f, t)))
