-- The frame table, and its records. What a lent list of records gets is said in fields/specs/Output.antt.
-- Assumes nothing: these are definitions.
use Rattle.std.specs.Prelude.{ℕ, List, map}
use Rattle.fields.specs.Answer.{Answer, accepted, refused}
use Rattle.gdb_format.specs.Trace.{Frame, Trace}
use Rattle.gdb_format.specs.declared.Format.{Format}
use Rattle.gdb_read.specs.Steps.{Row, frame_seen}
use Rattle.gdb_frames.specs.Places.{frames_at, blocks_at}
use Rattle.gdb_blocks.specs.Earliest.{earliest}
use Rattle.gdb_blocks.specs.Search.{registers_in}
use Rattle.gdb_table.specs.declared.FrameRecord.{FrameRecord}

-- of a place and a length that may be refused: a yes or no as a byte, and the place, 0 if no
abbrev pub yes_in : Answer (ℕ × ℕ) → ℕ
yes_in (accepted r) = 1
yes_in (refused n) = 0

abbrev pub place_in : Answer (ℕ × ℕ) → ℕ
place_in (accepted r) = r.0
place_in (refused n) = 0

-- a frame's record: its tracepoint number, the place of its data, and their size; a yes or no for a register block, and the place of the earliest one's bytes
abbrev pub record_of : Row → Answer (ℕ × ℕ) → FrameRecord
record_of v registers =
    record { tracepoint = v.tracepoint; has_registers = yes_in registers; place = v.place; size = v.size; registers_place = place_in registers }

-- of a frame and the place where it starts; its registers are the bytes of its earliest `R` block, as the registers question has them
abbrev pub record_at : Format → ℕ × Frame → FrameRecord
record_at f r = record_of (frame_seen f r.0 r.1) (earliest registers_in (blocks_at f r.0 r.1))

-- one record per frame
abbrev pub frame_table : Format → Trace → Answer (List FrameRecord)
frame_table f t = accepted (map (record_at f) (frames_at f t))
