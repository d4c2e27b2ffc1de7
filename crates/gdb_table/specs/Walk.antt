-- The records that a walk from frame to frame finds.
-- Assumes nothing: these are definitions.
use Rattle.std.specs.Prelude.{ℕ, zero, suc, List, [], ◌∷◌}
use Rattle.std.proofs.Math.Option.{Option, none, some}
use Rattle.refusals.specs.Refusal.{not_found}
use Rattle.fields.specs.Answer.{Answer, accepted, refused}
use Rattle.fields.specs.Reader.{step_at}
use Rattle.gdb_format.specs.Decode.{frame_head}
use Rattle.gdb_format.specs.Opening.{size_meaning}
use Rattle.gdb_data.specs.declared.FrameLayout.{FrameLayout}
use Rattle.gdb_read.specs.Steps.{Row, head_seen}
use Rattle.gdb_blocks.specs.Earliest.{earliest}
use Rattle.gdb_blocks.specs.Search.{registers_in, row_blocks}
use Rattle.gdb_table.specs.declared.FrameRecord.{FrameRecord}
use Rattle.gdb_table.specs.declared.Step.{Step}
use Rattle.gdb_table.specs.Records.{record_of}

-- ---- one step

-- a frame's record, and the place after the frame
abbrev pub step_on : FrameRecord → ℕ → Step
step_on v m = record { found = v; next = m }

abbrev pub no_frame : Step
no_frame = step_on (record_of (record { tracepoint = 0; place = 0; size = 0 }) (refused not_found)) 0

-- the registers of a frame of the file b that shows v, and its record
abbrev pub registers_shown : FrameLayout → List ℕ → Row → Answer (ℕ × ℕ)
registers_shown m b v = earliest registers_in (row_blocks m.format (size_meaning m.size) b v)

abbrev pub record_in : FrameLayout → List ℕ → Row → FrameRecord
record_in m b v = record_of v (registers_shown m b v)

abbrev pub step_to : (Row → FrameRecord) → Answer (Option (Row × ℕ)) → Step
step_to made (accepted none) = no_frame
step_to made (accepted (some r)) = step_on (made r.0) r.1
step_to made (refused n) = no_frame

abbrev pub step_from : FrameLayout → List ℕ → ℕ → Step
step_from m b at = step_to (record_in m b) (step_at head_seen (frame_head m.format) b at)

-- ---- all steps

-- the records of n frames from `at` on
unfoldable pub records_from : FrameLayout → List ℕ → ℕ → ℕ → List FrameRecord
records_from m b zero at = []
records_from m b (suc n) at = (step_from m b at).found ∷ records_from m b n (step_from m b at).next
