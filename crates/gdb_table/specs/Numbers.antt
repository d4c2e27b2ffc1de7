-- Which numbers the frame table can refuse with: a file's own, and 11 where there are more frames than records.
-- Assumes nothing.
use Rattle.std.specs.Prelude.{ℕ, List, [], ◌∷◌, ◌++◌}
use Rattle.refusals.specs.Refusal.{no_room}
use Rattle.fields.specs.Output.{answer}
use Rattle.fields.specs.Refuses.{Refuses, OneOf, refuses_never, refuses_answer}
use Rattle.gdb_format.specs.Numbers.{file_numbers}
use Rattle.gdb_format.specs.declared.Settings.{Settings}
use Rattle.gdb_frames.specs.Questions.{asked}
use Rattle.gdb_frames.specs.Numbers.{asked-numbers}
use Rattle.gdb_table.specs.Records.{frame_table}
use Rattle.gdb_table.specs.declared.FrameRecord.{FrameRecord}

-- a file's, and 11
abbrev pub table_numbers : List ℕ
table_numbers = file_numbers ++ no_room ∷ []

pub table-numbers : (s : Settings) (b : List ℕ) (out : List FrameRecord) → Refuses (OneOf table_numbers) (answer (asked s b frame_table) out)
table-numbers s b out = refuses_answer out tt (asked-numbers s b _ (λ f t. refuses_never))
