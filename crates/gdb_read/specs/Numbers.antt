-- Which numbers the whole reading of a GDB file can refuse with.
-- Assumes nothing.
use Rattle.std.specs.Prelude.{ℕ, List}
use Rattle.fields.specs.Refuses.{Refuses, OneOf, refuses_never, refuses_next}
use Rattle.gdb_format.specs.Decode.{read}
use Rattle.gdb_format.specs.Numbers.{file_numbers, file-numbers}
use Rattle.gdb_format.specs.declared.Settings.{Settings}
use Rattle.gdb_read.specs.Steps.{read_seen}

pub read-numbers : (s : Settings) (b : List ℕ) → Refuses (OneOf file_numbers) (read_seen (read s b))
read-numbers s b = refuses_next (file-numbers s b) (λ r. refuses_never)
