-- The count goes on.
use Rattle.std.proofs.Common.{◌-◌, length}
use Rattle.gdb_format.specs.Opening.{size_meaning}
use Rattle.gdb_read.proofs.Walks.{Counting}
use Rattle.gdb_read.proofs.frames_from.Given as goal

abbrev pub invariant-loop-layout : goal.invariant-loop-layout
invariant-loop-layout l = Counting l.layout.format (size_meaning l.layout.size) l.s l.from l.at l.count

abbrev pub decreases-loop-layout : goal.decreases-loop-layout
decreases-loop-layout l = length l.s - l.at
