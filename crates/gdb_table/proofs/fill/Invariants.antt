-- What the walk finds is written as far as it has come.
use Rattle.std.proofs.Common.{length}
use Rattle.gdb_table.specs.Filling.{Filling}
use Rattle.gdb_table.proofs.fill.Given as goal

abbrev pub invariant-loop-record : goal.invariant-loop-record
invariant-loop-record l = Filling l.layout l.file (length l.initial.out) l.start l.record-index l.at l.out
