-- What follows reads as the whole does.
use Rattle.std.proofs.Common.{◌-◌, length}
use Rattle.gdb_format.proofs.Description.{Walked}
use Rattle.gdb_format.proofs.lines_from.Given as goal

abbrev pub invariant-loop-start : goal.invariant-loop-start
invariant-loop-start l = Walked l.format l.s l.from l.start l.seen

abbrev pub decreases-loop-start : goal.decreases-loop-start
decreases-loop-start l = length l.s - l.start
