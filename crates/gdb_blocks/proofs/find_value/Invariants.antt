-- What was found so far is the value of the block whose place is kept.
use Rattle.std.proofs.Common.{◌-◌, length}
use Rattle.gdb_format.specs.Opening.{size_meaning}
use Rattle.gdb_blocks.proofs.LatestLaws.{Keeping}
use Rattle.gdb_blocks.proofs.find_value.Given as goal

abbrev pub invariant-loop-step : goal.invariant-loop-step
invariant-loop-step l = Keeping l.layout.format (size_meaning l.layout.size) l.number l.d l.from l.at l.latest

abbrev pub decreases-loop-step : goal.decreases-loop-step
decreases-loop-step l = length l.d - l.at
