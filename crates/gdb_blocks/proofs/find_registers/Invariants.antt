-- The search goes on behind the blocks that were passed.
use Rattle.std.proofs.Common.{◌-◌, length}
use Rattle.gdb_format.specs.Opening.{size_meaning}
use Rattle.gdb_blocks.specs.Search.{registers_in}
use Rattle.gdb_blocks.specs.SearchLaws.{Searching}
use Rattle.gdb_blocks.proofs.find_registers.Given as goal

abbrev pub invariant-loop-step : goal.invariant-loop-step
invariant-loop-step l = Searching l.layout.format (size_meaning l.layout.size) registers_in l.d l.from l.at

abbrev pub decreases-loop-step : goal.decreases-loop-step
decreases-loop-step l = length l.d - l.at
