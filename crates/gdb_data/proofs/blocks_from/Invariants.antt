-- What is left, after what was seen, is filled just where the whole is.
use Rattle.std.proofs.Common.{◌≡◌, ◌-◌, false, length, drop}
use Rattle.gdb_format.specs.Opening.{size_meaning}
use Rattle.gdb_data.specs.Blocks.{blocks_fill}
use Rattle.gdb_data.proofs.blocks_from.Given as goal

abbrev pub invariant-loop-place : goal.invariant-loop-place
invariant-loop-place l =
    blocks_fill l.layout.format (size_meaning l.layout.size) l.seen (drop l.at l.d) ≡ blocks_fill l.layout.format (size_meaning l.layout.size) false (drop l.from l.d)

abbrev pub decreases-loop-place : goal.decreases-loop-place
decreases-loop-place l = length l.d - l.at
