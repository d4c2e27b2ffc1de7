-- What is left is filled just where the whole is, whatever the register size is and whatever was seen before.
use Rattle.std.proofs.Common.{◌≡◌, ◌≤◌, ◌-◌, ℕ, Bool, length, drop}
use Rattle.std.proofs.Math.Option.{Option}
use Rattle.gdb_data.specs.Blocks.{blocks_fill}
use Rattle.gdb_data.proofs.others_end.Given as goal

abbrev pub invariant-loop-at : goal.invariant-loop-at
invariant-loop-at l =
    ((size : Option ℕ) (seen : Bool) → blocks_fill l.format size seen (drop l.at l.d) ≡ blocks_fill l.format size seen (drop l.from l.d)) × (l.from ≤ l.at)

abbrev pub decreases-loop-at : goal.decreases-loop-at
decreases-loop-at l = length l.d - l.at
