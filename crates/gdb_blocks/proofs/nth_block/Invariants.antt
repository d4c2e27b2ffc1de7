-- What is left to walk leads where the whole does.
use Rattle.std.proofs.Common.{◌≡◌, ◌-◌}
use Rattle.gdb_format.specs.Opening.{size_meaning}
use Rattle.gdb_blocks.specs.Search.{nth_block}
use Rattle.gdb_blocks.proofs.nth_block.Given as goal

abbrev pub invariant-loop : goal.invariant-loop
invariant-loop l =
    nth_block l.layout.format (size_meaning l.layout.size) l.d (l.k - l.counter) l.at ≡ nth_block l.layout.format (size_meaning l.layout.size) l.d l.k l.from
