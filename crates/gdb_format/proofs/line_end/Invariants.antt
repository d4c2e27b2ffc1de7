-- The line that goes on at `at` ends where the whole does.
use Rattle.std.proofs.Common.{◌≡◌, ◌+◌, length, drop}
use Rattle.gdb_format.specs.Opening.{line_of}
use Rattle.gdb_format.proofs.line_end.Given as goal

abbrev pub invariant-loop-at : goal.invariant-loop-at
invariant-loop-at l = l.at + length (line_of (drop l.at l.s)) ≡ l.from + length (line_of (drop l.from l.s))
