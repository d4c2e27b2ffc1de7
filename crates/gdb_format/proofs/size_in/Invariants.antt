-- The digits from k on, after v, give what all give.
use Rattle.std.proofs.Common.{◌+◌}
use Rattle.gdb_format.proofs.DigitLaws.{DigitsRead}
use Rattle.gdb_format.proofs.size_in.Given as goal

abbrev pub invariant-loop-b : goal.invariant-loop-b
invariant-loop-b l = DigitsRead l.radix l.most l.l l.v (2 + l.b-index)
