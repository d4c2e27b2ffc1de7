-- The first i bytes are copied, and what stood behind them stands.
use Rattle.std.proofs.Common.{◌≡◌, ◌++◌, take, drop}
use Rattle.byte_runs.proofs.copy.Given as goal

abbrev pub invariant-loop-i : goal.invariant-loop-i
invariant-loop-i l = l.dst ≡ take l.i l.src ++ drop l.i l.initial.dst
