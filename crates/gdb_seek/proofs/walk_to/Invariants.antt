-- The walk goes on past as many heads as there were turns.
use Rattle.gdb_seek.specs.Turns.{Going}
use Rattle.gdb_seek.proofs.walk_to.Given as goal

abbrev pub invariant-loop : goal.invariant-loop
invariant-loop l = Going l.format l.s l.from l.n l.at l.counter
