-- A head more, or why there is none.
use Rattle.std.proofs.Common.{arith}
use Rattle.fields.specs.Given.{handed_on}
use Rattle.gdb_seek.specs.Turns.{stands_there, going_stopped, going_on}
use Rattle.gdb_seek.proofs.walk_to.Goals as goal

pub loop-preserved : goal.loop-preserved
loop-preserved c = going_on c.loop.invariant (stands_there c.args.format c.args.s.now c.loop.at c.in_ok-at.ensures) (λ e. omega arith)

pub returns-in_err-at : goal.returns-in_err-at
returns-in_err-at c = rw (handed_on c.from_residual.ensures.1) (going_stopped c.loop.invariant c.in_err-at.ensures)

pub returns-in_err-head : goal.returns-in_err-head
returns-in_err-head c = rw (handed_on c.from_residual-in_err-head.ensures.1) (going_stopped c.loop.invariant c.in_err-head.ensures)
