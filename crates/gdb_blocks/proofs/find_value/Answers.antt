-- The block that was met is one of the variable, and its place is kept, or it is another.
use Rattle.std.proofs.Common.{true, false, ◌∙◌, arith, Ok}
use Rattle.fields.specs.Given.{at_case, handed_on}
use Rattle.gdb_format.specs.Opening.{size_meaning}
use Rattle.gdb_data.specs.Blocks.{has_number, search_meaning}
use Rattle.gdb_blocks.specs.SearchLaws.{Met, sought_met}
use Rattle.gdb_blocks.proofs.LatestLaws.{passed-all, passed-fault, keep_own, keep-other}
use Rattle.gdb_blocks.proofs.find_value.Goals as goal

pub returns : goal.returns
returns c =
    c.value_at.ensures
    ∙ passed-all c.loop-step.invariant.passed (λ i b. has_number c.args.number b) (at_case (λ o. search_meaning (Ok o)) c.in_default.is c.in_ok-step.ensures)

pub returns-in_err-step : goal.returns-in_err-step
returns-in_err-step c =
    rw (handed_on c.from_residual.ensures.1) (passed-fault c.loop-step.invariant.passed (λ i b. has_number c.args.number b) c.in_err-step.ensures)

-- a block of the variable was met
own : (c : goal.Then-step)
    → Met (λ i b. has_number c.args.number b) c.args.layout.format (size_meaning c.args.layout.size) c.args.d.now c.loop-step.at true c.in-Some.step.next
own c = sought_met (has_number c.args.number) c.type_inv.d c.in-Some.is c.in_ok-step.ensures c.if-step.true

pub loop-step-smaller-then-step : goal.loop-step-smaller-then-step
loop-step-smaller-then-step c = omega (arith, (own c).turn.later, (own c).turn.within)

pub loop-step-preserved-then-step : goal.loop-step-preserved-then-step
loop-step-preserved-then-step c = keep_own c.loop-step.invariant (own c)

-- another was met
other : (c : goal.Else-step)
    → Met (λ i b. has_number c.args.number b) c.args.layout.format (size_meaning c.args.layout.size) c.args.d.now c.loop-step.at false c.in-Some.step.next
other c = sought_met (has_number c.args.number) c.type_inv.d c.in-Some.is c.in_ok-step.ensures c.if-step.false

pub loop-step-smaller : goal.loop-step-smaller
loop-step-smaller c = omega (arith, (other c).turn.later, (other c).turn.within)

pub loop-step-preserved : goal.loop-step-preserved
loop-step-preserved c = keep-other c.loop-step.invariant (other c)
