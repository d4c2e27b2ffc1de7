-- The block that was met is a register block, or the search goes on behind it.
use Rattle.std.proofs.Common.{ℕ, Bool, true, false, arith, ◌≡◌, Ok, None}
use Rattle.fields.specs.Given.{at_case}
use Rattle.gdb_format.specs.Trace.{Block, is_registers}
use Rattle.gdb_format.specs.Opening.{size_meaning}
use Rattle.gdb_data.specs.Blocks.{search_meaning}
use Rattle.gdb_blocks.specs.SearchLaws.{Met, sought_met, registers_met, others_met, search_end, search_fault, search_miss, search_hit}
use Rattle.gdb_blocks.proofs.find_registers.Goals as goal

-- what the search is told of a block
abbrev told : ℕ → Block → Bool
told i b = is_registers b

pub returns-in_default : goal.returns-in_default
returns-in_default c =
    let n : c.in_default.field-0 ≡ None = search in
    search_end told c.loop-step.invariant (at_case (λ o. search_meaning (Ok o)) n (at_case search_meaning c.in_default.is c.registers_at.ensures))

pub returns-in_default-2 : goal.returns-in_default-2
returns-in_default-2 c = search_fault told c.loop-step.invariant (at_case search_meaning c.in_default.is c.registers_at.ensures)

-- its letter is in the data, and it ends behind it
pub overflow_sub-length : goal.overflow_sub-length
overflow_sub-length c =
    let t : Met told c.args.layout.format (size_meaning c.args.layout.size) c.args.d.now c.loop-step.at true c.in-Ok-Some.step.next =
    sought_met is_registers c.type_inv.d c.in-Ok-Some.field-0-is c.in-Ok-Some.ensures c.if-step.true in
    omega (arith, t.turn.later)

pub returns-then-step : goal.returns-then-step
returns-then-step c =
    let t : Met told c.args.layout.format (size_meaning c.args.layout.size) c.args.d.now c.loop-step.at true c.in-Ok-Some.step.next =
    sought_met is_registers c.type_inv.d c.in-Ok-Some.field-0-is c.in-Ok-Some.ensures c.if-step.true in
    search_hit c.loop-step.invariant t (registers_met t)

-- another was met
other : (c : goal.Else-step) → Met told c.args.layout.format (size_meaning c.args.layout.size) c.args.d.now c.loop-step.at false c.in-Ok-Some.step.next
other c = sought_met is_registers c.type_inv.d c.in-Ok-Some.field-0-is c.in-Ok-Some.ensures c.if-step.false

pub loop-step-smaller : goal.loop-step-smaller
loop-step-smaller c = omega (arith, (other c).turn.later, (other c).turn.within)

pub loop-step-preserved : goal.loop-step-preserved
loop-step-preserved c = search_miss c.loop-step.invariant (other c) (others_met (other c))
