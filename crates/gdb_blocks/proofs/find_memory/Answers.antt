-- The block that was met is hit, or the search goes on behind it.
use Rattle.std.proofs.Common.{◌≡◌, arith, Ok, None}
use Rattle.fields.specs.Given.{at_case}
use Rattle.gdb_format.specs.Opening.{size_meaning}
use Rattle.gdb_data.specs.Blocks.{block_seen, block_in, block_step_meaning}
use Rattle.gdb_blocks.specs.SearchLaws.{Met, met_given, memory_met, least_met, search_end, search_fault, search_miss, search_hit}
use Rattle.gdb_blocks.proofs.find_memory.Goals as goal

pub returns-in_default : goal.returns-in_default
returns-in_default c =
    let n : c.in_default.field-0 ≡ None = search in
    search_end block_seen c.loop-step.invariant (at_case (λ o. block_step_meaning (Ok o)) n (at_case block_step_meaning c.in_default.is c.block_at.ensures))

pub returns-in_default-2 : goal.returns-in_default-2
returns-in_default-2 c = search_fault block_seen c.loop-step.invariant (at_case block_step_meaning c.in_default.is c.block_at.ensures)

pub memory_hit-requires : goal.memory_hit-requires
memory_hit-requires c =
    let s = c.in-Ok-Some.step in
    let t : Met block_seen c.args.layout.format (size_meaning c.args.layout.size) c.args.d.now c.loop-step.at (block_in s.record) s.next =
    met_given c.type_inv.d c.in-Ok-Some.field-0-is c.in-Ok-Some.ensures in
    least_met t

pub returns-in-Some : goal.returns-in-Some
returns-in-Some c =
    let s = c.in-Ok-Some.step in
    let t : Met block_seen c.args.layout.format (size_meaning c.args.layout.size) c.args.d.now c.loop-step.at (block_in s.record) s.next =
    met_given c.type_inv.d c.in-Ok-Some.field-0-is c.in-Ok-Some.ensures in
    search_hit c.loop-step.invariant t (memory_met t c.args.address c.in-Some.ensures)

-- a block was met that does not cover the address
other : (c : goal.In_default-memory_hit)
    → Met block_seen c.args.layout.format (size_meaning c.args.layout.size) c.args.d.now c.loop-step.at (block_in c.in-Ok-Some.step.record) c.in-Ok-Some.step.next
other c = met_given c.type_inv.d c.in-Ok-Some.field-0-is c.in-Ok-Some.ensures

pub loop-step-smaller : goal.loop-step-smaller
loop-step-smaller c = omega (arith, (other c).turn.later, (other c).turn.within)

pub loop-step-preserved : goal.loop-step-preserved
loop-step-preserved c = search_miss c.loop-step.invariant (other c) (memory_met (other c) c.args.address c.in_default-memory_hit.ensures)
