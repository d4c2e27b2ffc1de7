-- A block more leads where the whole walk does, and so does the end, or a fault.
use Rattle.std.proofs.Common.{arith, ap, ◌∙◌, ◌≡◌, ◌+◌, ◌-◌, Ok}
use Rattle.refusals.specs.Number.{number}
use Rattle.fields.specs.Given.{at_case, handed_on}
use Rattle.gdb_format.specs.Decode.{block}
use Rattle.gdb_format.specs.Opening.{size_meaning}
use Rattle.gdb_data.specs.Blocks.{block_seen, block_in, block_step_meaning}
use Rattle.gdb_frames.specs.Nth.{nth-none, nth-fault, nth_on}
use Rattle.gdb_blocks.specs.Search.{nth_block}
use Rattle.gdb_blocks.proofs.nth_block.Goals as goal

pub loop-preserved : goal.loop-preserved
loop-preserved c =
    let p = block c.args.layout.format (size_meaning c.args.layout.size) in
    let h = at_case (λ o. block_step_meaning (Ok o)) c.in-Some.is c.in_ok-step.ensures in
    let k = c.args.k in
    let j = c.loop.counter in
    let i : k - (j + 1) ≡ k - j - 1 = omega arith in
    rw i (nth_on block_seen p c.args.d.now c.loop.at (k - j) (omega arith) (block_in c.in-Some.step.record) c.in-Some.step.next h ∙ c.loop.invariant)

pub returns-in-None : goal.returns-in-None
returns-in-None c =
    let h = at_case (λ o. block_step_meaning (Ok o)) c.in-None.is c.in_ok-step.ensures in
    nth-none block_seen (block c.args.layout.format (size_meaning c.args.layout.size)) c.args.d.now c.loop.at (c.args.k - c.loop.counter) h ∙ c.loop.invariant

pub returns-in_err-step : goal.returns-in_err-step
returns-in_err-step c =
    rw (handed_on c.from_residual.ensures.1)
    (nth-fault block_seen (block c.args.layout.format (size_meaning c.args.layout.size)) c.args.d.now c.loop.at (c.args.k - c.loop.counter)
    (number c.in_err-step.field-0.0) c.in_err-step.ensures ∙ c.loop.invariant)

pub returns : goal.returns
returns c =
    let z : 0 ≡ c.args.k - c.loop.counter = omega arith in
    c.block_at-2.ensures ∙ ap (λ k. nth_block c.args.layout.format (size_meaning c.args.layout.size) c.args.d.now k c.loop.at) z ∙ c.loop.invariant
