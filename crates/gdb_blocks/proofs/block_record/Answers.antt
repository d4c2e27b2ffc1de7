-- The block that the walk over the located frame's data leads to.
use Rattle.std.proofs.Common.{ap, ◌∙◌, Ok}
use Rattle.fields.specs.Given.{at_case, handed_on}
use Rattle.gdb_format.specs.Opening.{size_meaning}
use Rattle.gdb_data.specs.Blocks.{block_step_meaning}
use Rattle.gdb_blocks.specs.Search.{nth_block}
use Rattle.gdb_blocks.specs.SearchLaws.{frame-given, block-is}
use Rattle.gdb_blocks.proofs.block_record.Goals as goal

pub returns-in_err-step : goal.returns-in_err-step
returns-in_err-step c =
    let l = c.in_ok-frame.frame in
    rw (handed_on c.from_residual-in_err-step.ensures.1)
    (block-is (frame-given l c.type_inv.file c.in_ok-frame.ensures) c.args.k
    (c.in_err-step.ensures ∙ ap (λ d. nth_block l.layout.format (size_meaning l.layout.size) d c.args.k l.head.place) c.up_to_data-data.ensures))

pub returns-in-Some : goal.returns-in-Some
returns-in-Some c =
    let l = c.in_ok-frame.frame in
    block-is (frame-given l c.type_inv.file c.in_ok-frame.ensures) c.args.k
    (at_case (λ o. block_step_meaning (Ok o)) c.in-Some.is c.in_ok-step.ensures
    ∙ ap (λ d. nth_block l.layout.format (size_meaning l.layout.size) d c.args.k l.head.place) c.up_to_data-data.ensures)

pub returns-in-None : goal.returns-in-None
returns-in-None c =
    let l = c.in_ok-frame.frame in
    block-is (frame-given l c.type_inv.file c.in_ok-frame.ensures) c.args.k
    (at_case (λ o. block_step_meaning (Ok o)) c.in-None.is c.in_ok-step.ensures
    ∙ ap (λ d. nth_block l.layout.format (size_meaning l.layout.size) d c.args.k l.head.place) c.up_to_data-data.ensures)
