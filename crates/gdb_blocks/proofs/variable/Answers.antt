-- What the search over all of the located frame's data finds.
use Rattle.std.proofs.Common.{ap, ◌∙◌}
use Rattle.refusals.specs.Number.{number}
use Rattle.gdb_format.specs.Opening.{size_meaning}
use Rattle.gdb_blocks.specs.Latest.{latest}
use Rattle.gdb_blocks.specs.Search.{value_in, values_found}
use Rattle.gdb_blocks.specs.SearchLaws.{frame-given, frame_refused, search_told}
use Rattle.gdb_blocks.proofs.LatestLaws.{variable_anywhere}
use Rattle.fields.specs.Given.{handed_on}
use Rattle.gdb_blocks.proofs.variable.Goals as goal

pub returns-in_err-frame : goal.returns-in_err-frame
returns-in_err-frame c =
    rw (handed_on c.from_residual.ensures.1)
    (frame_refused c.args.settings c.args.file.now c.args.n (number c.in_err-frame.field-0.0) (latest (value_in c.args.number)) c.in_err-frame.ensures
    ∙ variable_anywhere c.args.settings c.args.file.now c.args.n c.args.number)

pub returns : goal.returns
returns c =
    let l = c.in_ok-frame.frame in
    c.find_value.ensures ∙ ap (λ d. values_found l.layout.format (size_meaning l.layout.size) c.args.number d l.head.place) c.up_to_data-data.ensures
    ∙ search_told (frame-given l c.type_inv.file c.in_ok-frame.ensures) (latest (value_in c.args.number))
    ∙ variable_anywhere c.args.settings c.args.file.now c.args.n c.args.number
