-- The line that was found, or 12, of the file that was read.
use Rattle.std.proofs.Common.{ap, ◌∙◌}
use Rattle.refusals.specs.Number.{number}
use Rattle.fields.specs.Answer.{accepted}
use Rattle.gdb_format.specs.Lines.{kind_of}
use Rattle.gdb_read.specs.Steps.{opened_meaning}
use Rattle.gdb_frames.specs.File.{WasRead, read-given}
use Rattle.gdb_frames.specs.Located.{line-missing, line-found}
use Rattle.fields.specs.Given.{handed_on}
use Rattle.gdb_frames.proofs.line_place.Goals as goal

pub returns-in_err-part : goal.returns-in_err-part
returns-in_err-part c =
    let w : WasRead c.args.settings c.args.file.now (opened_meaning c.in_ok-read.field-0) = read-given c.type_inv.file c.in_ok-read.was c.read.ensures in
    rw (handed_on c.from_residual-in_err-part.ensures.1) (line-missing w c.args.j (number c.in_err-part.field-0.0) c.in_err-part.ensures)

pub returns : goal.returns
returns c =
    let w : WasRead c.args.settings c.args.file.now (opened_meaning c.in_ok-read.field-0) = read-given c.type_inv.file c.in_ok-read.was c.read.ensures in
    let part = c.in_ok-part.part in
    ap (λ k. accepted (k, (part.place, part.length))) (c.line_kind-kind.ensures ∙ ap kind_of c.bytes.ensures)
    ∙ line-found w c.args.j part.place part.length c.in_ok-part.ensures
