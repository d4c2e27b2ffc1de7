-- The settings' refusal, or what the file holds under them.
use Rattle.refusals.specs.Number.{number}
use Rattle.gdb_seek.specs.FoundLaws.{found-no-format, found-format}
use Rattle.fields.specs.Given.{handed_on}
use Rattle.gdb_seek.proofs.frame_place.Goals as goal

pub returns-in_err-try_from : goal.returns-in_err-try_from
returns-in_err-try_from c =
    rw (handed_on c.from_residual.ensures.1) (found-no-format c.args.settings c.args.file.now c.args.n (number c.in_err-try_from.field-0.0) c.in_err-try_from.ensures)

pub returns : goal.returns
returns c = found-format c.args.settings c.args.file.now c.args.n c.in_ok-try_from.field-0 c.in_ok-try_from.ensures c.frame_in.ensures
