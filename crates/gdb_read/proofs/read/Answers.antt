-- The settings' format, and the file read in it.
use Rattle.std.proofs.Common.{◌∙◌}
use Rattle.refusals.specs.Number.{number}
use Rattle.gdb_read.proofs.Whole.{no-format, in_format}
use Rattle.fields.specs.Given.{handed_on}
use Rattle.gdb_read.proofs.read.Goals as goal

pub returns-in_err-try_from : goal.returns-in_err-try_from
returns-in_err-try_from c = rw (handed_on c.from_residual.ensures.1) (no-format c.args.settings c.args.file.now (number c.in_err-try_from.field-0.0) c.in_err-try_from.ensures)

pub returns : goal.returns
returns c = c.read_as.ensures ∙ in_format c.args.settings c.args.file.now c.in_ok-try_from.field-0 c.in_ok-try_from.ensures
