-- A file that is accepted has its entries where its summary says.
use Rattle.std.proofs.Common.{arith}
use Rattle.fields.specs.Given.{handed_on}
use Rattle.tracedat.proofs.SummaryLaws.{room, no_header, accepts, none_in_text, no-cpu, the_range_lem}
use Rattle.tracedat.proofs.cpu_range.Goals as goal

pub returns-in_err-header : goal.returns-in_err-header
returns-in_err-header c = rw (handed_on c.from_residual.ensures.1) (no_header c.args.file.now c.args.i c.in_err-header.ensures)

pub overflow_add-at : goal.overflow_add-at
overflow_add-at c = omega (arith, room (accepts c.type_inv.file c.in_ok-header.ensures).summarised c.in-Flyrecord.is)

pub overflow_add-at-in-Flyrecord : goal.overflow_add-at-in-Flyrecord
overflow_add-at-in-Flyrecord c = omega (arith, room (accepts c.type_inv.file c.in_ok-header.ensures).summarised c.in-Flyrecord.is)

pub returns-in-Flyrecord : goal.returns-in-Flyrecord
returns-in-Flyrecord c =
    the_range_lem (accepts c.type_inv.file c.in_ok-header.ensures) c.args.i c.in-Flyrecord.is (omega arith) c.u64_at.ensures c.u64_at-in-Flyrecord.ensures

pub returns-in_default : goal.returns-in_default
returns-in_default c = no-cpu (accepts c.type_inv.file c.in_ok-header.ensures) c.args.i c.in-Flyrecord.is (omega arith)

pub returns-in_default-2 : goal.returns-in_default-2
returns-in_default-2 c = none_in_text (accepts c.type_inv.file c.in_ok-header.ensures) c.args.i c.in_default.is
