-- A walk that is refused refuses the file; of a header that is found, the ranges are judged, where there are some.
use Rattle.std.proofs.Common.{arith}
use Rattle.fields.specs.Given.{handed_on}
use Rattle.tracedat.proofs.SummaryLaws.{too_long_lem, bad_walk, header-found, accept_text, bad_ranges, accept_entries}
use Rattle.tracedat.proofs.summary.Goals as goal

pub returns-then-file-gt-LIMIT : goal.returns-then-file-gt-LIMIT
returns-then-file-gt-LIMIT c = too_long_lem c.args.file.now (omega arith)

pub returns-in_err-summary : goal.returns-in_err-summary
returns-in_err-summary c = rw (handed_on c.from_residual.ensures.1) (bad_walk c.args.file.now (omega arith) c.in_err-summary.ensures)

pub returns-in_err-judge-in-Flyrecord : goal.returns-in_err-judge-in-Flyrecord
returns-in_err-judge-in-Flyrecord c =
    rw (handed_on c.from_residual-in_err-judge-in-Flyrecord.ensures.1)
    (bad_ranges (header-found c.type_inv.file (omega arith) c.in_ok-summary.ensures) c.in-Flyrecord.is c.in_err-judge-in-Flyrecord.ensures)

pub returns-in-Latency : goal.returns-in-Latency
returns-in-Latency c = accept_text (header-found c.type_inv.file (omega arith) c.in_ok-summary.ensures) c.in-Latency.is

pub returns-in_ok-judge-in-Flyrecord : goal.returns-in_ok-judge-in-Flyrecord
returns-in_ok-judge-in-Flyrecord c =
    accept_entries (header-found c.type_inv.file (omega arith) c.in_ok-summary.ensures) c.in-Flyrecord.is c.in_ok-judge-in-Flyrecord.ensures
