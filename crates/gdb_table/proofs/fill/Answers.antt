-- A record more is written, and at the end the list holds what the walk finds.
use Rattle.std.proofs.Common.{length, refl}
use Rattle.gdb_table.specs.Filling.{starts, goes_on_lem, ends}
use Rattle.gdb_table.proofs.fill.Goals as goal

pub loop-record-init : goal.loop-record-init
loop-record-init c = starts c.args.layout c.args.file.now (length c.args.out.now) c.args.start c.args.out.now refl

pub loop-record-preserved : goal.loop-record-preserved
loop-record-preserved c =
    goes_on_lem c.loop-record.invariant c.loop-record-test.true c.step_at-step.result c.step_at-step.ensures

pub returns : goal.returns
returns c = ends c.loop-record.invariant c.loop-record-test.false
