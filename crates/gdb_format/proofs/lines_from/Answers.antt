-- The line that starts where the walk stands, and what each of its answers says of the whole description.
use Rattle.std.proofs.Common.{arith}
use Rattle.gdb_format.proofs.Description.{MetLine, walk_none, walk_found, walk_fault, walk_on, walk_over}
use Rattle.fields.specs.Given.{handed_on}
use Rattle.gdb_format.proofs.lines_from.Goals as goal

pub returns-then-s-end : goal.returns-then-s-end
returns-then-s-end c =
    let m : MetLine c.args.format c.args.s.now c.args.from c.loop-start.start c.line_end-end.result c.loop-start.seen =
    record { walked = c.loop-start.invariant; inside = omega arith; ends = c.line_end-end.ensures } in
    walk_none m c.if-s-end.true

pub returns-then-end-start : goal.returns-then-end-start
returns-then-end-start c =
    let m : MetLine c.args.format c.args.s.now c.args.from c.loop-start.start c.line_end-end.result c.loop-start.seen =
    record { walked = c.loop-start.invariant; inside = omega arith; ends = c.line_end-end.ensures } in
    walk_found m (omega arith) c.if-end-start.true

pub returns-in_err-seen : goal.returns-in_err-seen
returns-in_err-seen c =
    let m : MetLine c.args.format c.args.s.now c.args.from c.loop-start.start c.line_end-end.result c.loop-start.seen =
    record { walked = c.loop-start.invariant; inside = omega arith; ends = c.line_end-end.ensures } in
    rw (handed_on c.from_residual.ensures.1) (walk_fault m (omega arith) (omega arith) c.in_err-seen.was c.line_step.ensures)

pub loop-start-preserved : goal.loop-start-preserved
loop-start-preserved c =
    let m : MetLine c.args.format c.args.s.now c.args.from c.loop-start.start c.line_end-end.result c.loop-start.seen =
    record { walked = c.loop-start.invariant; inside = omega arith; ends = c.line_end-end.ensures } in
    walk_on m (omega arith) (omega arith) c.in_ok-seen.was c.line_step.ensures

pub returns : goal.returns
returns c = walk_over c.loop-start.invariant c.loop-start-test.false
