-- The opening, and the frames behind it.
use Rattle.std.proofs.Common.{arith}
use Rattle.refusals.specs.Number.{number}
use Rattle.fields.specs.Given.{bytes-given, handed_on}
use Rattle.gdb_format.specs.Opening.{size_meaning}
use Rattle.gdb_read.proofs.Whole.{too_long_lem, bad-opening, bad-frames, Whole, all_read}
use Rattle.gdb_read.proofs.read_as.Goals as goal

pub returns-then-file-gt-LIMIT : goal.returns-then-file-gt-LIMIT
returns-then-file-gt-LIMIT c = too_long_lem c.args.format c.args.file.now (omega arith)

pub returns-in_err-opening : goal.returns-in_err-opening
returns-in_err-opening c = rw (handed_on c.from_residual.ensures.1) (bad-opening c.args.format c.args.file.now (omega arith) (number c.in_err-opening.field-0.0) c.in_err-opening.ensures)

pub returns-in_err-frames : goal.returns-in_err-frames
returns-in_err-frames c =
    rw (handed_on c.from_residual-in_err-frames.ensures.1)
    (bad-frames c.args.format c.args.file.now (omega arith) (bytes-given c.args.file.now c.type_inv.file)
    c.in_ok-opening.opening.end (size_meaning c.in_ok-opening.opening.size) c.in_ok-opening.ensures
    (number c.in_err-frames.field-0.0) c.in_err-frames.ensures)

pub returns : goal.returns
returns c =
    let o = c.in_ok-opening.opening in
    let n = c.in_ok-frames.frames in
    let w : Whole c.args.format c.args.file.now (size_meaning o.size) o.end n.count n.marked =
    all_read c.args.format c.args.file.now (omega arith) (bytes-given c.args.file.now c.type_inv.file)
    o.end (size_meaning o.size) c.in_ok-opening.ensures n.count n.marked c.in_ok-frames.ensures in
    rw c.mark_length.ensures w.read

pub overflow_sub-result : goal.overflow_sub-result
overflow_sub-result c =
    let o = c.in_ok-opening.opening in
    let n = c.in_ok-frames.frames in
    let w : Whole c.args.format c.args.file.now (size_meaning o.size) o.end n.count n.marked =
    all_read c.args.format c.args.file.now (omega arith) (bytes-given c.args.file.now c.type_inv.file)
    o.end (size_meaning o.size) c.in_ok-opening.ensures n.count n.marked c.in_ok-frames.ensures in
    omega (arith, c.mark_length.ensures, w.within)
