-- The mark, data that run past the file, or a frame.
use Rattle.std.proofs.Common.{arith, ◌∙◌}
use Rattle.gdb_read.proofs.Frames.{Sized, head-zero, head-over, head-whole}
use Rattle.gdb_read.proofs.head_at.Goals as goal

pub returns-then-u16_at-eq0 : goal.returns-then-u16_at-eq0
returns-then-u16_at-eq0 c = head-zero c.args.format c.args.s.now c.args.at (omega arith) (omega arith) c.u16_at.result c.u16_at.ensures c.if-u16_at-eq0.true

pub returns-then-s-place : goal.returns-then-s-place
returns-then-s-place c =
    let h : Sized c.args.format c.args.s.now c.args.at c.u16_at-tracepoint.result c.u32_at-size.result = record {
      within = omega arith;
      number = c.u16_at-tracepoint.ensures;
      not_zero = λ e. c.if-u16_at-eq0.false (c.u16_at.ensures ∙ e);
      size = c.u32_at-size.ensures;
    } in
    head-over h (omega arith)

pub returns : goal.returns
returns c =
    let h : Sized c.args.format c.args.s.now c.args.at c.u16_at-tracepoint.result c.u32_at-size.result = record {
      within = omega arith;
      number = c.u16_at-tracepoint.ensures;
      not_zero = λ e. c.if-u16_at-eq0.false (c.u16_at.ensures ∙ e);
      size = c.u32_at-size.ensures;
    } in
    head-whole h (omega arith)
