-- One byte, or two that are the mark's first or not.
use Rattle.std.proofs.Common.{arith}
use Rattle.gdb_read.proofs.Frames.{head-none, head-zero, head-short}
use Rattle.gdb_read.proofs.short_head.Goals as goal

pub returns-then-s-at-lt2 : goal.returns-then-s-at-lt2
returns-then-s-at-lt2 c = λ f. head-none f c.args.s.now c.args.at c.requires.0 (omega arith)

pub returns-then-u16_at-eq0 : goal.returns-then-u16_at-eq0
returns-then-u16_at-eq0 c =
    λ f. head-zero f c.args.s.now c.args.at c.requires.0 (omega arith) c.u16_at.result c.u16_at.ensures c.if-u16_at-eq0.true

pub returns : goal.returns
returns c =
    λ f. head-short f c.args.s.now c.args.at c.requires.0 (omega arith) c.u16_at.result c.u16_at.ensures c.if-u16_at-eq0.false c.requires.1
