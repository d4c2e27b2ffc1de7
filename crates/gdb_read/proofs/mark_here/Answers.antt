-- The mark has four bytes.
use Rattle.std.proofs.Common.{arith}
use Rattle.gdb_read.proofs.Marks.{mark-other}
use Rattle.gdb_read.proofs.mark_here.Goals as goal

pub returns-then-s-at-ne4 : goal.returns-then-s-at-ne4
returns-then-s-at-ne4 c = mark-other c.args.s.now c.args.at (λ e. omega arith)
