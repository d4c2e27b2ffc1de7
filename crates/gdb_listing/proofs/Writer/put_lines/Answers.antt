-- The line of the head that was met is written, and those after it are left.
use Rattle.std.proofs.Common.{◌∙◌}
use Rattle.gdb_read.specs.Steps.{head_meaning}
use Rattle.gdb_listing.specs.Written.{left_less}
use Rattle.gdb_listing.specs.Rows.{heads_left, lines_end, lines_on}
use Rattle.gdb_listing.proofs.Writer.put_lines.Goals as goal

pub loop-head-preserved : goal.loop-head-preserved
loop-head-preserved c =
    let i = c.loop-head.invariant in
    let it = c.loop-head.head-iterator in
    let m = lines_on (heads_left it) i.2 (head_meaning c.in-Some.head) (heads_left c.next.new.self) c.in-Some.ensures.steps in
    (tt, tt, left_less m c.put_line.ensures.puts, c.put_line.ensures.lent ∙ i.3)

pub returns : goal.returns
returns c =
    let i = c.loop-head.invariant in
    record { puts = lines_end (heads_left c.loop-head.head-iterator) i.2 c.in-None.ensures.steps.0; lent = i.3 }
