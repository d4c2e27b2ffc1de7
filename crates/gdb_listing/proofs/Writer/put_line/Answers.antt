-- Three numbers, one behind the other.
use Rattle.std.proofs.Common.{arith}
use Rattle.gdb_read.specs.Steps.{head_meaning}
use Rattle.gdb_listing.specs.DecimalLaws.{line-length, wrote_line}
use Rattle.gdb_listing.specs.Written.{puts_long}
use Rattle.gdb_listing.proofs.Writer.put_line.Goals as goal

pub put_ended-requires : goal.put_ended-requires
put_ended-requires c = omega (arith, line-length (head_meaning c.args.head), c.requires)

pub put_ended-requires-2 : goal.put_ended-requires-2
put_ended-requires-2 c =
    let p = c.put_ended.ensures.puts in
    omega (arith, line-length (head_meaning c.args.head), c.requires, p.ends, puts_long p)

pub put_ended-requires-3 : goal.put_ended-requires-3
put_ended-requires-3 c =
    let p = c.put_ended.ensures.puts in
    let q = c.put_ended-2.ensures.puts in
    omega (arith, line-length (head_meaning c.args.head), c.requires, p.ends, puts_long p, q.ends, puts_long q)

pub returns : goal.returns
returns c = wrote_line (head_meaning c.args.head) c.put_ended.ensures c.put_ended-2.ensures c.put_ended-3.ensures
