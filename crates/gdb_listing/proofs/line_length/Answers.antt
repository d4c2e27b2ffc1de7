-- A line is three numbers, each with the byte that ends it.
use Rattle.std.proofs.Common.{arith}
use Rattle.gdb_read.specs.Steps.{head_meaning}
use Rattle.gdb_listing.specs.DecimalLaws.{line-digits}
use Rattle.gdb_listing.proofs.line_length.Goals as goal

pub returns : goal.returns
returns c =
    omega (arith, line-digits (head_meaning c.args.head), c.digit_count.ensures.0, c.digit_count-2.ensures.0, c.digit_count-3.ensures.0)
