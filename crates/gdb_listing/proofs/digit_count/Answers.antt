-- Every power of ten is a digit more; 0 has one digit.
use Rattle.std.proofs.Common.{arith}
use Rattle.gdb_listing.specs.DecimalLaws.{digits-log}
use Rattle.gdb_listing.proofs.digit_count.Goals as goal

pub returns : goal.returns
returns c = (digits-log c.ilog10.result c.args.n c.max.result c.max.ensures c.ilog10.ensures.power_le c.ilog10.ensures.next_power_gt, omega (arith, c.ilog10.ensures.bound))
