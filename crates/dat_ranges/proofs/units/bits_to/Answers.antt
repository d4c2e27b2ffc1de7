-- The word of ones, shifted right, has ones up to `high`.
use Rattle.dat_ranges.proofs.BitLaws.{bits_to_lem}
use Rattle.dat_ranges.proofs.units.bits_to.Goals as goal

pub returns : goal.returns
returns c = bits_to_lem c.args.high c.requires
