-- The word of ones, shifted left, has ones from `low` on.
use Rattle.dat_ranges.proofs.BitLaws.{bits_from_lem}
use Rattle.dat_ranges.proofs.units.bits_from.Goals as goal

pub returns : goal.returns
returns c = bits_from_lem c.args.low c.requires
