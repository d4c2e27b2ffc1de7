-- The bits below a power of two are 0 just where it divides.
use Rattle.dat_format.specs.Alignment.{low_bits}
use Rattle.dat_ranges.proofs.is_aligned.Goals as goal

pub returns : goal.returns
returns c = low_bits c.args.page c.args.offset c.requires
