-- `is_aligned` says what the reader's test says.
use Rattle.std.proofs.Common.{arith}
use Rattle.dat_format.specs.Alignment.{aligned-told}
use Rattle.dat_ranges.proofs.in_file.Goals as goal

pub returns-then-test-range : goal.returns-then-test-range
returns-then-test-range c = grind (arith, aligned-told _ _ c.is_aligned.ensures)

pub returns-else-test-range : goal.returns-else-test-range
returns-else-test-range c = grind (arith, aligned-told _ _ c.is_aligned.ensures)
