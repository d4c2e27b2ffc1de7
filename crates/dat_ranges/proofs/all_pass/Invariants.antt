-- The entries that are left pass just where all do.
use Rattle.std.proofs.Common.{◌≡◌}
use Rattle.dat_ranges.specs.Ranges.{test_meaning}
use Rattle.dat_ranges.proofs.EntryLaws.{Left}
use Rattle.dat_ranges.proofs.all_pass.Given as goal

abbrev pub invariant-loop-entry : goal.invariant-loop-entry
invariant-loop-entry l = (l.entry-iterator.size ≡ 16) × Left (test_meaning l.test) l.order l.entries l.entry-iterator.rest.now
