-- The entries behind those that are left have claimed their units, and lie apart.
use Rattle.std.proofs.Common.{◌≡◌}
use Rattle.dat_ranges.proofs.ApartLaws.{Walk}
use Rattle.dat_ranges.proofs.claim_all.Given as goal

abbrev pub invariant-loop-entry : goal.invariant-loop-entry
invariant-loop-entry l = (l.entry-iterator.size ≡ 16) × Walk l.order l.entries l.entry-iterator.rest.now l.map
