-- The units before `word` are claimed, and `bits` are those of `word`.
use Rattle.dat_ranges.proofs.MapLaws.{Claiming}
use Rattle.dat_ranges.proofs.units.claim.Given as goal

abbrev pub invariant-loop-word : goal.invariant-loop-word
invariant-loop-word l = Claiming l.first l.word l.bits l.initial.map l.map
