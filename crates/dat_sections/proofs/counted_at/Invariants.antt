-- The elements that are left end where all of them do.
use Rattle.std.proofs.Common.{◌≡◌, ◌-◌}
use Rattle.dat_sections.specs.Steps.{StepsAs, repeat}
use Rattle.dat_sections.proofs.counted_at.Given as goal

abbrev pub invariant-loop : goal.invariant-loop
invariant-loop g l = (step : _) → StepsAs step (goal.F-post g l.element) → repeat (l.end - l.counter) step l.next ≡ repeat l.end step l.initial.next
