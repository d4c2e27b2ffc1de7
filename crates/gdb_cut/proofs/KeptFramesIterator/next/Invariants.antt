-- The frames that were passed over are not kept.
use Rattle.std.proofs.Common.{◌≡◌, ◌-◌, length}
use Rattle.gdb_cut.specs.Left.{frames_left}
use Rattle.gdb_cut.proofs.KeptFramesIterator.next.Given as goal

abbrev pub invariant-loop-step : goal.invariant-loop-step
invariant-loop-step l = frames_left l.self ≡ frames_left l.initial.self

abbrev pub decreases-loop-step : goal.decreases-loop-step
decreases-loop-step l = length l.self.file.now - l.self.at
