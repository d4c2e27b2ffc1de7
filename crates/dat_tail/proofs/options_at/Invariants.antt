-- The options left from `next` on end where the whole does.
use Rattle.std.proofs.Common.{◌≡◌, ◌-◌, length}
use Rattle.fields.specs.Reader.{pass_at}
use Rattle.dat_format.specs.Decode.{options}
use Rattle.dat_tail.proofs.options_at.Given as goal

abbrev pub invariant-loop-body : goal.invariant-loop-body
invariant-loop-body l = pass_at (options l.order) l.s l.next ≡ pass_at (options l.order) l.s l.at

abbrev pub decreases-loop-body : goal.decreases-loop-body
decreases-loop-body l = length l.s - l.next
