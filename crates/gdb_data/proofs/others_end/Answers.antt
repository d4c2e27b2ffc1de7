-- Over the memory or variable block that the walk met.
use Rattle.std.proofs.Common.{arith, ◌∙◌, refl, ℕ, Bool, false, Ok, Err, Some}
use Rattle.std.proofs.Math.Option.{Option, none}
use Rattle.gdb_data.specs.Blocks.{OtherAt, OtherEnds}
use Rattle.gdb_data.proofs.BlockLaws.{Ended}
use Rattle.gdb_data.proofs.Fills.{fill_end, fill_refused, other-turn}
use Rattle.fields.specs.Given.{handed_on}
use Rattle.gdb_data.proofs.others_end.Goals as goal

pub returns-in_err-next : goal.returns-in_err-next
returns-in_err-next c =
    rw (handed_on c.from_residual.ensures.1) (λ size seen.
    let e : Ended c.args.format size seen c.args.d.now c.loop-at.at (Err c.in_err-next.field-0.0) =
    record { inside = omega arith; answers = c.in_err-next.ensures.1 size seen } in
    fill_refused e refl ∙ c.loop-at.invariant.0 size seen)

-- the block that stands there, and the one behind it
met : (c : goal.In-Some) → OtherEnds c.args.format c.args.d.now c.loop-at.at (Ok c.in-Some.next)
met c = let h : OtherAt c.args.format c.args.d.now c.loop-at.at (Ok (Some c.in-Some.next)) = rw c.in-Some.is at c.in_ok-next.ensures in h

turn : (c : goal.In-Some) (size : Option ℕ) (seen : Bool) → Ended c.args.format size seen c.args.d.now c.loop-at.at (Ok c.in-Some.next)
turn c size seen = record { inside = c.loop-at-test.true; answers = (met c).1 size seen }

pub loop-at-smaller : goal.loop-at-smaller
loop-at-smaller c = let t = other-turn (turn c none false) (met c).0 refl in omega (arith, t.0, t.1)

pub loop-at-preserved : goal.loop-at-preserved
loop-at-preserved c =
    let t = other-turn (turn c none false) (met c).0 refl in
    ((λ size seen. (other-turn (turn c size seen) (met c).0 refl).2 ∙ c.loop-at.invariant.0 size seen), omega (arith, t.0, c.loop-at.invariant.1))

pub returns : goal.returns
returns c =
    λ size seen. fill_end c.args.format size seen c.args.d.now c.loop-at.at c.loop-at-test.false ∙ c.loop-at.invariant.0 size seen
