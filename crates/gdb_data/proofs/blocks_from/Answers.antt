-- Up to the letter that the walk met, and over the block there.
use Rattle.std.proofs.Common.{arith, ◌∙◌, refl, Ok, Err, Some}
use Rattle.gdb_format.specs.Opening.{size_meaning}
use Rattle.gdb_data.specs.Blocks.{StopsAt}
use Rattle.gdb_data.proofs.BlockLaws.{Ended}
use Rattle.gdb_data.proofs.Fills.{fill_refused, registers-turn}
use Rattle.fields.specs.Given.{handed_on}
use Rattle.gdb_data.proofs.blocks_from.Goals as goal

-- where the walk stopped, and what stands there
stopped : (c : goal.In_ok-at) → StopsAt c.args.layout.format c.args.d.now c.loop-place.at (Ok (Some c.in-Some.place))
stopped c =
    let h : StopsAt c.args.layout.format c.args.d.now c.loop-place.at (Ok (Some c.in-Some.place)) = rw c.in-Some.is at c.in_ok-place.ensures in
    h

met : (c : goal.In_ok-at) → Ended c.args.layout.format (size_meaning c.args.layout.size) c.loop-place.seen c.args.d.now c.in-Some.place (Ok c.in_ok-at.at)
met c = record { inside = (stopped c).1; answers = c.in_ok-at.ensures c.args.layout.format }

pub loop-place-smaller : goal.loop-place-smaller
loop-place-smaller c = let t = registers-turn (met c) (stopped c).2 refl in omega (arith, t.0, t.1, (stopped c).0)

pub loop-place-preserved : goal.loop-place-preserved
loop-place-preserved c =
    (registers-turn (met c) (stopped c).2 refl).2 ∙ ((stopped c).3 (size_meaning c.args.layout.size) c.loop-place.seen ∙ c.loop-place.invariant)

pub returns-in_err-at : goal.returns-in_err-at
returns-in_err-at c =
    let s : StopsAt c.args.layout.format c.args.d.now c.loop-place.at (Ok (Some c.in-Some.place)) = rw c.in-Some.is at c.in_ok-place.ensures in
    let e : Ended c.args.layout.format (size_meaning c.args.layout.size) c.loop-place.seen c.args.d.now c.in-Some.place (Err c.in_err-at.field-0.0) =
    record { inside = s.1; answers = c.in_err-at.ensures c.args.layout.format } in
    rw (handed_on c.from_residual-in_err-at.ensures.1) (fill_refused e refl ∙ (s.3 (size_meaning c.args.layout.size) c.loop-place.seen ∙ c.loop-place.invariant))
