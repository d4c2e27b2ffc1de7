-- The byte tells the order, or that there is none.
use Rattle.refusals.specs.declared.Refusal.TheVariants.{BadConstant}
use Rattle.std.proofs.Common.{rules, ◌≡◌}
use Rattle.fields.specs.Given.{handed_on}
use Rattle.dat_walk.proofs.OpeningLaws.{no_order, bad_order, with_order}
use Rattle.dat_walk.proofs.opening.flags_at.Goals as goal

pub returns-in_err-sizes : goal.returns-in_err-sizes
returns-in_err-sizes c = rw (handed_on c.from_residual.ensures.1) (no_order c.args.s.now c.args.at c.in_err-sizes.ensures)

pub returns-in_err-order : goal.returns-in_err-order
returns-in_err-order c =
    let e : c.in_err-order.field-0.0 ≡ BadConstant = search rules in
    rw (handed_on c.from_residual-in_err-order.ensures.1) (rw e (bad_order c.args.s.now c.args.at c.in_ok-sizes.ensures (search rules)))

pub returns : goal.returns
returns c = with_order c.args.s.now c.args.at c.in_ok-sizes.ensures (search rules) c.sizes_at.ensures
