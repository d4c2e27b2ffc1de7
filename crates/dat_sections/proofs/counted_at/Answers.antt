-- A count that is not there tells for all; an element that is read leaves the others to tell, and one that is refused tells for all.
use Rattle.std.specs.Prelude.{Ok, Err}
use Rattle.std.proofs.Common.{arith, ◌∙◌}
use Rattle.fields.specs.Given.{handed_on}
use Rattle.dat_sections.proofs.ElementLaws.{repeat_turn, no_count, counted_stop}
use Rattle.dat_sections.proofs.counted_at.Goals as goal

pub returns-in_err-next : goal.returns-in_err-next
returns-in_err-next g c = λ step h.
    rw (handed_on c.from_residual.ensures.1) (no_count c.args.order step c.args.s.now c.args.at c.in_err-next.ensures)

pub returns-in_err-next-2 : goal.returns-in_err-next-2
returns-in_err-next-2 g c = λ step h.
    rw (handed_on c.from_residual-in_err-next-2.ensures.1)
    (counted_stop c.args.order step c.args.s.now c.args.at c.u32_at-end.result c.loop.counter c.loop.next c.in_ok-next.ensures c.u32_at-end.ensures
    (omega arith) (c.loop.invariant step h) (h c.loop.next (Err c.in_err-next-2.field-0.0) c.in_err-next-2.ensures))

pub loop-preserved : goal.loop-preserved
loop-preserved g c = λ step h.
    repeat_turn step c.loop.next c.u32_at-end.result c.loop.counter (omega arith) (h c.loop.next (Ok c.in_ok-next-2.next) c.in_ok-next-2.ensures)
    ∙ c.loop.invariant step h
