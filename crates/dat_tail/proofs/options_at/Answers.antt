-- A type of 0 ends the list; an option that is read leaves the others to tell, and one that is refused tells for all.
use Rattle.std.proofs.Common.{◌∙◌}
use Rattle.fields.specs.Given.{bytes-given, handed_on}
use Rattle.dat_tail.proofs.OptionLaws.{options_none, options_end, options_stop, options_turn}
use Rattle.dat_tail.proofs.options_at.Goals as goal

pub returns-in_err-body : goal.returns-in_err-body
returns-in_err-body c =
    let a = c.args in
    rw (handed_on c.from_residual.ensures.1) (options_none a.order a.s.now c.loop-body.next c.in_err-body.ensures ∙ c.loop-body.invariant)

pub returns-then-u16_at-eq0 : goal.returns-then-u16_at-eq0
returns-then-u16_at-eq0 c =
    let a = c.args in
    options_end a.order a.s.now c.loop-body.next c.in_ok-body.ensures c.u16_at.ensures c.if-u16_at-eq0.true ∙ c.loop-body.invariant

pub returns-in_err-next : goal.returns-in_err-next
returns-in_err-next c =
    let a = c.args in
    rw (handed_on c.from_residual-in_err-next.ensures.1)
    (options_stop a.order a.s.now c.loop-body.next c.in_ok-body.ensures c.u16_at.ensures c.if-u16_at-eq0.false c.in_err-next.ensures
    ∙ c.loop-body.invariant)

pub loop-body-preserved : goal.loop-body-preserved
loop-body-preserved c =
    let a = c.args in
    options_turn a.order a.s.now c.loop-body.next c.in_ok-body.ensures c.u16_at.ensures c.if-u16_at-eq0.false
    (bytes-given a.s.now c.type_inv.s) c.in_ok-next.ensures
    ∙ c.loop-body.invariant
