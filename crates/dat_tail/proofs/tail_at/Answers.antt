-- The first word tells whether options stand before the ending.
use Rattle.fields.specs.Given.{bytes-given, handed_on}
use Rattle.dat_tail.proofs.TailLaws.{bad_first, has_options, ending_only}
use Rattle.dat_tail.proofs.tail_at.Goals as goal

pub returns-in_err-word : goal.returns-in_err-word
returns-in_err-word c =
    let a = c.args in rw (handed_on c.from_residual.ensures.1) (bad_first a.order a.cpus a.s.now a.at c.in_err-word.ensures)

pub returns-in-Options : goal.returns-in-Options
returns-in-Options c =
    let a = c.args in
    has_options a.order a.cpus a.s.now a.at (bytes-given a.s.now c.type_inv.s) c.in_ok-word.word c.in_ok-word.ensures c.in-Options.is
    c.options_tail_at.ensures

pub returns-in_default : goal.returns-in_default
returns-in_default c =
    let a = c.args in
    ending_only a.order a.cpus a.s.now a.at (bytes-given a.s.now c.type_inv.s) c.in_ok-word.word c.in_ok-word.ensures c.in_default.not-Options
    (c.ending_at.ensures a.order)
