-- Behind the options stands a word, and behind it its ending.
use Rattle.fields.specs.Given.{bytes-given, handed_on}
use Rattle.dat_tail.proofs.TailLaws.{bad_options, bad_second, with_options}
use Rattle.dat_tail.proofs.options_tail_at.Goals as goal

pub returns-in_err-end : goal.returns-in_err-end
returns-in_err-end c =
    let a = c.args in
    rw (handed_on c.from_residual.ensures.1)
    (bad_options a.order a.cpus a.s.now (bytes-given a.s.now c.type_inv.s) a.at c.in_err-end.ensures)

pub returns-in_err-word : goal.returns-in_err-word
returns-in_err-word c =
    let a = c.args in
    rw (handed_on c.from_residual-in_err-word.ensures.1)
    (bad_second a.order a.cpus a.s.now (bytes-given a.s.now c.type_inv.s) a.at c.in_ok-end.ensures c.in_err-word.ensures)

pub returns : goal.returns
returns c =
    let a = c.args in
    with_options a.order a.cpus a.s.now (bytes-given a.s.now c.type_inv.s) a.at c.in_ok-end.ensures c.in_ok-word.ensures
    c.span.ensures (c.ending_at.ensures a.order)
