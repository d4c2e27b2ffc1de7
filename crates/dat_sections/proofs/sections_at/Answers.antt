-- The first stretch that is refused refuses the sections; where all are read, each part starts behind its size or count.
use Rattle.fields.specs.Given.{bytes-given, handed_on}
use Rattle.dat_sections.proofs.SectionLaws.{bad_page, bad_event, bad_formats, bad_systems, sections_read}
use Rattle.dat_sections.proofs.sections_at.Goals as goal

pub returns-in_err-event : goal.returns-in_err-event
returns-in_err-event c =
    let a = c.args in
    rw (handed_on c.from_residual.ensures.1)
    (bad_page a.order a.s.now (bytes-given a.s.now c.type_inv.s) a.at c.in_err-event.ensures)

pub returns-in_err-formats : goal.returns-in_err-formats
returns-in_err-formats c =
    let a = c.args in
    rw (handed_on c.from_residual-in_err-formats.ensures.1)
    (bad_event a.order a.s.now (bytes-given a.s.now c.type_inv.s) a.at c.in_ok-event.ensures c.in_err-formats.ensures)

pub returns-in_err-systems : goal.returns-in_err-systems
returns-in_err-systems c =
    let a = c.args in
    rw (handed_on c.from_residual-in_err-systems.ensures.1)
    (bad_formats a.order a.s.now (bytes-given a.s.now c.type_inv.s) a.at c.in_ok-event.ensures c.in_ok-formats.ensures
    c.in_err-systems.ensures)

pub returns-in_err-end : goal.returns-in_err-end
returns-in_err-end c =
    let a = c.args in
    rw (handed_on c.from_residual-in_err-end.ensures.1)
    (bad_systems a.order a.s.now (bytes-given a.s.now c.type_inv.s) a.at c.in_ok-event.ensures c.in_ok-formats.ensures
    c.in_ok-systems.ensures c.in_err-end.ensures)

pub returns : goal.returns
returns c =
    let a = c.args in
    sections_read a.order a.s.now (bytes-given a.s.now c.type_inv.s) a.at c.in_ok-event.ensures c.in_ok-formats.ensures
    c.in_ok-systems.ensures c.in_ok-end.ensures c.span.ensures c.span-2.ensures c.span-3.ensures c.span-4.ensures c.u32_at.ensures c.u32_at-2.ensures
