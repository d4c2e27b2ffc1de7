-- A name that is refused refuses the system; behind one that is read stand its formats.
use Rattle.fields.specs.Given.{bytes-given, handed_on}
use Rattle.dat_sections.proofs.SectionLaws.{bad_name, named}
use Rattle.dat_sections.proofs.system_at.Goals as goal

pub returns-in_err-formats : goal.returns-in_err-formats
returns-in_err-formats c =
    let a = c.args in rw (handed_on c.from_residual.ensures.1) (bad_name a.order a.s.now a.at c.in_err-formats.ensures)

pub returns : goal.returns
returns c =
    let a = c.args in named a.order a.s.now a.at (bytes-given a.s.now c.type_inv.s) c.in_ok-formats.ensures c.formats_at.ensures
