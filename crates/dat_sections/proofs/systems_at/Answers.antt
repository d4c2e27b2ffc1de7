-- A count of systems.
use Rattle.std.proofs.Common.{rules, ◌∙◌}
use Rattle.fields.specs.Given.{bytes-given}
use Rattle.fields.specs.Reader.{pass_at}
use Rattle.dat_format.specs.Decode.{system}
use Rattle.dat_format.specs.ExactSections.{exact_system}
use Rattle.dat_sections.proofs.ElementLaws.{counted_steps}
use Rattle.dat_sections.proofs.systems_at.Goals as goal

pub returns : goal.returns
returns c =
    let a = c.args in
    c.counted_at.ensures (pass_at (system a.order) a.s.now) (λ at r k. search rules)
    ∙ counted_steps (exact_system a.order) a.s.now (bytes-given a.s.now c.type_inv.s) a.order a.at
