-- A count of formats.
use Rattle.std.proofs.Common.{rules, ◌∙◌}
use Rattle.fields.specs.Given.{bytes-given}
use Rattle.fields.specs.Reader.{pass_at}
use Rattle.dat_format.specs.Pieces.{sized}
use Rattle.dat_format.specs.ExactPieces.{exact_sized}
use Rattle.dat_sections.proofs.ElementLaws.{counted_steps}
use Rattle.dat_sections.proofs.formats_at.Goals as goal

pub returns : goal.returns
returns c =
    let a = c.args in
    c.counted_at.ensures (pass_at (sized a.order 8) a.s.now) (λ at r k. search rules)
    ∙ counted_steps (exact_sized a.order 8) a.s.now (bytes-given a.s.now c.type_inv.s) a.order a.at
