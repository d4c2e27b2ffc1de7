-- Behind the word stands what the size reads.
use Rattle.std.proofs.Common.{◌∙◌}
use Rattle.fields.specs.Given.{bytes-given}
use Rattle.dat_format.specs.ExactPieces.{exact_fixed}
use Rattle.dat_read.specs.Read.{reads_on}
use Rattle.dat_sections.proofs.piece_at.Goals as goal

pub returns : goal.returns
returns c =
    let a = c.args in
    let word = reads_on (exact_fixed a.word.now) a.s.now (bytes-given a.s.now c.type_inv.s) a.at c.in_ok-size.ensures in
    c.sized_at.ensures ∙ rw word.1
