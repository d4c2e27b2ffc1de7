-- Behind the size stand its bytes.
use Rattle.dat_read.proofs.PieceLaws.{sized_there}
use Rattle.dat_read.proofs.pieces.sized_at.Goals as goal

pub returns : goal.returns
returns c =
    let a = c.args in sized_there a.order a.width a.s.now a.at c.bytes.ensures c.in_ok-body.ensures c.size_at.ensures c.bytes_at-2.ensures
