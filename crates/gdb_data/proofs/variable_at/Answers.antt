-- The block that was judged is one of the variable where its letter and number say so.
use Rattle.std.proofs.Common.{arith, false}
use Rattle.gdb_format.specs.Opening.{size_meaning}
use Rattle.gdb_data.specs.Blocks.{has_number}
use Rattle.gdb_data.proofs.BlockLaws.{Ended, judged, shown_refused, shown_number}
use Rattle.fields.specs.Given.{handed_on}
use Rattle.gdb_data.proofs.variable_at.Goals as goal

pub returns-in_err-next : goal.returns-in_err-next
returns-in_err-next c =
    let h : Ended c.args.layout.format (size_meaning c.args.layout.size) false c.args.d.now c.args.at c.block_end.result = judged (omega arith) c.block_end.ensures in
    rw (handed_on c.from_residual.ensures.1) (shown_refused h (λ i b. has_number c.args.number b) c.in_err-next.was)

pub returns : goal.returns
returns c =
    let h : Ended c.args.layout.format (size_meaning c.args.layout.size) false c.args.d.now c.args.at c.block_end.result = judged (omega arith) c.block_end.ensures in
    shown_number h c.args.number c.in_ok-next.was c.has_number-sought.ensures
