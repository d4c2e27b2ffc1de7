-- The block that was judged is a register block where its letter is `R`.
use Rattle.std.proofs.Common.{arith, refl, false}
use Rattle.gdb_format.specs.Opening.{size_meaning}
use Rattle.gdb_format.specs.Trace.{is_registers}
use Rattle.gdb_data.proofs.BlockLaws.{Ended, judged, shown_refused, shown_registers}
use Rattle.fields.specs.Given.{handed_on}
use Rattle.gdb_data.proofs.registers_at.Goals as goal

pub returns-in_err-next : goal.returns-in_err-next
returns-in_err-next c =
    let h : Ended c.args.layout.format (size_meaning c.args.layout.size) false c.args.d.now c.args.at c.block_end.result = judged (omega arith) c.block_end.ensures in
    rw (handed_on c.from_residual.ensures.1) (shown_refused h (λ i b. is_registers b) c.in_err-next.was)

pub returns : goal.returns
returns c =
    let h : Ended c.args.layout.format (size_meaning c.args.layout.size) false c.args.d.now c.args.at c.block_end.result = judged (omega arith) c.block_end.ensures in
    shown_registers h c.in_ok-next.was refl
