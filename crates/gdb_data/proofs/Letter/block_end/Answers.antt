-- A memory or variable block, or else what the register block's test answers.
use Rattle.std.proofs.Common.{false, Ok, Some}
use Rattle.gdb_format.specs.Opening.{size_meaning}
use Rattle.gdb_format.specs.Decode.{block}
use Rattle.gdb_data.specs.Blocks.{OtherAt}
use Rattle.fields.specs.Given.{handed_on}
use Rattle.gdb_data.proofs.Letter.block_end.Goals as goal

pub returns-in_err-end : goal.returns-in_err-end
unfolding block
returns-in_err-end c = rw (handed_on c.from_residual.ensures.1) (c.in_err-end.ensures.1 (size_meaning c.args.layout.size) false)

pub returns-in-Some : goal.returns-in-Some
unfolding block
returns-in-Some c =
    let h : OtherAt c.args.layout.format c.args.self.d.now c.args.self.at (Ok (Some c.in-Some.end)) = rw c.in-Some.is at c.in_ok-end.ensures in
    h.1 (size_meaning c.args.layout.size) false

pub returns-in-None : goal.returns-in-None
unfolding block
returns-in-None c = c.registers_end.ensures c.args.layout.format
