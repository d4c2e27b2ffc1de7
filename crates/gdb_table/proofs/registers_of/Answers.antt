-- Where the R line gives no size, no block is a register block.
use Rattle.std.specs.Prelude.{ℕ, Option}
use Rattle.std.proofs.Common.{sym, ap, ◌∙◌}
use Rattle.fields.specs.Given.{bytes-given}
use Rattle.gdb_read.specs.Steps.{head_meaning}
use Rattle.gdb_blocks.specs.SearchLaws.{none-there}
use Rattle.gdb_table.specs.Walk.{registers_shown}
use Rattle.gdb_table.proofs.registers_of.Goals as goal

pub returns-in-None : goal.returns-in-None
returns-in-None c =
    let v = head_meaning c.args.head in
    sym (ap (λ (z : Option ℕ). registers_shown (record { format = c.args.layout.format; size = z }) c.args.file.now v) c.in-None.is
    ∙ none-there c.args.layout.format c.args.file.now v (bytes-given c.args.file.now c.type_inv.file))
