-- The head is there or not; behind it the description's lines are read.
use Rattle.std.proofs.Common.{sym, ◌∙◌}
use Rattle.fields.specs.Given.{bytes-given}
use Rattle.gdb_format.proofs.Description.{bad-head, good_head}
use Rattle.gdb_format.proofs.opening_of.Goals as goal

pub returns-then-not-begins : goal.returns-then-not-begins
returns-then-not-begins c = bad-head c.args.format c.args.s.now (sym c.begins.ensures ∙ c.if-not-begins.true)

pub returns : goal.returns
returns c =
    let h = sym c.begins.ensures ∙ c.if-not-begins.false in
    c.lines_from.ensures ∙ good_head c.args.format c.args.s.now h (bytes-given c.args.s.now c.type_inv.s)
