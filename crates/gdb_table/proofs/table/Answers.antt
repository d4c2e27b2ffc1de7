-- The file is refused, there are more frames than records, or the walk's records are written.
use Rattle.std.proofs.Common.{arith, sym, ap, ◌∙◌, ◌++◌, drop, length-take-le}
use Rattle.fields.specs.Given.{handed_on}
use Rattle.refusals.specs.Number.{number}
use Rattle.fields.specs.Output.{lent_written, lent-full, lent-refused}
use Rattle.gdb_read.specs.Steps.{opened_meaning}
use Rattle.gdb_frames.specs.File.{WasRead, read-given, asked-refused}
use Rattle.gdb_frames.specs.Questions.{asked}
use Rattle.gdb_table.specs.Records.{frame_table}
use Rattle.gdb_table.specs.Walk.{records_from}
use Rattle.gdb_table.specs.Filling.{length-records}
use Rattle.gdb_table.specs.WalkLaws.{table_read}
use Rattle.gdb_table.proofs.table.Goals as goal

pub returns-in_err-opened : goal.returns-in_err-opened
returns-in_err-opened c =
    let n = number c.in_err-opened.field-0.0 in
    rw (handed_on c.from_residual.ensures.1)
    (lent-refused (asked c.args.settings c.args.file.now frame_table) c.args.out.now n
    (sym (asked-refused c.args.settings c.args.file.now frame_table n c.in_err-opened.ensures)))

pub returns-then-out-opened : goal.returns-then-out-opened
returns-then-out-opened c =
    let b = c.args.file.now in
    let o = c.in_ok-opened.opened in
    let w : WasRead c.args.settings b (opened_meaning o) = read-given c.type_inv.file c.in_ok-opened.was c.read.ensures in
    lent-full (asked c.args.settings b frame_table) c.args.out.now (records_from o.layout b o.frames o.start) (table_read o w)
    (omega (arith, length-records o.layout b o.frames o.start))

pub returns : goal.returns
returns c =
    let b = c.args.file.now in
    let out = c.args.out.now in
    let o = c.in_ok-opened.opened in
    let w : WasRead c.args.settings b (opened_meaning o) = read-given c.type_inv.file c.in_ok-opened.was c.read.ensures in
    let n = length-records o.layout b o.frames o.start in
    lent_written (asked c.args.settings b frame_table) out (records_from o.layout b o.frames o.start) o.frames (c.fill.new.out ++ drop o.frames out)
    (table_read o w) (sym n) (omega (arith, n))
    (ap (λ l. l ++ drop o.frames out) (c.fill.ensures ∙ ap (λ k. records_from o.layout b k o.start) (length-take-le o.frames out c.if-out-opened.false)))
