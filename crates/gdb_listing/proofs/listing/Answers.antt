-- The limit, the whole reading, and then what is to be written.
use Rattle.std.proofs.Common.{ap, ◌∙◌, arith}
use Rattle.refusals.specs.Number.{number}
use Rattle.fields.specs.Given.{bytes-given}
use Rattle.gdb_format.specs.Decode.{read}
use Rattle.gdb_read.specs.Steps.{read_seen, opened_meaning}
use Rattle.gdb_listing.specs.Outcome.{lists-same}
use Rattle.gdb_listing.specs.Table.{listed-long, listed-refused, listed_rows, listed-listable}
use Rattle.gdb_listing.proofs.listing.Goals as goal

pub returns-then-file-gt-LIMIT : goal.returns-then-file-gt-LIMIT
returns-then-file-gt-LIMIT c =
    lists-same (listed-long c.args.file.now (omega arith)) c.args.out.now c.put_refusal.result c.put_refusal.new.out c.put_refusal.ensures

pub put_table-requires : goal.put_table-requires
put_table-requires c =
    let b = c.args.file.now in
    listed-listable b (omega arith) (bytes-given b c.type_inv.file) (opened_meaning c.in-Ok.opened)
    (c.in-Ok.ensures ∙ ap (λ s. read_seen (read s b)) c.default_settings.ensures)

pub returns-in-Err : goal.returns-in-Err
returns-in-Err c =
    let b = c.args.file.now in
    lists-same (listed-refused b (omega arith) (number c.in-Err.e) (c.in-Err.ensures ∙ ap (λ s. read_seen (read s b)) c.default_settings.ensures))
    c.args.out.now c.put_refusal-in-Err.result c.put_refusal-in-Err.new.out c.put_refusal-in-Err.ensures

pub returns-in-Ok : goal.returns-in-Ok
returns-in-Ok c =
    let b = c.args.file.now in
    lists-same (listed_rows b (omega arith) (bytes-given b c.type_inv.file) (opened_meaning c.in-Ok.opened)
    (c.in-Ok.ensures ∙ ap (λ s. read_seen (read s b)) c.default_settings.ensures))
    c.args.out.now c.put_table.result c.put_table.new.out c.put_table.ensures
