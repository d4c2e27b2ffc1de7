-- The word stands at the front, the number of frames behind it, and then their lines.
use Rattle.std.proofs.Common.{rules, refl, arith}
use Rattle.fields.specs.Answer.{accepted}
use Rattle.fields.specs.Output.{lent-full}
use Rattle.gdb_listing.specs.Text.{text, ended}
use Rattle.gdb_listing.specs.DecimalLaws.{ended-length}
use Rattle.gdb_listing.specs.Written.{puts_long, room_then}
use Rattle.gdb_listing.specs.Rows.{heads_left}
use Rattle.gdb_listing.specs.Outcome.{wrote_all}
use Rattle.gdb_listing.specs.Table.{table-length, wrote_table}
use Rattle.gdb_listing.proofs.put_table.Goals as goal

pub returns-then-out-digit_count : goal.returns-then-out-digit_count
returns-then-out-digit_count c =
    let rows = heads_left c.args.heads in
    let w = text (accepted rows) in
    lent-full (accepted w) c.args.out.now w refl
    (omega (arith, table-length rows c.args.heads.left c.requires, c.digit_count.ensures.0, c.lines_length.ensures))

pub put_ended-requires : goal.put_ended-requires
put_ended-requires c =
    let n = c.args.heads.left in
    room_then (ended n 10) c.put_word.ensures (omega (arith, ended-length n 10, c.digit_count.ensures.0))

pub put_lines-requires : goal.put_lines-requires
put_lines-requires c =
    let p = c.put_word.ensures.puts in
    let q = c.put_ended.ensures.puts in
    omega (arith, p.ends, puts_long p, q.ends, puts_long q, ended-length c.args.heads.left 10, c.digit_count.ensures.0, c.lines_length.ensures)

pub returns : goal.returns
returns c =
    wrote_all refl (wrote_table (heads_left c.args.heads) c.args.heads.left c.requires c.put_word.ensures c.put_ended.ensures c.put_lines.ensures)
    (search rules)
