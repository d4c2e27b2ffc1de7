-- The word stands at the front, and the number behind it.
use Rattle.std.proofs.Common.{rules, ◌≡◌, refl, arith, length}
use Rattle.refusals.specs.Number.{number}
use Rattle.fields.specs.Answer.{accepted, refused}
use Rattle.fields.specs.Output.{lent-full}
use Rattle.gdb_listing.specs.Text.{text, decimal, ended}
use Rattle.gdb_listing.specs.DecimalLaws.{ended-length}
use Rattle.gdb_listing.specs.Written.{room_then, wrote_then}
use Rattle.gdb_listing.specs.Outcome.{wrote_all}
use Rattle.gdb_listing.specs.Table.{refusal_length}
use Rattle.gdb_listing.proofs.put_refusal.Goals as goal

pub returns-then-out-digit_count : goal.returns-then-out-digit_count
returns-then-out-digit_count c =
    let n = number c.args.e in
    let w = text (refused n) in
    let l : c.digit_count.result ≡ length (decimal n) = rw c.number-n.ensures at c.digit_count.ensures.0 in
    lent-full (accepted w) c.args.out.now w refl (omega (arith, refusal_length n, l))

pub put_ended-requires : goal.put_ended-requires
put_ended-requires c = room_then (ended c.number-n.result 10) c.put_word.ensures (omega (arith, ended-length c.number-n.result 10, c.digit_count.ensures.0))

pub returns : goal.returns
returns c = rw (← c.number-n.ensures) (wrote_all refl (wrote_then c.put_word.ensures c.put_ended.ensures) (search rules))
