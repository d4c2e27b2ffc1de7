-- What is to be joined, and then the room.
use Rattle.std.proofs.Common.{arith, sym, ap, ◌∙◌, ◌-◌, ◌++◌, ℕ, List, length, take, drop}
use Rattle.std.proofs.Math.Seq.{length-take-le}
use Rattle.refusals.specs.Number.{number}
use Rattle.fields.specs.Answer.{accepted}
use Rattle.fields.specs.Output.{lent_written, lent-full, lent-refused}
use Rattle.gdb_format.specs.Trace.{put_mark}
use Rattle.gdb_read.specs.Steps.{opened_meaning}
use Rattle.gdb_join.specs.JoinLaws.{refused-given, paired_given, Joins, pair_joins}
use Rattle.fields.specs.Given.{handed_on}
use Rattle.gdb_join.proofs.join.Goals as goal
use Rattle.gdb_join.proofs.join.Goals.{In_ok-pair}

joins : (c : In_ok-pair) → Joins c.args.settings c.args.first.now c.args.second.now (opened_meaning c.in_ok-pair.pair.first) (opened_meaning c.in_ok-pair.pair.second)
joins c = pair_joins (paired_given c.type_inv.first c.type_inv.second c.in_ok-pair.was c.joinable.ensures)

pub returns-in_err-pair : goal.returns-in_err-pair
returns-in_err-pair c =
    let n = number c.in_err-pair.field-0.0 in
    rw (handed_on c.from_residual.ensures.1) (lent-refused _ _ n (refused-given _ _ _ n c.type_inv.first c.type_inv.second c.in_err-pair.ensures))

pub joined_length-requires : goal.joined_length-requires
joined_length-requires c = let j = joins (goal.at.joined_length-requires c).In_ok-pair in (j.second-start, omega (arith, j.short))

pub returns-then-out-joined_length : goal.returns-then-out-joined_length
returns-then-out-joined_length c =
    let j = joins (goal.at.returns-then-out-joined_length c).In_ok-pair in
    lent-full _ _ _ j.gives (omega (arith, j.long, c.if-out-joined_length.true, c.joined_length.ensures))

pub slice_bounds-body-end : goal.slice_bounds-body-end
slice_bounds-body-end c =
    let j = joins (goal.at.slice_bounds-body-end c).In_ok-pair in
    sym (length-take-le c.in_ok-pair.pair.first.end c.args.first.now j.first-end)

pub slice_bounds-frames-end : goal.slice_bounds-frames-end
slice_bounds-frames-end c =
    let j = joins (goal.at.slice_bounds-frames-end c).In_ok-pair in
    omega (arith, j.second-start, j.second-end)

pub returns : goal.returns
returns c =
    let j = joins (goal.at.returns c).In_ok-pair in
    let p = c.in_ok-pair.pair in
    let body : List ℕ = take p.first.end c.args.first.now in
    let frames : List ℕ = take (p.second.end - p.second.start) (drop p.second.start c.args.second.now) in
    let mark_is = ap put_mark c.is_marked-marked.ensures in
    lent_written _ _ ((body ++ frames) ++ put_mark c.is_marked-marked.result) _ _ (j.gives ∙ ap (λ x. accepted ((body ++ frames) ++ x)) (sym mark_is))
    c.write_join.ensures.long
    (omega (arith, j.long, ap (λ x. length ((body ++ frames) ++ x)) mark_is, c.if-out-joined_length.false, c.joined_length.ensures)) c.write_join.ensures.bytes
