-- Both are read, the openings are compared, and the length is judged.
use Rattle.std.proofs.Common.{arith, sym, ◌≡◌, take, refl, true, false, Bool}
use Rattle.std.proofs.Math.Seq.{length-take-le}
use Rattle.refusals.specs.Number.{number}
use Rattle.fields.specs.Lists.{clash}
use Rattle.gdb_read.specs.Steps.{opened_meaning}
use Rattle.gdb_frames.specs.File.{WasRead, read-given}
use Rattle.gdb_join.specs.JoinLaws.{join_first, join-second, pair_of_refused, countable, first-start, second-start, pair_differs, pair-long, pair-sound}
use Rattle.fields.specs.Given.{handed_on}
use Rattle.gdb_join.proofs.joinable.Goals as goal
use Rattle.gdb_join.proofs.joinable.Goals.{In_ok-a, In_ok-b}

-- the files that were read
one : (c : In_ok-a) → WasRead c.args.settings c.args.first.now (opened_meaning c.in_ok-a.a)
one c = read-given c.type_inv.first c.in_ok-a.was c.read.ensures

two : (c : In_ok-b) → WasRead c.args.settings c.args.second.now (opened_meaning c.in_ok-b.b)
two c = read-given c.type_inv.second c.in_ok-b.was c.read-2.ensures

pub returns-in_err-a : goal.returns-in_err-a
returns-in_err-a c =
    let n = number c.in_err-a.field-0.0 in
    rw (handed_on c.from_residual.ensures.1) (pair_of_refused c.args.settings c.args.first.now c.args.second.now n
    (join_first c.args.settings c.args.first.now c.args.second.now n c.in_err-a.ensures))

pub returns-in_err-b : goal.returns-in_err-b
returns-in_err-b c =
    let n = number c.in_err-b.field-0.0 in
    rw (handed_on c.from_residual-in_err-b.ensures.1) (pair_of_refused c.args.settings c.args.first.now c.args.second.now n
    (join-second c.args.settings c.args.first.now c.args.second.now _ n (one (goal.at.returns-in_err-b c).In_ok-a).summed c.in_err-b.ensures))

pub slice_bounds-same-end : goal.slice_bounds-same-end
slice_bounds-same-end c =
    let p = goal.at.slice_bounds-same-end c in
    sym (length-take-le _ c.args.first.now (first-start (one p.In_ok-a) (two p.In_ok-b)))

pub slice_bounds-same-end-2 : goal.slice_bounds-same-end-2
slice_bounds-same-end-2 c =
    let p = goal.at.slice_bounds-same-end-2 c in
    sym (length-take-le _ c.args.second.now (second-start (one p.In_ok-a) (two p.In_ok-b)))

pub returns-then-not-same : goal.returns-then-not-same
returns-then-not-same c =
    let p = goal.at.returns-then-not-same c in
    pair_differs (one p.In_ok-a) (two p.In_ok-b) (λ e. let z : ◌≡◌ {A = Bool} false true = c.if-not-same.ensures.1 e in clash (cc))

pub joined_length-requires : goal.joined_length-requires
joined_length-requires c = let p = goal.at.joined_length-requires c in countable (one p.In_ok-a) (two p.In_ok-b)

pub returns-then-joined_length-gt-LIMIT : goal.returns-then-joined_length-gt-LIMIT
returns-then-joined_length-gt-LIMIT c =
    let p = goal.at.returns-then-joined_length-gt-LIMIT c in
    let same : take c.in_ok-a.a.start c.args.first.now ≡ take c.in_ok-b.b.start c.args.second.now = c.if-not-same.ensures.0 refl in
    pair-long (one p.In_ok-a) (two p.In_ok-b) same (omega (arith, c.joined_length.ensures, c.if-joined_length-gt-LIMIT.true))

pub returns : goal.returns
returns c =
    let p = goal.at.returns c in
    let same : take c.in_ok-a.a.start c.args.first.now ≡ take c.in_ok-b.b.start c.args.second.now = c.if-not-same.ensures.0 refl in
    pair-sound (one p.In_ok-a) (two p.In_ok-b) same (omega (arith, c.joined_length.ensures, c.if-joined_length-gt-LIMIT.false))
