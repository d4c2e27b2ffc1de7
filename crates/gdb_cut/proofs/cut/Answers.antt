-- Every refusal leaves the output; else the opening and the kept frames are written, and the mark behind them.
use Rattle.std.proofs.Common.{sym, ◌∙◌}
use Rattle.refusals.specs.Number.{number}
use Rattle.refusals.specs.Refusal.{bad_argument}
use Rattle.fields.specs.Output.{lent-refused}
use Rattle.gdb_read.specs.Steps.{opened_meaning}
use Rattle.gdb_frames.specs.File.{WasRead, read-given}
use Rattle.gdb_cut.specs.Cut.{cut_of}
use Rattle.gdb_cut.proofs.Cuts.{cut_invalid, cut-refused, heads-there, end-there, no-room, all-written}
use Rattle.fields.specs.Given.{handed_on}
use Rattle.gdb_cut.proofs.cut.Goals as goal
use Rattle.gdb_cut.proofs.cut.Goals.{In_ok-opened}

pub returns-then-not-is_valid : goal.returns-then-not-is_valid
returns-then-not-is_valid c =
    lent-refused (cut_of c.args.settings c.args.selection c.args.file.now) c.args.out.now bad_argument
    (cut_invalid c.args.settings c.args.selection c.args.file.now (sym c.is_valid.ensures ∙ c.if-not-is_valid.true))

pub returns-in_err-opened : goal.returns-in_err-opened
returns-in_err-opened c =
    let n = number c.in_err-opened.field-0.0 in
    rw (handed_on c.from_residual.ensures.1) (lent-refused (cut_of c.args.settings c.args.selection c.args.file.now) c.args.out.now n
    (cut-refused c.args.settings c.args.selection c.args.file.now n (sym c.is_valid.ensures ∙ c.if-not-is_valid.false) c.in_err-opened.ensures))

-- the file that was read
read : (c : In_ok-opened) → WasRead c.args.settings c.args.file.now (opened_meaning c.in_ok-opened.opened)
read c = read-given c.type_inv.file c.in_ok-opened.was c.read.ensures

pub invariant_of-kept : goal.invariant_of-kept
invariant_of-kept c = record { whole = heads-there (read (goal.at.invariant_of-kept c).In_ok-opened) c.front.ensures }

pub slice_bounds-mark-count : goal.slice_bounds-mark-count
slice_bounds-mark-count c = end-there (read (goal.at.slice_bounds-mark-count c).In_ok-opened) c.front.ensures

pub slice_bounds-mark-start : goal.slice_bounds-mark-start
slice_bounds-mark-start c = end-there (read (goal.at.slice_bounds-mark-start c).In_ok-opened) c.front.ensures

pub returns-then-not-has_room : goal.returns-then-not-has_room
returns-then-not-has_room c =
    no-room (read (goal.at.returns-then-not-has_room c).In_ok-opened) c.front.ensures c.args.selection (sym c.is_valid.ensures ∙ c.if-not-is_valid.false) c.args.out.now
    (sym c.if-not-has_room.true ∙ c.has_room.ensures)

pub returns : goal.returns
returns c =
    all-written (read (goal.at.returns c).In_ok-opened) c.front.ensures c.args.selection (sym c.is_valid.ensures ∙ c.if-not-is_valid.false) c.args.out.now
    (sym c.if-not-has_room.false ∙ c.has_room.ensures) c.write_cut-len.ensures c.copy.ensures.count c.copy.ensures.written
