-- The head that stands there, and whether blocks fill its data.
use Rattle.std.proofs.Common.{sym, ap, ◌∙◌, ◌≡◌, Ok, Some}
use Rattle.refusals.specs.Number.{number}
use Rattle.fields.specs.Given.{bytes-given, handed_on}
use Rattle.fields.specs.Reader.{step_at}
use Rattle.fields.specs.At.{Turn, walk_more}
use Rattle.gdb_format.specs.Opening.{size_meaning}
use Rattle.gdb_format.specs.Decode.{frame_head}
use Rattle.gdb_format.specs.ExactFrame.{takes-head}
use Rattle.gdb_read.specs.Steps.{head_seen, head_meaning, frame_meaning}
use Rattle.gdb_read.proofs.Frames.{frame-fault, frame_refused, frame-sound}
use Rattle.gdb_read.proofs.frame_at.Goals as goal

pub returns-in_err-step : goal.returns-in_err-step
returns-in_err-step c =
    rw (handed_on c.from_residual.ensures.1) (frame-fault c.args.layout.format (size_meaning c.args.layout.size) c.args.s.now c.args.at (number c.in_err-step.field-0.0) c.in_err-step.ensures)

pub returns-in_err-blocks_from : goal.returns-in_err-blocks_from
returns-in_err-blocks_from c =
    let h : frame_meaning (Ok (Some c.in-Some.step)) ≡ step_at head_seen (frame_head c.args.layout.format) c.args.s.now c.args.at =
    ap (λ o. frame_meaning (Ok o)) (sym c.in-Some.is) ∙ c.in_ok-step.ensures in
    let t : Turn head_seen (frame_head c.args.layout.format) c.args.s.now c.args.at (head_meaning c.in-Some.step.head) c.in-Some.step.next =
    walk_more head_seen (frame_head c.args.layout.format) (takes-head c.args.layout.format) c.args.s.now c.args.at _ _ (sym h) in
    rw (handed_on c.from_residual-in_err-blocks_from.ensures.1)
    (frame_refused c.args.layout.format (size_meaning c.args.layout.size) c.args.s.now c.args.at (head_meaning c.in-Some.step.head) c.in-Some.step.next t
    (bytes-given c.args.s.now c.type_inv.s) (number c.in_err-blocks_from.field-0.0) c.in_err-blocks_from.ensures)

pub returns : goal.returns
returns c =
    let h : frame_meaning (Ok (Some c.in-Some.step)) ≡ step_at head_seen (frame_head c.args.layout.format) c.args.s.now c.args.at =
    ap (λ o. frame_meaning (Ok o)) (sym c.in-Some.is) ∙ c.in_ok-step.ensures in
    let t : Turn head_seen (frame_head c.args.layout.format) c.args.s.now c.args.at (head_meaning c.in-Some.step.head) c.in-Some.step.next =
    walk_more head_seen (frame_head c.args.layout.format) (takes-head c.args.layout.format) c.args.s.now c.args.at _ _ (sym h) in
    frame-sound c.args.layout.format (size_meaning c.args.layout.size) c.args.s.now c.args.at (head_meaning c.in-Some.step.head) c.in-Some.step.next t
    (bytes-given c.args.s.now c.type_inv.s) c.in_ok-blocks_from.ensures
