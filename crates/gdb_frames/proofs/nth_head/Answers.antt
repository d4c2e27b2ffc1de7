-- A head more, or where the walk stops.
use Rattle.std.proofs.Common.{arith, ◌∙◌, ap, sym, ◌≡◌, ◌+◌, ◌-◌, Ok, Some, None}
use Rattle.refusals.specs.Number.{number}
use Rattle.fields.specs.Reader.{step_at}
use Rattle.gdb_format.specs.Decode.{frame_head}
use Rattle.gdb_read.specs.Steps.{head_seen, head_meaning, frame_meaning}
use Rattle.gdb_frames.specs.Nth.{nth_head, nth-none, nth-fault, nth_on}
use Rattle.fields.specs.Given.{handed_on}
use Rattle.gdb_frames.proofs.nth_head.Goals as goal

pub loop-preserved : goal.loop-preserved
loop-preserved c =
    let h : frame_meaning (Ok (Some c.in-Some.step)) ≡ step_at head_seen (frame_head c.args.format) c.args.s.now c.loop.at =
    ap (λ o. frame_meaning (Ok o)) (sym c.in-Some.is) ∙ c.in_ok-step.ensures in
    let n = c.args.n in
    let k = c.loop.counter in
    let i : n - (k + 1) ≡ n - k - 1 = omega arith in
    rw i (nth_on head_seen (frame_head c.args.format) c.args.s.now c.loop.at (n - k) (omega arith) (head_meaning c.in-Some.step.head) c.in-Some.step.next h
    ∙ c.loop.invariant)

pub returns-in-None : goal.returns-in-None
returns-in-None c =
    let h : frame_meaning (Ok None) ≡ step_at head_seen (frame_head c.args.format) c.args.s.now c.loop.at =
    ap (λ o. frame_meaning (Ok o)) (sym c.in-None.is) ∙ c.in_ok-step.ensures in
    nth-none head_seen (frame_head c.args.format) c.args.s.now c.loop.at (c.args.n - c.loop.counter) h ∙ c.loop.invariant

pub returns-in_err-step : goal.returns-in_err-step
returns-in_err-step c =
    rw (handed_on c.from_residual.ensures.1) (nth-fault head_seen (frame_head c.args.format) c.args.s.now c.loop.at (c.args.n - c.loop.counter) (number c.in_err-step.field-0.0) c.in_err-step.ensures
    ∙ c.loop.invariant)

pub returns : goal.returns
returns c =
    let z : 0 ≡ c.args.n - c.loop.counter = omega arith in
    c.head_at-2.ensures ∙ ap (λ k. nth_head c.args.format c.args.s.now k c.loop.at) z ∙ c.loop.invariant
