-- A frame more, the mark, the end or a fault, each as the definition counts.
use Rattle.std.proofs.Common.{arith, sym, ap, ◌∙◌, ◌≡◌, Ok, Some, None}
use Rattle.fields.specs.Reader.{step_at}
use Rattle.gdb_format.specs.Decode.{frame}
use Rattle.gdb_format.specs.Opening.{size_meaning}
use Rattle.gdb_read.specs.Steps.{frame_seen, frame_meaning}
use Rattle.gdb_read.proofs.Walks.{Counted, count_past, count-mark, count-end, count-refused, count_turn}
use Rattle.fields.specs.Given.{handed_on}
use Rattle.gdb_read.proofs.frames_from.Goals as goal

pub returns-then-s-from : goal.returns-then-s-from
returns-then-s-from c = count_past c.args.layout.format (size_meaning c.args.layout.size) c.args.s.now c.args.from (omega arith)

pub returns-then-mark_here : goal.returns-then-mark_here
returns-then-mark_here c = count-mark c.loop-layout.invariant (sym c.if-mark_here.true ∙ c.mark_here.ensures)

pub returns-in_default : goal.returns-in_default
returns-in_default c =
    let h : frame_meaning (Ok None) ≡ step_at (frame_seen c.args.layout.format) (frame c.args.layout.format (size_meaning c.args.layout.size)) c.args.s.now c.loop-layout.at =
    ap (λ o. frame_meaning (Ok o)) (sym c.in_default.is) ∙ c.in_ok-step.ensures in
    count-end c.loop-layout.invariant h

pub returns-in_err-step : goal.returns-in_err-step
returns-in_err-step c = rw (handed_on c.from_residual.ensures.1) (count-refused c.loop-layout.invariant c.in_err-step.ensures (sym c.if-mark_here.false ∙ c.mark_here.ensures))

-- the frame that was met
met : (c : goal.In-Some) → Counted c.args.layout.format (size_meaning c.args.layout.size) c.args.s.now c.args.from c.loop-layout.at c.loop-layout.count c.in-Some.step.next
met c =
    let h : frame_meaning (Ok (Some c.in-Some.step)) ≡ step_at (frame_seen c.args.layout.format) (frame c.args.layout.format (size_meaning c.args.layout.size)) c.args.s.now c.loop-layout.at =
    ap (λ o. frame_meaning (Ok o)) (sym c.in-Some.is) ∙ c.in_ok-step.ensures in
    count_turn c.loop-layout.invariant h

pub loop-layout-smaller : goal.loop-layout-smaller
loop-layout-smaller c = omega (arith, (met c).later, (met c).within)

pub loop-layout-preserved : goal.loop-layout-preserved
loop-layout-preserved c = (met c).onward
