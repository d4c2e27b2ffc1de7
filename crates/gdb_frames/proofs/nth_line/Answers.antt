-- A line more, or where the walk stops.
use Rattle.std.proofs.Common.{arith, ◌∙◌, ◌≡◌, ◌+◌, ◌-◌}
use Rattle.gdb_frames.specs.Nth.{line-none, line-here, line_last, line_on}
use Rattle.gdb_frames.proofs.nth_line.Goals.{then-end-at-via-then-end-at, then-end-at-via-else-end-at+then-s-end}
use Rattle.gdb_frames.proofs.nth_line.Goals as goal

pub returns-then-end-at : goal.returns-then-end-at
returns-then-end-at c =
    let left = c.args.j - c.loop.counter in
    elim c.then-end-at.branch [
      | then-end-at-via-then-end-at w ↦
          line-none c.args.s.now c.loop.at c.line_end-end.result c.line_end-end.ensures left w.if-end-at.true ∙ c.loop.invariant
      | then-end-at-via-else-end-at+then-s-end w ↦
          line_last c.args.s.now c.loop.at c.line_end-end.result c.line_end-end.ensures (omega (arith, w.if-end-at.false)) left (λ z. omega (arith, z)) w.if-s-end.true
          ∙ c.loop.invariant
    ]

pub loop-preserved : goal.loop-preserved
loop-preserved c =
    let j = c.args.j in
    let k = c.loop.counter in
    let i : j - (k + 1) ≡ j - k - 1 = omega arith in
    rw i (line_on c.args.s.now c.loop.at c.line_end-end.result c.line_end-end.ensures (omega arith) (j - k) (λ z. omega (arith, z)) (omega arith)
    ∙ c.loop.invariant)

pub returns-then-end-at-2 : goal.returns-then-end-at-2
returns-then-end-at-2 c =
    line-none c.args.s.now c.loop.at c.line_end-end-2.result c.line_end-end-2.ensures (c.args.j - c.loop.counter) c.if-end-at-2.true ∙ c.loop.invariant

pub returns : goal.returns
returns c =
    line-here c.args.s.now c.loop.at c.line_end-end-2.result c.line_end-end-2.ensures (omega arith) (c.args.j - c.loop.counter) (omega arith) ∙ c.loop.invariant
