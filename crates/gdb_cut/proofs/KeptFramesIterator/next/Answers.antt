-- The frame that was met is the first that is left where it is selected, and is none of those that are left where it is not.
use Rattle.std.proofs.Common.{◌≡◌, arith, sym, ap, ◌∙◌, Ok, Some, None, Bool, true, false, length}
use Rattle.fields.specs.Given.{at_case}
use Rattle.fields.specs.Lists.{clash}
use Rattle.fields.specs.Reader.{step_at}
use Rattle.gdb_format.specs.Decode.{frame_head}
use Rattle.gdb_read.specs.Steps.{head_seen, head_meaning, frame_meaning}
use Rattle.gdb_select.specs.Selection.{meaning}
use Rattle.gdb_cut.proofs.Walk.{Passed, passed, kept-end, never-refused}
use Rattle.gdb_cut.proofs.KeptFramesIterator.next.Goals as goal
use Rattle.gdb_cut.proofs.KeptFramesIterator.next.Goals.{In-Ok-Some, in_default, in_default-2}

-- the frame that was met
met : (c : In-Ok-Some) → Passed c.loop-step.self.format c.loop-step.self.file.now c.loop-step.self.at (head_meaning c.in-Ok-Some.step.head) c.in-Ok-Some.step.next
met c =
    let k = c.loop-step.self in
    let h : frame_meaning (Ok (Some c.in-Ok-Some.step)) ≡ step_at head_seen (frame_head k.format) k.file.now k.at =
    ap (λ o. frame_meaning (Ok o)) (sym c.in-Ok-Some.field-0-is) ∙ c.in-Ok-Some.ensures in
    passed k.whole h

pub invariant_of-self : goal.invariant_of-self
invariant_of-self c = record { whole = (met c).onward }

pub slice_bounds-result-count : goal.slice_bounds-result-count
slice_bounds-result-count c = let p = met (goal.at.slice_bounds-result-count c).In-Ok-Some in omega (arith, p.past)

pub slice_bounds-result-start : goal.slice_bounds-result-start
slice_bounds-result-start c = let p = met (goal.at.slice_bounds-result-start c).In-Ok-Some in omega (arith, p.past)

pub returns-then-is_selected-clause-steps : goal.returns-then-is_selected-clause-steps
returns-then-is_selected-clause-steps c =
    let p = met (goal.at.returns-then-is_selected-clause-steps c).In-Ok-Some in
    sym c.loop-step.invariant ∙ p.yes (meaning c.loop-step.self.selection) (sym c.is_selected.ensures ∙ c.if-is_selected.true)

pub returns-then-is_selected-clause-goes : goal.returns-then-is_selected-clause-goes
returns-then-is_selected-clause-goes c =
    let p = met (goal.at.returns-then-is_selected-clause-goes c).In-Ok-Some in
    let e = p.yes (meaning c.loop-step.self.selection) (sym c.is_selected.ensures ∙ c.if-is_selected.true) in
    record { on = λ _. (tt, tt, omega (arith, ap length c.loop-step.invariant, ap length e)); keeps = tt; rests = λ _. tt }

pub loop-step-smaller : goal.loop-step-smaller
loop-step-smaller c = let p = met (goal.at.loop-step-smaller c).In-Ok-Some in omega (arith, p.past, p.onward.1)

pub loop-step-preserved : goal.loop-step-preserved
loop-step-preserved c =
    let p = met (goal.at.loop-step-preserved c).In-Ok-Some in
    sym (p.no (meaning c.loop-step.self.selection) (sym c.is_selected.ensures ∙ c.if-is_selected.false)) ∙ c.loop-step.invariant

pub returns-clause-steps : goal.returns-clause-steps
returns-clause-steps c =
    let k = c.loop-step.self in
    elim c.match-head_at.branch [
      | in_default w ↦
          let n : w.in_default.field-0 ≡ None = search in
          let h : frame_meaning (Ok None) ≡ step_at head_seen (frame_head k.format) k.file.now k.at =
          at_case (λ o. frame_meaning (Ok o)) n (at_case frame_meaning w.in_default.is c.head_at.ensures) in
          let e = kept-end k.format k.file.now k.at (meaning k.selection) h in
          (sym c.loop-step.invariant ∙ e, e)
      | in_default-2 w ↦
          let z : ◌≡◌ {A = Bool} false true = rw w.in_default.is at (never-refused k.format k.file.now k.at c.head_at.result k.whole c.head_at.ensures) in clash (cc)
    ]
