-- The frame that the heads of the file that was read lead to.
use Rattle.std.proofs.Common.{ap, sym, ◌∙◌, ◌≡◌, Ok, Some, None}
use Rattle.gdb_read.specs.Steps.{opened_meaning, frame_meaning}
use Rattle.gdb_frames.specs.Nth.{nth_head}
use Rattle.gdb_frames.specs.File.{WasRead, read-given}
use Rattle.gdb_frames.specs.Located.{located_is}
use Rattle.fields.specs.Given.{handed_on}
use Rattle.gdb_frames.proofs.locate.Goals as goal

pub returns-in_err-step : goal.returns-in_err-step
returns-in_err-step c =
    let m = opened_meaning c.in_ok-opened.opened in
    let w : WasRead c.args.settings c.args.file.now m = read-given c.type_inv.file c.in_ok-opened.was c.read.ensures in
    rw (handed_on c.from_residual-in_err-step.ensures.1) (located_is w c.args.n (c.in_err-step.ensures ∙ ap (λ s. nth_head m.format s c.args.n m.start) c.front-frames.ensures))

pub returns-in_default : goal.returns-in_default
returns-in_default c =
    let m = opened_meaning c.in_ok-opened.opened in
    let w : WasRead c.args.settings c.args.file.now m = read-given c.type_inv.file c.in_ok-opened.was c.read.ensures in
    let h : frame_meaning (Ok None) ≡ nth_head m.format c.front-frames.result.now c.args.n m.start =
    ap (λ o. frame_meaning (Ok o)) (sym c.in_default.is) ∙ c.in_ok-step.ensures in
    located_is w c.args.n (h ∙ ap (λ s. nth_head m.format s c.args.n m.start) c.front-frames.ensures)

pub returns : goal.returns
returns c =
    let m = opened_meaning c.in_ok-opened.opened in
    let w : WasRead c.args.settings c.args.file.now m = read-given c.type_inv.file c.in_ok-opened.was c.read.ensures in
    let h : frame_meaning (Ok (Some c.in-Some.step)) ≡ nth_head m.format c.front-frames.result.now c.args.n m.start =
    ap (λ o. frame_meaning (Ok o)) (sym c.in-Some.is) ∙ c.in_ok-step.ensures in
    located_is w c.args.n (h ∙ ap (λ s. nth_head m.format s c.args.n m.start) c.front-frames.ensures)
