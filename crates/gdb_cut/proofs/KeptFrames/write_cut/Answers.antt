-- What is written grows by the frame.
use Rattle.std.proofs.Common.{arith, sym, ap, ◌∙◌, refl, ◌≡◌, ◌≤◌, ◌+◌, ◌-◌, ◌++◌, List, ℕ, length, take, drop, append_assoc, length-append, length-take, length-drop}
use Rattle.std.specs.List.{concat}
use Rattle.fields.specs.Copies.{Overwritten, copied-over, over-long, over_more}
use Rattle.byte_runs.specs.Copy.{written_all}
use Rattle.gdb_cut.specs.Left.{frames_left, cut_bytes}
use Rattle.gdb_cut.proofs.KeptFrames.write_cut.Goals as goal

pub loop-frame-preserved : goal.loop-frame-preserved
loop-frame-preserved c =
    let l = c.loop-frame in
    let w = l.invariant.0 in
    let o = l.invariant.1 in
    let f = c.in-Some.frame.now in
    let rest : List ℕ = concat (frames_left c.next.new.self) in
    let all : (w ++ f) ++ rest ≡ cut_bytes c.args.self = append_assoc w f rest ∙ ap (λ x. w ++ concat x) (sym c.in-Some.ensures.steps) ∙ l.invariant.2 in
    let long : l.len + length f + length rest ≤ length c.args.out.now =
    omega (arith, c.requires, ap length all, length-append (w ++ f) rest, length-append w f, o.long) in
    let before : List ℕ = take (length l.out - l.len) (drop l.len l.out) in
    let room : length f ≤ length before =
    omega (arith, long, over-long o (omega (arith, long)), length-take (length l.out - l.len) (drop l.len l.out), length-drop l.len l.out) in
    let p : Overwritten f before (length f) c.copy-len.new.dst =
    copied-over refl (written_all f before c.copy-len.new.dst c.copy-len.result c.copy-len.ensures.count room c.copy-len.ensures.written) in
    (w ++ f, over_more o p, all)
