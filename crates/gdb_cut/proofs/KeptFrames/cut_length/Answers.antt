-- A cut is no longer than its file.
use Rattle.std.proofs.Common.{arith, ap, length, length-append}
use Rattle.std.specs.List.{concat}
use Rattle.gdb_cut.specs.Left.{frames_left}
use Rattle.gdb_cut.proofs.Cuts.{cut_within}
use Rattle.gdb_cut.proofs.KeptFrames.cut_length.Goals as goal

pub overflow_add-len : goal.overflow_add-len
overflow_add-len c =
    omega (
      arith,
      c.loop-frame.invariant,
      ap (λ l. length (concat l)) c.in-Some.ensures.steps,
      length-append c.in-Some.frame.now (concat (frames_left c.next.new.self)),
      cut_within c.args.self,
      c.ranges.self,
    )
