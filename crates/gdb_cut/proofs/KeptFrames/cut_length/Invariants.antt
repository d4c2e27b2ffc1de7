-- The length so far with that of the frames that are left is the whole cut's.
use Rattle.std.proofs.Common.{◌≡◌, ◌+◌, length}
use Rattle.std.specs.List.{concat}
use Rattle.gdb_cut.specs.Left.{frames_left, cut_bytes}
use Rattle.gdb_cut.proofs.KeptFrames.cut_length.Given as goal

abbrev pub invariant-loop-frame : goal.invariant-loop-frame
invariant-loop-frame l = l.len + length (concat (frames_left l.frame-iterator)) ≡ length (cut_bytes l.self)
