-- The output starts with w, its rest is as it was, and w with the frames that are left is the whole cut.
use Rattle.std.proofs.Common.{◌≡◌, ◌++◌, ℕ, List}
use Rattle.std.specs.List.{concat}
use Rattle.fields.specs.Copies.{Overwritten}
use Rattle.gdb_cut.specs.Left.{frames_left, cut_bytes}
use Rattle.gdb_cut.proofs.KeptFrames.write_cut.Given as goal

abbrev pub invariant-loop-frame : goal.invariant-loop-frame
invariant-loop-frame l = (w : List ℕ) × Overwritten w l.fn.out l.len l.out × (w ++ concat (frames_left l.frame-iterator) ≡ cut_bytes l.self)
