-- A cut is no longer than its file.
use Rattle.std.proofs.Common.{arith, sym, le-leb}
use Rattle.gdb_cut.proofs.Cuts.{cut_within}
use Rattle.gdb_cut.proofs.KeptFrames.has_room.Goals as goal

pub returns-then-self-left : goal.returns-then-self-left
returns-then-self-left c = sym (le-leb _ _ (omega (arith, cut_within c.args.self)))
