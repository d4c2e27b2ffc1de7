-- What a walk over kept frames has left.
-- Assumes nothing: these are definitions.
use Rattle.std.specs.Prelude.{ℕ, List, ◌++◌, take, drop}
use Rattle.std.specs.List.{concat}
use Rattle.gdb_select.specs.Selection.{meaning}
use Rattle.gdb_cut.specs.Kept.{kept_frames}
use Rattle.gdb_cut.specs.declared.KeptFrames.{KeptFrames}

abbrev pub frames_left : KeptFrames → List (List ℕ)
frames_left k = kept_frames k.format (meaning k.selection) (drop k.at k.file.now)

-- what the code writes of them: what stands ahead, which is the opening, and then the frames
abbrev pub cut_bytes : KeptFrames → List ℕ
cut_bytes k = take k.at k.file.now ++ concat (frames_left k)
