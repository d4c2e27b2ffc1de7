-- The frames that a cut keeps, as a walk over the heads meets them.
-- Assumes nothing: these are definitions.
use Rattle.std.specs.Prelude.{◌≡◌, Bool, true, false, ℕ, ◌<◌, ◌≤◌, List, [], length, map, drop, get_or}
use Rattle.fields.specs.Answer.{Answer, accepted, refused}
use Rattle.fields.specs.Reader.{to_end}
use Rattle.gdb_format.specs.Trace.{put_data}
use Rattle.gdb_format.specs.Decode.{frame_head}
use Rattle.gdb_format.specs.declared.Format.{Format}
use Rattle.gdb_select.specs.Selection.{Selection, selects}
use Rattle.gdb_cut.specs.Cut.{filter}

-- whether heads with their data fill b
abbrev pub was_accepted : Answer (List (ℕ × List ℕ)) → Bool
was_accepted (accepted hs) = true
was_accepted (refused n) = false

abbrev pub heads_fill : Format → List ℕ → Bool
heads_fill f b = was_accepted (to_end (frame_head f) b)

-- b holds bytes, and from `at` on heads with their data fill it
abbrev pub HeadsFrom : Format → List ℕ → ℕ → Type 0
HeadsFrom f b at = ((i : ℕ) → get_or b i 0 < 256) × (at ≤ length b) × (heads_fill f (drop at b) ≡ true)

-- the heads that are kept, each as its bytes with its data
abbrev pub kept_frames_of : Format → Selection → Answer (List (ℕ × List ℕ)) → List (List ℕ)
kept_frames_of f c (accepted hs) = map (put_data f) (filter (λ h. selects c h.0) hs)
kept_frames_of f c (refused n) = []

unfoldable pub kept_frames : Format → Selection → List ℕ → List (List ℕ)
kept_frames f c b = kept_frames_of f c (to_end (frame_head f) b)
