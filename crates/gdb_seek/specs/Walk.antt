-- A walk over the heads of frames 0 to n: where it looks for a head, and what it comes to.
-- Assumes nothing: these are definitions.
use Rattle.std.specs.Prelude.{Bool, ℕ, zero, suc, List, [], ◌∷◌, drop}
use Rattle.std.proofs.Math.Option.{Option, none, some}
use Rattle.refusals.specs.Refusal.{not_found}
use Rattle.fields.specs.Answer.{Answer, accepted, refused, next}
use Rattle.fields.specs.Reader.{step_at}
use Rattle.gdb_format.specs.Decode.{frame_head, ending}
use Rattle.gdb_format.specs.declared.Format.{Format}
use Rattle.gdb_read.specs.Steps.{Row, head_seen}
use Rattle.gdb_frames.specs.Nth.{found_by}

-- nothing where an end stands, and else what there is
abbrev pub before_end : {C : Type 0} → Option Bool → Answer (Option C) → Answer (Option C)
before_end (some m) x = accepted none
before_end none x = x

-- what stands where a head should start: nothing where the file's end or the end mark does, a head with the place after its data, or a refusal
abbrev pub head_or_end : Format → List ℕ → ℕ → Answer (Option (Row × ℕ))
head_or_end f b at = before_end (ending (drop at b)) (step_at head_seen (frame_head f) b at)

-- the places where a walk looked for a head, in order; and what the last of these heads shows, or why there is none
pub record Walk : Type 0 where
  pub visited : List ℕ
  pub reached : Answer Row

-- a walk that ends at its first place
abbrev pub ends_at : ℕ → Answer Row → Walk
ends_at at x = record { visited = at ∷ []; reached = x }

-- a walk that goes on from its first place
abbrev pub goes_on : ℕ → Walk → Walk
goes_on at w = record { visited = at ∷ w.visited; reached = w.reached }

-- by what stands at the first place; 12 where the file's end or the end mark comes first
abbrev pub past : ℕ → (ℕ → Walk) → Answer (Option (Row × ℕ)) → Walk
past at on (refused k) = ends_at at (refused k)
past at on (accepted none) = ends_at at (refused not_found)
past at on (accepted (some r)) = goes_on at (on r.1)

-- to the head of frame n of those that start at `at`
abbrev pub walk_to : Format → List ℕ → ℕ → ℕ → Walk
walk_to f b zero at = ends_at at (next (head_or_end f b at) (found_by (λ r. r)))
walk_to f b (suc n) at = past at (walk_to f b n) (head_or_end f b at)
