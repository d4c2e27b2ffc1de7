-- Which numbers the question for frame n can refuse with: a file's own, and 12 where there are not as many frames.
-- Assumes nothing.
use Rattle.std.specs.Prelude.{refl, Bool, ℕ, zero, suc, List, [], ◌∷◌, ◌++◌, length, drop, leb}
use Rattle.std.proofs.Math.Option.{Option, none, some}
use Rattle.refusals.specs.Refusal.{limit, not_found}
use Rattle.fields.specs.Answer.{Answer, accepted, refused}
use Rattle.fields.specs.Reader.{step_at}
use Rattle.fields.specs.Refuses.{Refuses, OneOf, refuses_never, refuses_with, refuses_cond, refuses_next, refuses_in}
use Rattle.fields.specs.At.{step_refused}
use Rattle.gdb_format.specs.Lines.{register_size}
use Rattle.gdb_format.specs.Decode.{frame_head, ending}
use Rattle.gdb_format.specs.ExactFrame.{takes-head}
use Rattle.gdb_format.specs.Numbers.{head_numbers, head-numbers, block_numbers, blocks-numbers, opening_numbers, opening-numbers, settings_numbers, settings-numbers}
use Rattle.gdb_format.specs.declared.Settings.{Settings}
use Rattle.gdb_format.specs.declared.Format.{Format}
use Rattle.gdb_read.specs.Steps.{Row, head_seen}
use Rattle.gdb_frames.specs.Nth.{found_by}
use Rattle.gdb_frames.specs.Numbers.{question_numbers}
use Rattle.gdb_seek.specs.Walk.{before_end, head_or_end, past, walk_to}
use Rattle.gdb_seek.specs.Found.{frame_found}

-- where a head should start: a head's own
pub place-numbers : (f : Format) (b : List ℕ) (at : ℕ) → Refuses (OneOf head_numbers) (head_or_end f b at)
place-numbers f b at = by (ending (drop at b))
  where
    by : (x : Option Bool) → Refuses (OneOf head_numbers) (before_end x (step_at head_seen (frame_head f) b at))
    by (some m) = refuses_never
    by none = record { only = λ k e. ((head-numbers f).reading (drop at b)).only k (step_refused head_seen (frame_head f) (takes-head f) b at k e).1 }

-- on the way to a head: these, and 12
abbrev pub walk_numbers : List ℕ
walk_numbers = head_numbers ++ not_found ∷ []

met_numbers : (x : Option (Row × ℕ)) → Refuses (OneOf walk_numbers) (found_by (λ r. r) x)
met_numbers none = refuses_with tt
met_numbers (some r) = refuses_never

pub walk_numbers_lem : (f : Format) (b : List ℕ) (n at : ℕ) → Refuses (OneOf walk_numbers) (walk_to f b n at).reached
walk_numbers_lem f b zero at = refuses_next (refuses_in head_numbers _ (place-numbers f b at)) met_numbers
walk_numbers_lem f b (suc n) at = by (head_or_end f b at) (refuses_in head_numbers _ (place-numbers f b at)) (walk_numbers_lem f b n)
  where
    by : (x : Answer (Option (Row × ℕ))) → Refuses (OneOf walk_numbers) x → ((m : ℕ) → Refuses (OneOf walk_numbers) (walk_to f b n m).reached)
        → Refuses (OneOf walk_numbers) (past at (walk_to f b n) x).reached
    by (refused k) h g = refuses_with (h.only k refl)
    by (accepted none) h g = refuses_with tt
    by (accepted (some v)) h g = g v.1

pub frame-place-numbers : (s : Settings) (b : List ℕ) (n : ℕ) → Refuses (OneOf question_numbers) (frame_found s b n)
unfolding frame_found
frame-place-numbers s b n =
    refuses_next (refuses_in settings_numbers _ (settings-numbers s)) (λ f.
    refuses_cond (leb (length b) limit)
    (refuses_next (refuses_in opening_numbers _ ((opening-numbers f).reading b)) (λ o.
    refuses_next (refuses_in walk_numbers _ (walk_numbers_lem f b n _)) (λ r.
    refuses_next (refuses_in block_numbers _ ((blocks-numbers f (register_size f o.0) _).reading [])) (λ q. refuses_never))))
    (refuses_with tt))
