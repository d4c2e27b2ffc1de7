-- Frame n of a pair of traces, read as if joined: a part of the first trace or of the second.
-- Assumes nothing: these are definitions.
use Rattle.std.specs.Prelude.{◌≡◌, cond, ℕ, ◌-◌, List, [], length, ℤ, ltb, Result}
use Rattle.std.proofs.Math.Option.{Option}
use Rattle.refusals.specs.declared.Refusal.{Refusal}
use Rattle.fields.specs.Answer.{Answer, accepted, refused, next}
use Rattle.fields.specs.Meaning.{answer_by}
use Rattle.gdb_format.specs.Trace.{Trace}
use Rattle.gdb_format.specs.Decode.{read}
use Rattle.gdb_format.specs.declared.Settings.{Settings}
use Rattle.gdb_format.specs.declared.Format.{Format}
use Rattle.gdb_read.specs.Steps.{Row}
use Rattle.gdb_frames.specs.Places.{part, part_length}
use Rattle.gdb_frames.specs.Questions.{asked, data_in, frame_data}
use Rattle.gdb_frames.specs.Nth.{found_by}
use Rattle.gdb_blocks.specs.Search.{variable_at}
use Rattle.gdb_join.specs.Join.{join_of}
use Rattle.gdb_pair.specs.declared.PairPlace.{PairPlace}
use Rattle.gdb_pair.specs.declared.PairPlace.TheVariants as pair

pub data Side : Type 0 where
  first : Side
  second : Side

abbrev pub on_side : Side → Answer (ℕ × ℕ) → Answer (Side × (ℕ × ℕ))
on_side y x = next x (λ r. accepted (y, r))

-- frame n: in the first trace where that has so many, and otherwise in the second
abbrev pub sided : Format → ℕ → Trace → Trace → Answer (Side × (ℕ × ℕ))
sided f n t u =
    let k = length t.frames in
    cond (ltb n k) (on_side first (frame_data n f t)) (on_side second (frame_data (n - k) f u))

-- refusals are the join's, with 12 in place of 11; the place question also says which trace
unfoldable pub pair_place : Settings → List ℕ → List ℕ → ℕ → Answer (Side × (ℕ × ℕ))
pair_place s a b n = next (join_of s a b) (λ c. next (read s a) (λ p. next (read s b) (λ q. sided p.0 n p.1 q.1)))

-- what `PairPlace` says
abbrev pub side_meaning : PairPlace → Side × (ℕ × ℕ)
side_meaning (pair.First p) = (first, (p.place, p.length))
side_meaning (pair.Second p) = (second, (p.place, p.length))

abbrev pub pair_place_meaning : Result PairPlace Refusal → Answer (Side × (ℕ × ℕ))
pair_place_meaning r = answer_by side_meaning r

-- the part that a place names: empty where it refuses
abbrev pub side_part : List ℕ → List ℕ → Side → ℕ × ℕ → List ℕ
side_part a b first r = part a (accepted r)
side_part a b second r = part b (accepted r)

abbrev pub pair_part : List ℕ → List ℕ → Answer (Side × (ℕ × ℕ)) → List ℕ
pair_part a b (accepted x) = side_part a b x.0 x.1
pair_part a b (refused n) = []

-- a part that was handed back: the part that the place question names, as long as it says
pub record HandedPair (a b : List ℕ) (x : Answer (Side × (ℕ × ℕ))) (r : List ℕ) : Type 0 where
  pub is-part : r ≡ pair_part a b x
  pub is-long : length r ≡ part_length (next x (λ y. accepted y.1))

-- variable v in frame n of the join
unfoldable pub pair_variable : Settings → List ℕ → List ℕ → ℕ → ℕ → Answer ℤ
pair_variable s a b n v = next (join_of s a b) (λ c. asked s c (variable_at n v))

-- the data of the frame that a walk over heads found
abbrev pub found_place : Answer (Option (Row × ℕ)) → Answer (ℕ × ℕ)
found_place x = next x (found_by data_in)
