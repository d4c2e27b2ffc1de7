-- "Refusals are the join's, with 12 in place of 11": for every two files the place question answers the length that the data of frame n have in the join,
-- or the join's refusal, or 12. (`pair-is-join` says that the bytes are the join's; it cannot tell 12 from a frame without data.)
-- Assumes nothing.
use Rattle.std.specs.Prelude.{◌≡◌, refl, Bool, true, false, cond, ℕ, ◌-◌, List, ◌++◌, length, ltb}
use Rattle.std.proofs.Common.{sym, ap, ◌∙◌, ltb-true, ltb-false}
use Rattle.fields.specs.Number.{Bytes}
use Rattle.fields.specs.Answer.{Answer, accepted, refused, next}
use Rattle.fields.specs.Element.{nth}
use Rattle.gdb_format.specs.Trace.{Frame, Trace, opening, put_frame, data_of}
use Rattle.gdb_format.specs.declared.Settings.{Settings}
use Rattle.gdb_format.specs.declared.Format.{Format}
use Rattle.gdb_frames.specs.Places.{frames_at}
use Rattle.gdb_frames.specs.Questions.{asked, frame_data}
use Rattle.gdb_frames.specs.PlaceLaws.{placed-nth}
use Rattle.gdb_join.specs.Join.{join, join_of}
use Rattle.gdb_pair.specs.Pair.{Side, first, second, on_side, pair_place}
use Rattle.gdb_pair.specs.PairLaws.{Joined, joined, place_of, nth-first, nth-second, place_is, asked-join, place-refused}

-- ---- definitions: the length that an answer names, or its refusal

abbrev pub place_length : Answer (ℕ × ℕ) → Answer ℕ
place_length x = next x (λ r. accepted r.1)

abbrev pub pair_length : Answer (Side × (ℕ × ℕ)) → Answer ℕ
pair_length x = next x (λ r. accepted r.1.1)

-- ---- the length of frame n's data, from the frames alone

abbrev data_length : Format → Answer Frame → Answer ℕ
data_length f x = next x (λ r. accepted (length (data_of f r)))

length-is : (f : Format) (t : Trace) (n : ℕ) → place_length (frame_data n f t) ≡ data_length f (nth t.frames n)
length-is f t n = by (nth (frames_at f t) n) ∙ ap (data_length f) (placed-nth (put_frame f) t.frames (length (opening t.lines)) n)
  where
    by : (x : Answer (ℕ × Frame)) → place_length (place_of f x) ≡ data_length f (next x (λ r. accepted r.1))
    by (accepted r) = refl
    by (refused k) = refl

side_length : (y : Side) (x : Answer (ℕ × ℕ)) → pair_length (on_side y x) ≡ place_length x
side_length y (accepted r) = refl
side_length y (refused k) = refl

-- ---- a pair that can be joined

module _ (f : Format) (t u : Trace) (n : ℕ) where
  abbrev in_join : Answer ℕ
  in_join = data_length f (nth (t.frames ++ u.frames) n)

  abbrev count : ℕ
  count = length t.frames

  by_side : (w : Bool) → ltb n count ≡ w → pair_length (cond w (on_side first (frame_data n f t)) (on_side second (frame_data (n - count) f u))) ≡ in_join
  by_side true e =
      side_length first (frame_data n f t) ∙ length-is f t n ∙ ap (data_length f) (sym (nth-first t.frames u.frames n (ltb-true n count e)))
  by_side false e =
      side_length second (frame_data (n - count) f u) ∙ length-is f u (n - count)
      ∙ ap (data_length f) (sym (nth-second t.frames u.frames n (ltb-false n count e)))

  joined_length_lem : (s : Settings) (a b c : List ℕ) → Joined s a b c f t u → pair_length (pair_place s a b n) ≡ place_length (asked s c (frame_data n))
  joined_length_lem s a b c i =
      ap pair_length (place_is s a b c f t u i n) ∙ by_side (ltb n count) refl ∙ sym (length-is f (join t u) n)
      ∙ ap place_length (sym (asked-join s a b c f t u i n))

-- ---- every pair

pub pair_refuses_as_join : (s : Settings) (a b : List ℕ) (n : ℕ) → Bytes a → Bytes b
    → pair_length (pair_place s a b n) ≡ next (join_of s a b) (λ c. place_length (asked s c (frame_data n)))
pair_refuses_as_join s a b n ha hb = by (join_of s a b) refl
  where
    by : (x : Answer (List ℕ)) → join_of s a b ≡ x → pair_length (pair_place s a b n) ≡ next x (λ c. place_length (asked s c (frame_data n)))
    by (accepted c) e = let q = joined s a b c ha hb e in joined_length_lem q.0 q.1 q.2 n s a b c q.3
    by (refused k) e = ap pair_length (sym (place-refused s a b n k e))
