-- The frame that a walk has reached, judged by the whole reading's own walk as the one frame of the file up to its end.
-- Assumes nothing.
use Rattle.std.specs.Prelude.{◌≡◌, Bool, true, ℕ, ◌+◌, ◌-◌, ◌≤◌, length, take, drop}
use Rattle.std.proofs.Math.Path.{refl, sym, ap}
use Rattle.std.proofs.Common.{◌∙◌, arith, length-append, length-drop, take_at}
use Rattle.std.proofs.Math.Bool.{false}
use Rattle.std.proofs.Math.Option.{Option}
use mathlib.Core.List.{List, [], append-nil}
use Rattle.fields.specs.Lists.{concat_map, part-front}
use Rattle.fields.specs.Number.{Bytes}
use Rattle.fields.specs.Word.{same_bytes, same_bytes_lem}
use Rattle.fields.specs.Answer.{Answer, accepted, refused, next, next_inv, accepted_inj}
use Rattle.fields.specs.Reader.{to_end_after}
use Rattle.gdb_format.specs.Trace.{Block, Frame, mark, put_data}
use Rattle.gdb_format.specs.Decode.{block_after, seen_after, blocks, frame_head, frame, frames}
use Rattle.gdb_format.specs.FrameBytes.{frame-long}
use Rattle.gdb_format.specs.ExactFrame.{HeadFits, exact_head, frames_more, frames-fault, frames-ended}
use Rattle.gdb_format.specs.declared.Format.{Format}
use Rattle.gdb_read.specs.Steps.{Row, frames_counted}
use Rattle.gdb_frames.specs.Questions.{data_in}
use Rattle.gdb_seek.specs.Walk.{walk_to}
use Rattle.gdb_seek.specs.Found.{judged}
use Rattle.gdb_seek.specs.Turns.{arrived, reached_within}
use Rattle.gdb_seek.specs.FoundLaws.{here}
use Rattle.gdb_seek.specs.Heads.{Passed, walked-past, passed-there, own_data}

module _ (f : Format) (size : Option ℕ) (h : ℕ × List ℕ) where
  nothing_left : (q : List Block × List ℕ) → blocks f size h.1 [] ≡ accepted q → q.1 ≡ []
  unfolding blocks
  nothing_left q e = let i = next_inv (to_end_after (block_after f size) seen_after false h.1) _ e in sym (accepted_inj i.2).1

  no-mark_alone : same_bytes (put_data f h) mark ≡ false
  no-mark_alone = by (same_bytes (put_data f h) mark) refl
    where
      by : (t : Bool) → same_bytes (put_data f h) mark ≡ t → t ≡ false
      by true i = absurd (omega (arith, ap length (same_bytes_lem (put_data f h) mark i), frame-long f h))
      by false i = refl

  -- a frame alone is counted where blocks fill its data, and refused as they are
  counted_alone : HeadFits h → frames_counted f size (put_data f h) ≡ next (blocks f size h.1 []) (λ q. accepted (1, false))
  unfolding frame
  counted_alone g = by (blocks f size h.1 []) refl
    where
      head_read : frame_head f (put_data f h) ≡ accepted (h, [])
      head_read = ap (frame_head f) (sym (append-nil (put_data f h))) ∙ (exact_head f).back h [] g

      by : (x : Answer (List Block × List ℕ)) → blocks f size h.1 [] ≡ x
          → next {B = ℕ × Bool} (frames f size (put_data f h)) (λ q. accepted (length q.0, q.1)) ≡ next x (λ q. accepted (1, false))
      by (refused k) e =
          let i : frame f size (put_data f h) ≡ refused k = rw (head_read, e) in
          rw (frames-fault f size (put_data f h) k (omega (arith, frame-long f h)) no-mark_alone i)
      by (accepted q) e =
          let v : Frame = record { tracepoint = h.0; blocks = q.0 } in
          let i : frame f size (put_data f h) ≡ accepted (v, q.1) = rw (head_read, e) in
          rw (frames_more f size (put_data f h) v q.1 i, nothing_left q e, frames-ended f size false)

module _ (f : Format) (size : Option ℕ) (b : List ℕ) (w : Bytes b) (n at : ℕ) {r : Row} {k : ℕ} (e : accepted (r, k) ≡ arrived (walk_to f b n at)) where
  passed : Passed f b w n at r
  passed = walked-past f b w n at r (here f size b (walk_to f b n at) e).0

  abbrev head_at : ℕ
  head_at = at + length (concat_map (put_data f) passed.0)

  -- its head stands six bytes ahead of its data
  head-ahead : r.place ≡ head_at + 6
  head-ahead = ap (λ (v : Row). v.place) (sym passed.6)

  pub six_ahead : 6 ≤ r.place
  six_ahead = omega (arith, head-ahead)

  -- its data lie in the file
  pub data_within : r.place + r.size ≤ length b
  data_within = reached_within f b n at r w (here f size b (walk_to f b n at) e).0

  -- the file up to where its data end, from its head on
  one-frame : drop (r.place - 6) (take (r.place + r.size) b) ≡ put_data f passed.1
  one-frame =
      let h = passed.1 in
      let d = put_data f h in
      let there = passed-there f b w n at r passed in
      let i : r.place - 6 ≡ head_at = omega (arith, head-ahead) in
      let j : r.place + r.size ≡ head_at + length d = omega (arith, head-ahead, ap (λ (v : Row). v.size) passed.6, frame-long f h) in
      let l : head_at + length d ≤ length b = omega (arith, ap length there, length-append d passed.2, length-drop head_at b, frame-long f h) in
      rw (i, j) (part-front b head_at (length d) l ∙ ap (take (length d)) there ∙ take_at d passed.2 (length d) refl)

  pub judged_by : next (frames_counted f size (drop (r.place - 6) (take (r.place + r.size) b))) (λ c. accepted (data_in r, k)) ≡ judged f size b (walk_to f b n at)
  judged_by =
      let q = here f size b (walk_to f b n at) e in
      rw (one-frame, counted_alone f size passed.1 passed.4, q.0, q.1, own_data f b w n at r passed) (by (blocks f size passed.1.1 []))
    where
      by : (x : Answer (List Block × List ℕ)) → next {B = (ℕ × ℕ) × ℕ} (next {B = ℕ × Bool} x (λ q. accepted (1, false))) (λ c. accepted (data_in r, k))
          ≡ next x (λ q. accepted (data_in r, k))
      by (accepted q) = refl
      by (refused j) = refl
