-- A turn of the walk over a file's frames, which are counted.
-- Assumes nothing.
use mathlib.Core.Path.{◌≡◌, refl, sym, ap, ◌∙◌}
use mathlib.Core.Bool.{Bool, true, false}
use mathlib.Core.Option.{Option, none, some}
use Prim.Native.Nat.{ℕ, ◌+◌, ◌<◌, ◌≤◌}
use native.Mathlib.Nat.{add-zero}
use native.Mathlib.Omega.{arith}
use mathlib.Core.List.{List, [], ◌∷◌}
use lib.ListN.{length, drop, length-drop, drop_of_length-le}
use Rattle.fields.specs.Answer.{Answer, accepted, refused, next}
use Rattle.fields.specs.Word.{same_bytes, same_bytes_lem}
use Rattle.fields.specs.Reader.{step_at}
use Rattle.fields.specs.At.{step_end, step_refused, walk_more}
use Rattle.gdb_format.specs.Trace.{Frame, mark}
use Rattle.gdb_format.specs.Decode.{frame, frames}
use Rattle.gdb_format.specs.ExactFrame.{takes-frame, frames_more, frames-fault, frames-ended}
use Rattle.gdb_format.specs.declared.Format.{Format}
use Rattle.gdb_read.specs.Steps.{Row, frame_seen, frames_counted}

-- n frames, and those of the rest
abbrev counted_from : ℕ → Answer (List Frame × Bool) → Answer (ℕ × Bool)
counted_from n x = next x (λ q. accepted (n + length q.0, q.1))

count-one : (n : ℕ) (x : Answer (List Frame × Bool)) (r : Frame) → counted_from n (next x (λ q. accepted (r ∷ q.0, q.1))) ≡ counted_from (n + 1) x
count-one n (accepted q) r = let i : n + length (r ∷ q.0) ≡ n + 1 + length q.0 = omega arith in ap (λ k. accepted (k, q.1)) i
count-one n (refused k) r = refl

-- a walk from `from` that has come to `at` over n frames: they and those of the rest are those of the whole
pub record Counting (f : Format) (size : Option ℕ) (s : List ℕ) (from at n : ℕ) : Type 0 where
  pub inside : at ≤ length s
  pub few : n ≤ at
  pub same : counted_from n (frames f size (drop at s)) ≡ frames_counted f size (drop from s)

-- none stand behind the end
pub count_past : (f : Format) (size : Option ℕ) (s : List ℕ) (from : ℕ) → length s < from → accepted (0, false) ≡ frames_counted f size (drop from s)
count_past f size s from h =
    let i : length s ≤ from = omega (arith, h) in
    sym (ap (frames_counted f size) (drop_of_length-le s i) ∙ rw (frames-ended f size false))

-- the frame that was met: where it lies, and the walk behind it
pub record Counted (f : Format) (size : Option ℕ) (s : List ℕ) (from at n m : ℕ) : Type 0 where
  pub later : at < m
  pub within : m ≤ length s
  pub onward : Counting f size s from m (n + 1)

module _ {f : Format} {size : Option ℕ} {s : List ℕ} {from at n : ℕ} (w : Counting f size s from at n) where
  -- where nothing is left, and where the mark is
  ended : (m : Bool) → frames f size (drop at s) ≡ accepted ([], m) → accepted (n, m) ≡ frames_counted f size (drop from s)
  ended m e = ap (λ k. accepted (k, m)) (sym (add-zero n)) ∙ sym (ap (counted_from n) e) ∙ w.same

  pub count-end : accepted none ≡ step_at (frame_seen f) (frame f size) s at → accepted (n, false) ≡ frames_counted f size (drop from s)
  count-end e =
      let i = step_end (frame_seen f) (frame f size) (takes-frame f size) s at (sym e) in
      ended false (ap (frames f size) (drop_of_length-le s i) ∙ frames-ended f size false)

  pub count-mark : true ≡ same_bytes (drop at s) mark → accepted (n, true) ≡ frames_counted f size (drop from s)
  count-mark e = ended true (ap (frames f size) (same_bytes_lem (drop at s) mark (sym e)) ∙ frames-ended f size true)

  pub count-refused : {k : ℕ} → refused k ≡ step_at (frame_seen f) (frame f size) s at → false ≡ same_bytes (drop at s) mark
      → refused k ≡ frames_counted f size (drop from s)
  count-refused {k} e g =
      let q = step_refused (frame_seen f) (frame f size) (takes-frame f size) s at k (sym e) in
      sym (ap (counted_from n) (frames-fault f size (drop at s) k (omega (arith, length-drop at s, q.0)) (sym g) q.1)) ∙ w.same

  pub count_turn : {v : Row} {m : ℕ} → accepted (some (v, m)) ≡ step_at (frame_seen f) (frame f size) s at → Counted f size s from at n m
  count_turn {v} {m} e =
      let t = walk_more (frame_seen f) (frame f size) (takes-frame f size) s at v m (sym e) in
      record {
        later = t.later;
        within = t.within;
        onward = record {
          inside = t.within;
          few = omega (arith, w.few, t.later);
          same =
              sym (ap (counted_from n) (frames_more f size (drop at s) t.element (drop m s) t.read) ∙ count-one n (frames f size (drop m s)) t.element)
              ∙ w.same;
        };
      }
