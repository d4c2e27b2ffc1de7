-- A turn of a walk over the heads of an accepted file: which frame it adds to those that are kept.
-- Assumes nothing.
use Rattle.std.proofs.Common.{◌≡◌, refl, sym, ap, ◌∙◌, arith, Bool, true, false, ℕ, ◌-◌, ◌<◌, List, [], ◌∷◌, ◌++◌, length, take, drop, take_at, length-append, length-drop}
use Rattle.std.specs.Prelude.{Result, Ok, Err, IsOk}
use Rattle.std.specs.Prelude.{Option as Optional}
use Rattle.std.proofs.Math.Option.{none, some}
use Rattle.refusals.specs.Number.{number}
use Rattle.refusals.specs.declared.Refusal.{Refusal}
use Rattle.fields.specs.Lists.{clash}
use Rattle.fields.specs.Number.{bytes_drop, bytes-all}
use Rattle.fields.specs.Answer.{Answer, accepted, refused, next}
use Rattle.fields.specs.Reader.{to_end, step_at}
use Rattle.fields.specs.At.{Turn, walk_end, walk_refused, walk_more}
use Rattle.gdb_format.specs.Trace.{put_data}
use Rattle.gdb_format.specs.Decode.{frame_head}
use Rattle.gdb_format.specs.ExactFrame.{exact_head, takes-head}
use Rattle.gdb_format.specs.declared.Format.{Format}
use Rattle.gdb_read.specs.Steps.{Row, head_seen, frame_meaning}
use Rattle.gdb_read.specs.declared.FrameStep.{FrameStep}
use Rattle.gdb_select.specs.Selection.{Selection, selects}
use Rattle.gdb_cut.specs.Kept.{kept_frames, kept_frames_of, heads_fill, HeadsFrom, was_accepted}

-- the heads that fill b
pub filling : (f : Format) (b : List ℕ) → heads_fill f b ≡ true → (hs : List (ℕ × List ℕ)) × (to_end (frame_head f) b ≡ accepted hs)
filling f b h = by (to_end (frame_head f) b) h
  where
    by : (x : Answer (List (ℕ × List ℕ))) → was_accepted x ≡ true → (hs : List (ℕ × List ℕ)) × (x ≡ accepted hs)
    by (accepted hs) h = (hs, refl)
    by (refused n) h = clash (cc)

module _ (f : Format) (b : List ℕ) (at : ℕ) where
  pub kept-end : (c : Selection) → accepted none ≡ step_at head_seen (frame_head f) b at → kept_frames f c (drop at b) ≡ []
  unfolding kept_frames
  kept-end c e = rw (walk_end head_seen (frame_head f) (takes-head f) b at (sym e))

  -- no head is refused
  pub never-refused : (r : Result (Optional FrameStep) Refusal) → HeadsFrom f b at → frame_meaning r ≡ step_at head_seen (frame_head f) b at → IsOk r
  never-refused (Ok s) h e = refl
  never-refused (Err k) h e =
      let z : ◌≡◌ {A = Bool} false true = ap was_accepted (sym (walk_refused head_seen (frame_head f) (takes-head f) b at (number k) (sym e))) ∙ h.2 in clash (cc)

-- the frame that was met: where the next starts, and the frame where it is selected
pub record Passed (f : Format) (b : List ℕ) (at : ℕ) (v : Row) (m : ℕ) : Type 0 where
  pub past : at < m
  pub onward : HeadsFrom f b m
  pub yes : (c : Selection) → selects c v.tracepoint ≡ true → kept_frames f c (drop at b) ≡ take (m - at) (drop at b) ∷ kept_frames f c (drop m b)
  pub no : (c : Selection) → selects c v.tracepoint ≡ false → kept_frames f c (drop at b) ≡ kept_frames f c (drop m b)

one_more : (x : Answer (List (ℕ × List ℕ))) (h : ℕ × List ℕ) → was_accepted (next x (λ l. accepted (h ∷ l))) ≡ true → was_accepted x ≡ true
one_more (accepted hs) h e = refl
one_more (refused n) h e = e

module _ (f : Format) (c : Selection) (h : ℕ × List ℕ) where
  one_kept : (x : Answer (List (ℕ × List ℕ))) → was_accepted x ≡ true → selects c h.0 ≡ true
      → kept_frames_of f c (next x (λ l. accepted (h ∷ l))) ≡ put_data f h ∷ kept_frames_of f c x
  one_kept (accepted hs) e s = rw s
  one_kept (refused n) e s = clash (cc)

  none_kept : (x : Answer (List (ℕ × List ℕ))) → selects c h.0 ≡ false → kept_frames_of f c (next x (λ l. accepted (h ∷ l))) ≡ kept_frames_of f c x
  none_kept (accepted hs) s = rw s
  none_kept (refused n) s = refl

pub passed : {f : Format} {b : List ℕ} {at : ℕ} {v : Row} {m : ℕ} → HeadsFrom f b at
    → accepted (some (v, m)) ≡ step_at head_seen (frame_head f) b at → Passed f b at v m
unfolding kept_frames
passed {f} {b} {at} {v} {m} h e =
    let t : Turn head_seen (frame_head f) b at v m = walk_more head_seen (frame_head f) (takes-head f) b at v m (sym e) in
    let w : put_data f t.element ++ drop m b ≡ drop at b =
    ((exact_head f).forth (drop at b) t.element (drop m b) (bytes_drop at b (bytes-all b h.0)) t.read).1 in
    let n : length (put_data f t.element) ≡ m - at =
    omega (arith, ap length w, length-append (put_data f t.element) (drop m b), length-drop m b, length-drop at b, t.later, t.within) in
    let bytes : put_data f t.element ≡ take (m - at) (drop at b) =
    sym (ap (take (m - at)) (sym w) ∙ take_at (put_data f t.element) (drop m b) (m - at) n) in
    let number : t.element.0 ≡ v.tracepoint = ap (λ (r : Row). r.tracepoint) t.shown in
    let others : Answer (List (ℕ × List ℕ)) = to_end (frame_head f) (drop m b) in
    let rest : was_accepted others ≡ true = one_more others t.element (ap was_accepted (sym t.more) ∙ h.2) in
    record {
      past = t.later;
      onward = (h.0, t.within, rest);
      yes = λ c s.
          ap (kept_frames_of f c) t.more ∙ one_kept f c t.element others rest (ap (selects c) number ∙ s) ∙ ap (λ x. x ∷ kept_frames_of f c others) bytes;
      no = λ c s. ap (kept_frames_of f c) t.more ∙ none_kept f c t.element others (ap (selects c) number ∙ s);
    }
