-- Where the frames before frame n are sound, a refusal other than 12 is the whole reading's own, and a frame that is answered is sound: so a file's first
-- fault is that of the first frame which is refused.
-- Assumes nothing.
use Rattle.std.specs.Prelude.{◌≡◌, Bool, true, cond, ℕ, ◌+◌, ◌<◌, suc, List, [], ◌∷◌, ◌++◌, length, leb}
use Rattle.std.proofs.Math.Path.{refl, ap}
use Rattle.std.proofs.Common.{sym, ◌∙◌, add-zero, arith, append_assoc, append-nil, length-append, drop-drop, drop_at}
use Rattle.std.proofs.Math.Bool.{false}
use Rattle.std.proofs.Math.Option.{Option, none, some}
use Rattle.std.proofs.Math.ListN.{drop}
use Rattle.refusals.specs.Refusal.{limit, too_long, not_found}
use Rattle.fields.specs.Lists.{concat_map, Each, each_map, clash, each_append, concat_map-append}
use Rattle.fields.specs.Number.{Bytes, bytes_drop}
use Rattle.fields.specs.Word.{same_bytes}
use Rattle.fields.specs.Answer.{Answer, accepted, refused, next, never, refused_inv, refused-one, next_inv, cond_inv, accepted_inj}
use Rattle.fields.specs.Reader.{step_at, to_end_after}
use Rattle.fields.specs.At.{step_refused}
use Rattle.gdb_format.specs.Settings.{settings_of}
use Rattle.gdb_format.specs.Trace.{Frame, Trace, mark, opening, head_in, put_frame, Block}
use Rattle.gdb_format.specs.Lines.{register_size}
use Rattle.gdb_format.specs.Layout.{LinesFit, FrameFits}
use Rattle.gdb_format.specs.Decode.{block_after, seen_after, blocks, frame_head, frame, ending, frames, opening_lines, trace, decode, read}
use Rattle.gdb_format.specs.ExactFrame.{HeadFits, exact_head, exact_frame, takes-head, frames_more, frames-fault}
use Rattle.gdb_format.specs.declared.Settings.{Settings}
use Rattle.gdb_format.specs.declared.Format.{Format}
use Rattle.gdb_read.specs.Steps.{Row, head_seen}
use Rattle.gdb_frames.specs.Nth.{found_by}
use Rattle.gdb_frames.specs.Places.{part}
use Rattle.gdb_frames.specs.Questions.{data_in}
use Rattle.gdb_seek.specs.Walk.{before_end, head_or_end, Walk, walk_to}
use Rattle.gdb_seek.specs.Found.{judged, found_behind, frame_found}
use Rattle.gdb_seek.specs.Turns.{head_met, reached_here}
use Rattle.gdb_seek.specs.Openings.{Opens, opened, behind-opening}
use Rattle.gdb_seek.specs.Heads.{head-here, rest-here, data_here, here-head}

-- the file starts with an opening and n sound frames; behind them anything
pub record StartsSound (f : Format) (b : List ℕ) (n : ℕ) : Type 0 where
  pub lines : List (List ℕ)
  pub sound : List Frame
  pub rest : List ℕ
  pub lines_fit : LinesFit f lines
  pub sound_fit : Each (FrameFits f (register_size f lines)) sound
  pub so_many : length sound ≡ n
  pub laid_out : opening lines ++ (concat_map (put_frame f) sound ++ rest) ≡ b

-- ---- the frame that is refused

module _ (f : Format) (b : List ℕ) where
  -- over frames that are laid out the walk goes on to what stands behind them
  walk_over : (rs : List Frame) (at : ℕ) (rest : List ℕ) → Each (λ r. HeadFits (head_in f r)) rs → drop at b ≡ concat_map (put_frame f) rs ++ rest
      → (walk_to f b (length rs) at).reached ≡ next (head_or_end f b (at + length (concat_map (put_frame f) rs))) (found_by (λ v. v))
  walk_over [] at rest g e = ap (λ a. next (head_or_end f b a) (found_by (λ v. v))) (sym (add-zero at))
  walk_over (r ∷ rs) at rest g e =
      let more = concat_map (put_frame f) rs ++ rest in
      let i : drop at b ≡ put_frame f r ++ more = e ∙ append_assoc (put_frame f r) (concat_map (put_frame f) rs) rest in
      let k : at + length (put_frame f r) + length (concat_map (put_frame f) rs) ≡ at + length (concat_map (put_frame f) (r ∷ rs)) =
      omega (arith, length-append (put_frame f r) (concat_map (put_frame f) rs)) in
      rw (head-here f b at (head_in f r) more i g.0)
      (walk_over rs (at + length (put_frame f r)) rest g.1 (rest-here f b at (head_in f r) more i)
      ∙ ap (λ a. next (head_or_end f b a) (found_by (λ v. v))) k)

  -- no end stands at `at`, and the frame there is refused
  abbrev FrameRefused : Option ℕ → ℕ → ℕ → Type 0
  FrameRefused size at k = (ending (drop at b) ≡ none) × (frame f size (drop at b) ≡ refused k)

  module _ (size : Option ℕ) (at k : ℕ) where
    refused-head : head_or_end f b at ≡ refused k → FrameRefused size at k
    unfolding frame
    refused-head e = by (ending (drop at b)) refl e
      where
        by : (x : Option Bool) → ending (drop at b) ≡ x → before_end x (step_at head_seen (frame_head f) b at) ≡ refused k → FrameRefused size at k
        by (some m) i e = never (sym e)
        by none i e = (i, rw (step_refused head_seen (frame_head f) (takes-head f) b at k e).1)

    refused-blocks : (d rest : List ℕ) → blocks f size d [] ≡ refused k → blocks f size d rest ≡ refused k
    unfolding blocks
    refused-blocks d rest e = rw (refused_inv k (to_end_after (block_after f size) seen_after false d) (λ l. (l, [])) (sym e))

    -- a head with data that blocks do not fill
    refused_data : (w : Bytes b) (v : Row) (m : ℕ) → head_or_end f b at ≡ accepted (some (v, m)) → blocks f size (part b (accepted (data_in v))) [] ≡ refused k
        → FrameRefused size at k
    unfolding frame
    refused_data w v m e i =
        let q = here-head f b at w v m e in
        let h = q.0 in
        let head_read : frame_head f (drop at b) ≡ accepted (h, drop m b) = ap (frame_head f) q.2 ∙ (exact_head f).back h (drop m b) q.1 in
        let own : part b (accepted (data_in v)) ≡ h.1 = ap (λ r. part b (accepted (data_in r))) (sym q.3) ∙ data_here f b at h (drop m b) q.2 in
        ((head_met f b at (v, m) (sym e)).0, rw (head_read, refused-blocks h.1 (drop m b) (rw own at i)))

  -- whichever of both it is
  refused-frame : (w : Bytes b) (size : Option ℕ) (at k : ℕ) → (k ≡ not_found → ⊥) → (v : Walk) → v.reached ≡ next (head_or_end f b at) (found_by (λ v. v))
      → judged f size b v ≡ refused k → FrameRefused size at k
  refused-frame w size at k other v i e = by (head_or_end f b at) refl (rw i at e)
    where
      by : (x : Answer (Option (Row × ℕ))) → head_or_end f b at ≡ x
          → next {B = (ℕ × ℕ) × ℕ} (next x (found_by (λ v. v))) (λ r.
          next {B = (ℕ × ℕ) × ℕ} (blocks f size (part b (accepted (data_in r))) []) (λ q. accepted (data_in r, length v.visited))) ≡ refused k
          → FrameRefused size at k
      by (refused j) i e = refused-head size at k (i ∙ ap refused (refused-one e))
      by (accepted none) i e = absurd (other (sym (refused-one e)))
      by (accepted (some r)) i e = refused_data size at k w r.0 r.1 i (refused_inv k (blocks f size (part b (accepted (data_in r.0))) []) _ (sym e))

-- ---- the whole reading

module _ (f : Format) (size : Option ℕ) where
  no_end : (d : List ℕ) → ending d ≡ none → (0 < length d) × (same_bytes d mark ≡ false)
  no_end [] e = clash (cc)
  no_end (x ∷ xs) e = (omega arith, by (same_bytes (x ∷ xs) mark) e)
    where
      by : (t : Bool) → cond t (some true) none ≡ none → t ≡ false
      by true e = clash (cc)
      by false e = refl

  -- refused behind sound frames is refused
  refused-frames : (rs : List Frame) (rest : List ℕ) (k : ℕ) → Each (FrameFits f size) rs → ending rest ≡ none → frame f size rest ≡ refused k
      → frames f size (concat_map (put_frame f) rs ++ rest) ≡ refused k
  refused-frames [] rest k g i e = let q = no_end rest i in frames-fault f size rest k q.0 q.1 e
  refused-frames (r ∷ rs) rest k g i e =
      let more = concat_map (put_frame f) rs ++ rest in
      ap (frames f size) (append_assoc (put_frame f r) (concat_map (put_frame f) rs) rest)
      ∙ frames_more f size (put_frame f r ++ more) r more ((exact_frame f size).back r more g.0)
      ∙ rw (refused-frames rs rest k g.1 i e)

-- behind the sound frames
module _ {f : Format} {b : List ℕ} {n : ℕ} (z : StartsSound f b n) where
  abbrev size : Option ℕ
  size = register_size f z.lines

  starts : Opens f b z.lines (concat_map (put_frame f) z.sound ++ z.rest)
  starts = record { fits = z.lines_fit; laid_out = z.laid_out }

  abbrev start : ℕ
  start = length (opening z.lines)

  abbrev end : ℕ
  end = start + length (concat_map (put_frame f) z.sound)

  rest-there : drop end b ≡ z.rest
  rest-there =
      let hs = concat_map (put_frame f) z.sound in
      sym (drop-drop (length hs) start b) ∙ ap (drop (length hs)) (behind-opening starts) ∙ drop_at hs z.rest (length hs) refl

  walk_there : (walk_to f b n start).reached ≡ next (head_or_end f b end) (found_by (λ v. v))
  walk_there =
      ap (λ m. (walk_to f b m start).reached) (sym z.so_many)
      ∙ walk_over f b z.sound start z.rest (each_map (λ r g. (g.0, g.1, g.3)) z.sound z.sound_fit) (behind-opening starts)

  refused-trace : Bytes b → (k : ℕ) → (k ≡ not_found → ⊥) → found_behind f b n z.lines ≡ refused k → trace f b ≡ refused k
  unfolding trace
  refused-trace w k other e =
      let q = refused-frame f b w size end k other (walk_to f b n start) walk_there e in
      let here : (ending z.rest ≡ none) × (frame f size z.rest ≡ refused k) = rw rest-there at q in
      rw (opened starts, refused-frames f size z.sound z.rest k z.sound_fit here.0 here.1)

-- where the file starts with an opening and n sound frames, what is refused but for 12 is refused so by the whole reading
pub first-fault : (s : Settings) (f : Format) (b : List ℕ) (n k : ℕ) → Bytes b → settings_of s ≡ accepted f → StartsSound f b n → (k ≡ not_found → ⊥)
    → frame_found s b n ≡ refused k → read s b ≡ refused k
unfolding frame_found read decode
first-fault s f b n k w ok z other e = rw ok (by (leb (length b) limit) (rw ok at e))
  where
    by : (t : Bool) → cond t (next (opening_lines f b) (λ o. found_behind f b n o.0)) (refused too_long) ≡ refused k
        → next {B = Format × Trace} (cond t (trace f b) (refused too_long)) (λ t. accepted (f, t)) ≡ refused k
    by true e = rw (refused-trace z w k other (rw (opened (starts z)) at e))
    by false e = ap refused (refused-one e)

-- ---- a frame that is answered

module _ (f : Format) (b : List ℕ) (w : Bytes b) (size : Option ℕ) (at : ℕ) where
  blocks-behind : (d rest : List ℕ) (q : List Block × List ℕ) → blocks f size d [] ≡ accepted q → blocks f size d rest ≡ accepted (q.0, rest)
  unfolding blocks
  blocks-behind d rest q e =
      let p = next_inv (to_end_after (block_after f size) seen_after false d) _ e in
      rw p.1 (ap (λ l. accepted (l, rest)) (accepted_inj p.2).0)

  frame-there : (x : (ℕ × ℕ) × ℕ) (v : Walk) → v.reached ≡ next (head_or_end f b at) (found_by (λ v. v)) → judged f size b v ≡ accepted x
      → (r : Frame) × (rest : List ℕ) × (frame f size (drop at b) ≡ accepted (r, rest))
  unfolding frame
  frame-there x v i e =
      let u = next_inv v.reached _ e in
      let p = next_inv (blocks f size (part b (accepted (data_in u.0))) []) _ u.2 in
      let m = reached_here f b at u.0 (sym i ∙ u.1) in
      let q = here-head f b at w u.0 m.0 (sym m.1) in
      let h = q.0 in
      let rest = drop m.0 b in
      let head_read : frame_head f (drop at b) ≡ accepted (h, rest) = ap (frame_head f) q.2 ∙ (exact_head f).back h rest q.1 in
      let own : part b (accepted (data_in u.0)) ≡ h.1 = ap (λ r. part b (accepted (data_in r))) (sym q.3) ∙ data_here f b at h rest q.2 in
      (record { tracepoint = h.0; blocks = p.0.0 }, rest, rw (head_read, blocks-behind h.1 rest p.0 (ap (λ d. blocks f size d []) (sym own) ∙ p.1)))

-- behind n sound frames it is sound
pub sound_more : (s : Settings) (f : Format) (b : List ℕ) (n : ℕ) (x : (ℕ × ℕ) × ℕ) → Bytes b → settings_of s ≡ accepted f → StartsSound f b n
    → frame_found s b n ≡ accepted x → StartsSound f b (suc n)
unfolding frame_found
sound_more s f b n x w ok z e =
    let hs = concat_map (put_frame f) z.sound in
    let found = (cond_inv (leb (length b) limit) _ too_long (rw ok at e)).1 in
    let q = frame-there f b w (size z) (end z) x (walk_to f b n (start z)) (walk_there z) (rw (opened (starts z)) at found) in
    let r = q.0 in
    let k = (exact_frame f (size z)).forth (drop (end z) b) r q.1 (bytes_drop (end z) b w) q.2 in
    let more : z.rest ≡ put_frame f r ++ q.1 = sym (rest-there z) ∙ sym k.1 in
    record {
      lines = z.lines;
      sound = z.sound ++ r ∷ [];
      rest = q.1;
      lines_fit = z.lines_fit;
      sound_fit = each_append (FrameFits f (register_size f z.lines)) z.sound (r ∷ []) z.sound_fit (k.0, tt);
      so_many = length-append z.sound (r ∷ []) ∙ omega (arith, z.so_many);
      laid_out =
          ap (λ d. opening z.lines ++ d)
          (ap (λ d. d ++ q.1) (concat_map-append (put_frame f) z.sound (r ∷ []) ∙ ap (λ d. hs ++ d) (append-nil (put_frame f r)))
          ∙ append_assoc hs (put_frame f r) q.1 ∙ ap (λ d. hs ++ d) (sym more))
          ∙ z.laid_out;
    }
