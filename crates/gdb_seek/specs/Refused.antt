-- Which refusal is given, by what stands first in the file: 2, 1, the opening's, that of a head up to frame n's, and that of the blocks of frame n.
-- 12 and the answers: Stands.
-- Assumes nothing.
use Rattle.std.specs.Prelude.{◌≡◌, refl, ℕ, ◌<◌, ◌≤◌, List, [], ◌∷◌, ◌++◌, length, drop}
use Rattle.std.proofs.Common.{sym, ◌∙◌, arith, length-drop}
use Rattle.std.proofs.Math.Path.{ap}
use Rattle.std.proofs.Math.Option.{none}
use borrow.Author.Tests.{le-leb, lt-leb}
use Rattle.refusals.specs.Refusal.{limit, too_long}
use Rattle.fields.specs.Lists.{concat_map, clash}
use Rattle.fields.specs.Answer.{accepted, refused}
use Rattle.fields.specs.At.{step_of}
use Rattle.gdb_format.specs.Settings.{settings_of}
use Rattle.gdb_format.specs.Trace.{put_data}
use Rattle.gdb_format.specs.Lines.{register_size}
use Rattle.gdb_format.specs.Decode.{blocks, frame_head, ending, opening_lines}
use Rattle.gdb_format.specs.ExactFrame.{HeadFits}
use Rattle.gdb_format.specs.declared.Settings.{Settings}
use Rattle.gdb_format.specs.declared.Format.{Format}
use Rattle.gdb_read.specs.Steps.{head_seen}
use Rattle.gdb_seek.specs.Walk.{head_or_end, Walk, ends_at, walk_to}
use Rattle.gdb_seek.specs.Found.{frame_found}
use Rattle.gdb_seek.specs.Openings.{Starts, opened, opening-first, start_place, rest_place, heads-there, rest-there}
use Rattle.gdb_seek.specs.Heads.{over_reached, walk_stops, walk_meets, data_here}

-- no end stands at a place, and no head
pub no-head : (f : Format) (b : List ℕ) (at k : ℕ) → ending (drop at b) ≡ none → frame_head f (drop at b) ≡ refused k → head_or_end f b at ≡ refused k
no-head f b at k i e = rw i (step_of head_seen (frame_head f) b at (some_left (drop at b) refl i) ∙ rw e)
  where
    some_left : (d : List ℕ) → drop at b ≡ d → ending d ≡ none → at < length b
    some_left [] j i = clash (cc)
    some_left (x ∷ xs) j i = omega (arith, ap length j, length-drop at b)

module _ (s : Settings) (b : List ℕ) (n : ℕ) where
  -- 2 first
  pub settings-refused : (k : ℕ) → settings_of s ≡ refused k → frame_found s b n ≡ refused k
  unfolding frame_found
  settings-refused k e = rw e

  module _ (f : Format) (ok : settings_of s ≡ accepted f) where
    -- then 1, whatever the file holds
    pub long-refused : limit < length b → frame_found s b n ≡ refused too_long
    unfolding frame_found
    long-refused h = rw (ok, lt-leb (length b) limit h)

    module _ (short : length b ≤ limit) where
      -- then the opening's
      pub opening-refused : (k : ℕ) → opening_lines f b ≡ refused k → frame_found s b n ≡ refused k
      unfolding frame_found
      opening-refused k e = rw (ok, le-leb (length b) limit short, e)

      module _ (k : ℕ) (z : Starts f b) where
        -- then that of a head, of frame n or of one before it: the blocks of earlier frames do not count, nor what stands behind
        pub head-refused : length z.earlier ≤ n → ending z.rest ≡ none → frame_head f z.rest ≡ refused k → frame_found s b n ≡ refused k
        unfolding frame_found
        head-refused few i e =
            let w =
            walk_stops f b n k z.earlier (start_place z) z.rest few z.earlier_fit (heads-there z)
            (λ m j. rw (no-head f b m k (ap ending j ∙ i) (ap (frame_head f) j ∙ e))) in
            let reach : (walk_to f b n (start_place z)).reached ≡ refused k =
            ap (λ (w : Walk). w.reached) w ∙ over_reached f (start_place z) z.earlier (λ m. ends_at m (refused k)) in
            rw (ok, le-leb (length b) limit short, opened (opening-first z), reach)

        -- and last that of the blocks of frame n
        pub blocks-refused : (h : ℕ × List ℕ) (rest : List ℕ) → length z.earlier ≡ n → HeadFits h → z.rest ≡ put_data f h ++ rest
            → blocks f (register_size f z.lines) h.1 [] ≡ refused k → frame_found s b n ≡ refused k
        unfolding frame_found
        blocks-refused h rest many fit there e =
            let w =
            walk_meets f b z.earlier h (start_place z) rest z.earlier_fit fit
            (heads-there z ∙ ap (λ d. concat_map (put_data f) z.earlier ++ d) there) in
            let reach : (walk_to f b n (start_place z)).reached ≡ accepted (head_seen (rest_place z) h) =
            ap (λ m. (walk_to f b m (start_place z)).reached) (sym many) ∙ ap (λ (w : Walk). w.reached) w
            ∙ over_reached f (start_place z) z.earlier (λ m. ends_at m (accepted (head_seen m h))) in
            rw (ok, le-leb (length b) limit short, opened (opening-first z), reach, data_here f b (rest_place z) h rest (rest-there z ∙ there), e)
