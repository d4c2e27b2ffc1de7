-- What `cut_of` gives in each case that the code tells apart.
-- Assumes nothing.
use Rattle.std.proofs.Common.{◌≡◌, refl, sym, ap, ap₂, ◌∙◌, arith, Bool, true, false, cond, ℕ, zero, suc, ◌+◌, ◌-◌, ◌<◌, ◌≤◌, List, [], ◌∷◌, ◌++◌, length, map, take, drop, leb, append_assoc, take_all, length-append, length-take, length-drop, length-take-le, get_or, subst, min}
use Rattle.std.proofs.Math.Option.{Option}
use Rattle.std.specs.List.{concat}
use borrow.Author.Tests.{leb-true, leb-false}
use borrow.Rule.Slice.PartMut.{put_mid}
use Rattle.byte_runs.specs.Copy.{count_all, written_all}
use Rattle.refusals.specs.Refusal.{bad_argument, no_room}
use Rattle.fields.specs.Copies.{Overwritten, copied-over, over-long, over_more}
use Rattle.fields.specs.Output.{Lent, lent_written, lent-full}
use Rattle.fields.specs.Lists.{concat_map, Each}
use Rattle.fields.specs.Number.{Bytes, bytes_drop, bytes_take, bytes-all}
use Rattle.fields.specs.Answer.{accepted, refused, refused_inv}
use Rattle.fields.specs.Reader.{to_end}
use Rattle.fields.specs.Exact.{back-to_end, forth-to_end}
use Rattle.fields.specs.Takes.{shorter}
use Rattle.gdb_format.specs.Trace.{Frame, Trace, unmarked, opening, put_data, head_in, put_frame, put_mark, encode}
use Rattle.gdb_format.specs.Lines.{register_size}
use Rattle.gdb_format.specs.Layout.{FrameFits}
use Rattle.gdb_format.specs.Decode.{frame_head, read}
use Rattle.gdb_format.specs.ExactFrame.{HeadFits, exact_head, takes-head}
use Rattle.gdb_format.specs.declared.Settings.{Settings}
use Rattle.gdb_format.specs.declared.Format.{Format}
use Rattle.gdb_read.specs.Steps.{Summary, summary_of, read_seen}
use Rattle.gdb_frames.specs.File.{File, WasRead, file_of_lem, frames_alone, frames_last, mark-behind, start-within, opening-front, told, told-front}
use Rattle.gdb_select.specs.Selection.{Selection, selects, meaning, valid}
use Rattle.gdb_cut.specs.Cut.{filter, picks, cut, cut_of}
use Rattle.gdb_cut.specs.Kept.{kept_frames, kept_frames_of, heads_fill, HeadsFrom, was_accepted}
use Rattle.gdb_cut.specs.Left.{cut_bytes}
use Rattle.gdb_cut.specs.declared.KeptFrames.{KeptFrames}
use Rattle.gdb_cut.proofs.Walk.{filling}
use Rattle.gdb_select.specs.declared.Selection as lent

-- ---- refusals

pub cut_invalid : (s : Settings) (c : lent.Selection) (b : List ℕ) → valid c ≡ false → cut_of s c b ≡ refused bad_argument
unfolding cut_of
cut_invalid s c b e = rw e

pub cut-refused : (s : Settings) (c : lent.Selection) (b : List ℕ) (n : ℕ) → valid c ≡ true → refused n ≡ read_seen (read s b) → cut_of s c b ≡ refused n
unfolding cut_of
cut-refused s c b n v e = rw (v, refused_inv n (read s b) (λ r. summary_of r.0 r.1) e)

-- ---- the heads of an accepted file's frames

heads-bytes : (f : Format) (fs : List Frame) → concat_map (put_data f) (map (head_in f) fs) ≡ concat_map (put_frame f) fs
heads-bytes f [] = refl
heads-bytes f (r ∷ fs) = ap (λ x. put_frame f r ++ x) (heads-bytes f fs)

heads_fit : (f : Format) (size : Option ℕ) (fs : List Frame) → Each (FrameFits f size) fs → Each HeadFits (map (head_in f) fs)
heads_fit f size [] h = tt
heads_fit f size (r ∷ fs) h = ((h.0.0, h.0.1, h.0.3), heads_fit f size fs h.1)

heads_of : (f : Format) (size : Option ℕ) (fs : List Frame) → Each (FrameFits f size) fs
    → to_end (frame_head f) (concat_map (put_frame f) fs) ≡ accepted (map (head_in f) fs)
heads_of f size fs h =
    rw (← heads-bytes f fs) (back-to_end (exact_head f) (shorter 1 (frame_head f) (omega arith) (takes-head f)) (map (head_in f) fs) (heads_fit f size fs h))

-- the heads that are kept are those of the frames that are
kept_one_by_one : (f : Format) (c : Selection) (fs : List Frame)
    → concat (map (put_data f) (filter (λ h. selects c h.0) (map (head_in f) fs))) ≡ concat_map (put_frame f) (filter (picks c) fs)
kept_one_by_one f c [] = refl
kept_one_by_one f c (r ∷ fs) = by (picks c r) (kept_one_by_one f c fs)
  where
    by : (t : Bool) → concat (map (put_data f) (filter (λ h. selects c h.0) (map (head_in f) fs))) ≡ concat_map (put_frame f) (filter (picks c) fs)
        → concat (map (put_data f) (cond t (head_in f r ∷ filter (λ h. selects c h.0) (map (head_in f) fs)) (filter (λ h. selects c h.0) (map (head_in f) fs))))
        ≡ concat_map (put_frame f) (cond t (r ∷ filter (picks c) fs) (filter (picks c) fs))
    by true e = ap (λ x. put_frame f r ++ x) e
    by false e = e

-- up to where the frames end
module _ (f : Format) (b : List ℕ) (t : Trace) (i : File f b (unmarked t)) where
  heads_in : to_end (frame_head f) (drop (length (opening t.lines)) b) ≡ accepted (map (head_in f) t.frames)
  heads_in = rw (frames_alone f b t i) (heads_of f (register_size f t.lines) t.frames i.fits.frames_fit)

  kept_in : (c : Selection) → concat (kept_frames f c (drop (length (opening t.lines)) b)) ≡ concat_map (put_frame f) (filter (picks c) t.frames)
  unfolding kept_frames
  kept_in c = ap (λ x. concat (kept_frames_of f c x)) heads_in ∙ kept_one_by_one f c t.frames

-- ---- a cut of a file that was read

byte_below : (b : List ℕ) (i : ℕ) → Bytes b → get_or b i 0 < 256
byte_below [] i h = omega arith
byte_below (x ∷ b) zero h = h.0
byte_below (x ∷ b) (suc i) h = byte_below b i h.1

cut-read : (s : Settings) (c : lent.Selection) (b : List ℕ) (f : Format) (t : Trace) → valid c ≡ true → read s b ≡ accepted (f, t)
    → cut_of s c b ≡ accepted (encode f (cut (meaning c) t))
unfolding cut_of
cut-read s c b f t v r = rw (v, r)

-- the walk is given d, the file up to where its frames end
module _ {s : Settings} {b d : List ℕ} {m : Summary} (w : WasRead s b m) (e : d ≡ take m.end b) where
  pub heads-there : HeadsFrom m.format d m.start
  heads-there = (
    λ i. byte_below d i (subst Bytes (sym e) (bytes_take m.end b w.bytes)),
    told-front w e (λ d m. m.start ≤ length d) (λ f t d r i. start-within f d (unmarked t) i),
    told-front w e (λ d m. heads_fill m.format (drop m.start d) ≡ true) (λ f t d r i. ap was_accepted (heads_in f d t i)),
  )

  pub end-there : m.end ≤ length b
  end-there = told s b w.bytes m w.summed (λ m. m.end ≤ length b) (λ f t r i. omega (arith, frames_last f b t i))

  -- opening and kept frames, and behind them what stands behind the frames of the file
  pub cut-gives : (c : lent.Selection) → valid c ≡ true
      → cut_of s c b ≡ accepted ((take m.start d ++ concat (kept_frames m.format (meaning c) (drop m.start d))) ++ take (length b - m.end) (drop m.end b))
  unfolding encode
  cut-gives c v =
      rw (take_all (length b - m.end) (drop m.end b) (omega (arith, length-drop m.end b)))
      (told-front w e (λ d m. cut_of s c b ≡ accepted ((take m.start d ++ concat (kept_frames m.format (meaning c) (drop m.start d))) ++ drop m.end b))
      (λ f t d r i.
      cut-read s c b f t v r
      ∙ ap accepted (sym (ap₂ (λ x z. x ++ z) (ap₂ (λ x z. x ++ z) (opening-front f d (unmarked t) i) (kept_in f d t i (meaning c)))
      (mark-behind f b t (file_of_lem s b f t w.bytes r))
      ∙ append_assoc (opening t.lines) (concat_map (put_frame f) (filter (picks (meaning c)) t.frames)) (put_mark t.marked)))))

  -- the room that the cut needs, and what the code has written where it is there
  module _ (c : lent.Selection) (v : valid c ≡ true) (out : List ℕ) where
    abbrev body : List ℕ
    body = take m.start d ++ concat (kept_frames m.format (meaning c) (drop m.start d))

    abbrev mark : List ℕ
    mark = take (length b - m.end) (drop m.end b)

    pub no-room : false ≡ leb (length body + length mark) (length out) → Lent (cut_of s c b) out (refused no_room) out
    no-room h = lent-full _ _ (body ++ mark) (cut-gives c v) (omega (arith, length-append body mark, leb-false (length body + length mark) (length out) (sym h)))

    pub all-written : {len r : ℕ} {o ys : List ℕ} → true ≡ leb (length body + length mark) (length out) → Overwritten body out len o
        → r ≡ min (length mark) (length (take (length o - len) (drop len o))) → ys ≡ take r mark ++ drop r (take (length o - len) (drop len o))
        → Lent (cut_of s c b) out (accepted (len + r)) (put_mid len (length o - len) o ys)
    all-written {len} {r} {o} {ys} h w n e =
        let room = leb-true (length body + length mark) (length out) (sym h) in
        let before : List ℕ = take (length o - len) (drop len o) in
        let fits : length mark ≤ length before =
        omega (arith, room, w.long, over-long w (omega (arith, room, w.long)), length-take (length o - len) (drop len o), length-drop len o) in
        let l = over_more w (copied-over (count_all mark before ys r n fits) (written_all mark before ys r n fits e)) in
        lent_written _ _ (body ++ mark) _ _ (cut-gives c v) l.long (omega (arith, room, length-append body mark)) l.bytes

-- ---- the room

filter_less : {A : Type 0} (put : A → List ℕ) (p : A → Bool) (xs : List A) → length (concat (map put (filter p xs))) ≤ length (concat_map put xs)
filter_less put p [] = omega arith
filter_less put p (x ∷ xs) = by (p x) (filter_less put p xs)
  where
    by : (t : Bool) → length (concat (map put (filter p xs))) ≤ length (concat_map put xs)
        → length (concat (map put (cond t (x ∷ filter p xs) (filter p xs)))) ≤ length (put x ++ concat_map put xs)
    by true h = omega (arith, h, length-append (put x) (concat (map put (filter p xs))), length-append (put x) (concat_map put xs))
    by false h = omega (arith, h, length-append (put x) (concat_map put xs))

-- what is kept is no longer than what it is kept of
kept_less : (f : Format) (c : Selection) (b : List ℕ) → Bytes b → heads_fill f b ≡ true → length (concat (kept_frames f c b)) ≤ length b
unfolding kept_frames
kept_less f c b hb y =
    let h = filling f b y in
    let e = (forth-to_end (exact_head f) (shorter 1 (frame_head f) (omega arith) (takes-head f)) b h.0 hb h.1).1 in
    let k : length (concat (kept_frames_of f c (to_end (frame_head f) b))) ≡ length (concat (map (put_data f) (filter (λ g. selects c g.0) h.0))) =
    ap (λ x. length (concat (kept_frames_of f c x))) h.1 in
    omega (arith, k, filter_less (put_data f) (λ g. selects c g.0) h.0, ap length e)

-- and a cut no longer than its file
pub cut_within : (k : KeptFrames) → length (cut_bytes k) ≤ length k.file.now
cut_within k =
    let f = k.format in
    let c = meaning k.selection in
    let b = k.file.now in
    let start = k.at in
    omega (
      arith,
      length-append (take start b) (concat (kept_frames f c (drop start b))),
      length-take-le start b k.whole.1,
      kept_less f c (drop start b) (bytes_drop start b (bytes-all b k.whole.0)) k.whole.2,
      length-drop start b,
    )
