-- Frame n and line j of an accepted file, where the walk finds them.
-- Assumes nothing.
use Rattle.std.specs.Prelude.{◌≡◌, refl, ℕ, ◌+◌, ◌<◌, ◌≤◌, List, [], ◌∷◌, ◌++◌, length, take}
use Rattle.std.proofs.Common.{sym, ap, ◌∙◌, arith, le-leb}
use Rattle.std.proofs.Math.Option.{Option}
use Rattle.fields.specs.Lists.{concat_map, Each}
use Rattle.fields.specs.Answer.{Answer, accepted, refused, next, next_inv, refused_inv, accepted_inj, next_assoc}
use Rattle.fields.specs.Element.{nth}
use Rattle.gdb_format.specs.Trace.{Frame, Trace, unmarked, opening, head_in, put_frame, put_mark}
use Rattle.gdb_format.specs.Lines.{register_size, kind_of}
use Rattle.gdb_format.specs.Layout.{LineFits, FrameFits}
use Rattle.gdb_format.specs.Decode.{frame_head, read}
use Rattle.gdb_format.specs.Opening.{size_meaning}
use Rattle.gdb_format.specs.FrameBytes.{frame-long}
use Rattle.gdb_format.specs.ExactFrame.{exact_head}
use Rattle.gdb_format.specs.declared.Settings.{Settings}
use Rattle.gdb_format.specs.declared.Format.{Format}
use Rattle.gdb_read.specs.Steps.{Row, head_seen, frame_seen, head_meaning, frames_end, Summary}
use Rattle.gdb_frames.specs.Places.{lines_at, frames_at, part_named}
use Rattle.gdb_frames.specs.Questions.{asked, frame_row, line_at, line_place}
use Rattle.gdb_frames.specs.Nth.{nth_head, shown_nth, nth-placed, found_by, nth-found, nth_line, IsLine, nth-line}
use Rattle.std.specs.Prelude.{Result}
use Rattle.refusals.specs.declared.Refusal.{Refusal}
use Rattle.fields.specs.Meaning.{answer_by}
use Rattle.gdb_frames.specs.declared.Located.{Located}
use Rattle.gdb_frames.specs.File.{File, WasRead, frames-behind, front-file, start-within, lines-behind, told}
use Rattle.gdb_frames.specs.PlaceLaws.{line-within, line-is}

-- frame n with what is needed to read its blocks: the format, the register size, and what the frame shows
abbrev pub row_in : Format → Trace → Row → Format × (Option ℕ × Row)
row_in f t v = (f, (register_size f t.lines, v))

abbrev pub frame_located : ℕ → Format → Trace → Answer (Format × (Option ℕ × Row))
frame_located n f t = next (frame_row n f t) (λ v. accepted (row_in f t v))

-- what `Located` says
abbrev pub located_meaning : Result Located Refusal → Answer (Format × (Option ℕ × Row))
located_meaning r = answer_by (λ l. (l.layout.format, (size_meaning l.layout.size, head_meaning l.head))) r

-- ---- frame n

frame_fill : (f : Format) (r : Frame) → 0 < length (put_frame f r)
frame_fill f r = omega (arith, frame-long f (head_in f r))

-- a walk past the frames must not meet the mark
head_at_lem : (f : Format) (b : List ℕ) (t : Trace) (n : ℕ) → File f b t → (length t.frames ≤ n → put_mark t.marked ≡ [])
    → nth_head f b n (length (opening t.lines)) ≡ shown_nth (frame_seen f) (put_frame f) (nth (frames_at f t) n)
head_at_lem f b t n i z =
    nth-placed head_seen (frame_head f) (head_in f) (FrameFits f (register_size f t.lines)) (put_frame f)
    (λ r rest g. (exact_head f).back (head_in f r) rest (g.0, g.1, g.3)) (frame_fill f) b
    (put_mark t.marked) n t.frames (length (opening t.lines)) z i.fits.frames_fit (start-within f b t i) (frames-behind f b t i)

-- it stays within their number
pub head-nth : (f : Format) (b : List ℕ) (t : Trace) (n : ℕ) → File f b t → n < length t.frames
    → nth_head f b n (length (opening t.lines)) ≡ shown_nth (frame_seen f) (put_frame f) (nth (frames_at f t) n)
head-nth f b t n i l = head_at_lem f b t n i (λ k. absurd (omega (arith, l, k)))

-- or goes to where they end
pub head-front : (f : Format) (b : List ℕ) (t : Trace) (n : ℕ) → File f b t
    → nth_head f (take (frames_end f t) b) n (length (opening t.lines)) ≡ shown_nth (frame_seen f) (put_frame f) (nth (frames_at f t) n)
head-front f b t n i = head_at_lem f (take (frames_end f t) b) (unmarked t) n (front-file f b t i) (λ k. refl)

-- the head that the walk met, with what is needed to read its blocks
pub located_is : {s : Settings} {b : List ℕ} {m : Summary} → WasRead s b m → (n : ℕ) {x : Answer (Option (Row × ℕ))}
    → x ≡ nth_head m.format (take m.end b) n m.start → next x (found_by (λ v. (m.format, (m.size, v)))) ≡ asked s b (frame_located n)
located_is {s} {b} {m} w n {x} =
    told s b w.bytes m w.summed
    (λ m. x ≡ nth_head m.format (take m.end b) n m.start → next x (found_by (λ v. (m.format, (m.size, v)))) ≡ asked s b (frame_located n))
    (λ f t r i e.
    ap (λ y. next y (found_by (row_in f t))) (e ∙ head-front f b t n i) ∙ nth-found (frame_seen f) (put_frame f) (row_in f t) (frames_at f t) n
    ∙ sym (next_assoc (nth (frames_at f t) n) (λ r. accepted (frame_seen f r.0 r.1)) (λ v. accepted (row_in f t v)))
    ∙ ap (λ y. next y (λ r. frame_located n r.0 r.1)) (sym r))

-- ---- line j

lines-each : (f : Format) (ls : List (List ℕ)) → Each (LineFits f) ls → Each IsLine ls
lines-each f [] h = tt
lines-each f (l ∷ ls) h = ((h.0.0, h.0.1), lines-each f ls h.1)

pub line-nth : (f : Format) (b : List ℕ) (t : Trace) (j : ℕ) → File f b t
    → nth_line b j 8 ≡ next (nth (lines_at t) j) (λ r. accepted (r.0, length r.1))
line-nth f b t j i =
    nth-line b (concat_map (put_frame f) t.frames ++ put_mark t.marked) j t.lines 8 (lines-each f t.lines i.fits.lines_fit.0)
    (lines-behind f b t i)

module _ {s : Settings} {b : List ℕ} {m : Summary} (w : WasRead s b m) (j : ℕ) where
  pub line-missing : (k : ℕ) → refused k ≡ nth_line b j 8 → refused k ≡ asked s b (line_at j)
  line-missing k g =
      told s b w.bytes m w.summed (λ m. refused k ≡ asked s b (line_at j))
      (λ f t r i. rw (r, refused_inv k (nth (lines_at t) j) (λ r. (r.0, length r.1)) (g ∙ line-nth f b t j i)))

  pub line-found : (p n : ℕ) → accepted (p, n) ≡ nth_line b j 8 → accepted (kind_of (part_named b (accepted (p, n))), (p, n)) ≡ asked s b (line_at j)
  line-found p n g =
      told s b w.bytes m w.summed (λ m. accepted (kind_of (part_named b (accepted (p, n))), (p, n)) ≡ asked s b (line_at j))
      (λ f t r i.
      let q = next_inv (nth (lines_at t) j) (λ r. accepted (r.0, length r.1)) (sym (g ∙ line-nth f b t j i)) in
      line_row f t q.0.0 q.0.1 p n r i q.1 (accepted_inj q.2))
    where
      line_row : (f : Format) (t : Trace) (a : ℕ) (l : List ℕ) (p n : ℕ) → read s b ≡ accepted (f, t) → File f b t → nth (lines_at t) j ≡ accepted (a, l)
          → (a ≡ p) × (length l ≡ n) → accepted (kind_of (part_named b (accepted (p, n))), (p, n)) ≡ asked s b (line_at j)
      line_row f t a l p n r i g q =
          rw (← q.0, ← q.1, le-leb (a + length l) (length b) (line-within f b t i j a l g), line-is f b t i j a l g, r, g)

pub line-place_of : (s : Settings) (b : List ℕ) (j : ℕ) → next (asked s b (line_at j)) (λ r. accepted r.1) ≡ asked s b (line_place j)
line-place_of s b j = next_assoc (read s b) (λ r. line_at j r.0 r.1) (λ r. accepted r.1)
