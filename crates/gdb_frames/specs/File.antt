-- A file that was accepted, and its trace: where the opening's lines and the frames stand, and what the whole reading's answer tells.
-- Assumes nothing.
use Rattle.std.specs.Prelude.{◌≡◌, ℕ, ◌+◌, ◌-◌, ◌≤◌, length, take, drop, get_or}
use Rattle.std.proofs.Math.Path.{refl, sym, ap}
use Rattle.std.proofs.Common.{◌∙◌, subst, arith, length-append, Fits}
use mathlib.Core.List.{List, [], ◌∷◌, ◌++◌, append_assoc, append-nil}
use Rattle.std.specs.Int.{w8}
use Rattle.std.proofs.Math.Seq.{take_at, drop_at}
use Rattle.fields.specs.Lists.{concat_map}
use Rattle.fields.specs.Number.{Bytes}
use Rattle.fields.specs.Answer.{Answer, accepted, refused, next_inv, refused_inv, accepted-one, accepted_inj}
use Rattle.gdb_format.specs.Trace.{Trace, unmarked, opening, put_line, put_frame, put_mark, encode}
use Rattle.gdb_format.specs.Layout.{LinesFit, Layout}
use Rattle.gdb_format.specs.Settings.{settings_of}
use Rattle.gdb_format.specs.Decode.{opening_lines, decode, read}
use Rattle.gdb_format.specs.ExactLines.{exact_opening}
use Rattle.gdb_format.specs.Exactness.{decode-encode, read_exactness}
use Rattle.gdb_format.specs.declared.Settings.{Settings}
use Rattle.gdb_format.specs.declared.Format.{Format}
use Rattle.fields.specs.Given.{bytes-given, at_case}
use Rattle.gdb_read.specs.Steps.{frames_end, length-encode, Summary, summary_of, read_seen, opened_meaning, reading_meaning}
use Rattle.gdb_read.specs.declared.Opened.{Opened}
use Rattle.std.specs.Prelude.{Result, Ok}
use Rattle.refusals.specs.declared.Refusal.{Refusal}
use Rattle.gdb_frames.specs.Questions.{asked, frame_count, end_mark}

-- ---- a file and its trace

pub record File (f : Format) (b : List ℕ) (t : Trace) : Type 0 where
  pub fits : Layout f t
  pub laid_out : encode f t ≡ b

module _ (f : Format) (b : List ℕ) (t : Trace) (i : File f b t) where
  -- behind the opening stand the frames and the mark, if any
  pub frames-behind : drop (length (opening t.lines)) b ≡ concat_map (put_frame f) t.frames ++ put_mark t.marked
  unfolding encode
  frames-behind =
      ap (drop (length (opening t.lines))) (sym i.laid_out)
      ∙ drop_at (opening t.lines) (concat_map (put_frame f) t.frames ++ put_mark t.marked) (length (opening t.lines)) refl

  -- the frames, from where they start to where they end
  pub frames-part : take (frames_end f t - length (opening t.lines)) (drop (length (opening t.lines)) b) ≡ concat_map (put_frame f) t.frames
  frames-part =
      let n = frames_end f t - length (opening t.lines) in
      ap (take n) frames-behind ∙ take_at (concat_map (put_frame f) t.frames) (put_mark t.marked) n (omega arith)

  -- opening and frames, and the mark behind them
  in_two : (opening t.lines ++ concat_map (put_frame f) t.frames) ++ put_mark t.marked ≡ b
  unfolding encode
  in_two = append_assoc (opening t.lines) (concat_map (put_frame f) t.frames) (put_mark t.marked) ∙ i.laid_out

  front_long : length (opening t.lines ++ concat_map (put_frame f) t.frames) ≡ frames_end f t
  front_long = length-append (opening t.lines) (concat_map (put_frame f) t.frames)

  pub mark-behind : drop (frames_end f t) b ≡ put_mark t.marked
  mark-behind =
      ap (drop (frames_end f t)) (sym in_two)
      ∙ drop_at (opening t.lines ++ concat_map (put_frame f) t.frames) (put_mark t.marked) (frames_end f t) front_long

  pub frames-front : take (frames_end f t) b ≡ opening t.lines ++ concat_map (put_frame f) t.frames
  frames-front =
      ap (take (frames_end f t)) (sym in_two)
      ∙ take_at (opening t.lines ++ concat_map (put_frame f) t.frames) (put_mark t.marked) (frames_end f t) front_long

  pub frames_last : frames_end f t + length (put_mark t.marked) ≡ length b
  frames_last = sym (length-encode f t) ∙ ap length i.laid_out

  pub start-within : length (opening t.lines) ≤ length b
  start-within = omega (arith, frames_last)

  -- a file starts with its opening
  pub opening-front : take (length (opening t.lines)) b ≡ opening t.lines
  unfolding encode
  opening-front =
      let o = opening t.lines in
      ap (take (length o)) (sym i.laid_out) ∙ take_at o (concat_map (put_frame f) t.frames ++ put_mark t.marked) (length o) refl

  pub lines-behind : drop 8 b ≡ concat_map put_line t.lines ++ 0x0A ∷ (concat_map (put_frame f) t.frames ++ put_mark t.marked)
  unfolding opening encode
  lines-behind =
      ap (drop 8) (sym i.laid_out)
      ∙ append_assoc (concat_map put_line t.lines) (0x0A ∷ []) (concat_map (put_frame f) t.frames ++ put_mark t.marked)

  -- up to where the frames end it is a file of these frames without a mark
  pub front-file : File f (take (frames_end f t) b) (unmarked t)
  unfolding encode
  front-file = record {
    fits = record {
      lines_fit = i.fits.lines_fit;
      frames_fit = i.fits.frames_fit;
      length-fits = omega (arith, i.fits.length-fits, length-encode f t, length-encode f (unmarked t));
    };
    laid_out = ap (λ x. opening t.lines ++ x) (append-nil (concat_map (put_frame f) t.frames)) ∙ sym frames-front;
  }

-- nothing stands behind the frames of a file without a mark
pub frames_alone : (f : Format) (b : List ℕ) (t : Trace) → File f b (unmarked t)
    → drop (length (opening t.lines)) b ≡ concat_map (put_frame f) t.frames
frames_alone f b t i = frames-behind f b (unmarked t) i ∙ append-nil (concat_map (put_frame f) t.frames)

pub file_of_lem : (s : Settings) (b : List ℕ) (f : Format) (t : Trace) → Bytes b → read s b ≡ accepted (f, t) → File f b t
file_of_lem s b f t h e = let l = (read_exactness s b f t h).0 e in record { fits = l.1; laid_out = l.2 }

-- a file is read as the trace that it holds
pub decode-file : (f : Format) (b : List ℕ) (t : Trace) → File f b t → decode f b ≡ accepted t
decode-file f b t i = ap (decode f) (sym i.laid_out) ∙ decode-encode f t i.fits

pub read-file : (s : Settings) (f : Format) (b : List ℕ) (t : Trace) → settings_of s ≡ accepted f → File f b t → read s b ≡ accepted (f, t)
unfolding read
read-file s f b t ok i = rw (ok, decode-file f b t i)

-- identical openings are identical lines
pub same_lines : (f : Format) (ls ms : List (List ℕ)) → LinesFit f ls → LinesFit f ms → opening ls ≡ opening ms → ls ≡ ms
same_lines f ls ms h k e =
    (accepted_inj (sym ((exact_opening f).back ls [] h) ∙ ap (λ b. opening_lines f (b ++ [])) e ∙ (exact_opening f).back ms [] k)).0

-- what the whole reading's answer tells
pub summary_inv : (m : Summary) (x : Answer (Format × Trace)) → accepted m ≡ read_seen x
    → (r : Format × Trace) × (x ≡ accepted r) × (summary_of r.0 r.1 ≡ m)
summary_inv m x e = let q = next_inv x (λ r. accepted (summary_of r.0 r.1)) (sym e) in (q.0, q.1, accepted-one q.2)

-- ---- what the reading's answer is for every question

pub asked-refused : {B : Type 0} (s : Settings) (b : List ℕ) (q : Format → Trace → Answer B) (n : ℕ) → refused n ≡ read_seen (read s b) → refused n ≡ asked s b q
asked-refused s b q n e = rw (refused_inv n (read s b) (λ r. summary_of r.0 r.1) e)

-- a file that was read whole, with what the reading told
pub record WasRead (s : Settings) (b : List ℕ) (m : Summary) : Type 0 where
  pub bytes : Bytes b
  pub summed : accepted m ≡ read_seen (read s b)

-- as a place of a proof hands it over: the lent bytes, the case that the reading's answer is, and what its contract says
pub read-given : {s : Settings} {b : List ℕ} {o : Opened} {r : Result Opened Refusal} → ((i : ℕ) → Fits w8 (get_or b i 0)) → r ≡ Ok o
    → reading_meaning r ≡ read_seen (read s b) → WasRead s b (opened_meaning o)
read-given {b = b} h e k = record { bytes = bytes-given b h; summed = at_case reading_meaning e k }

-- a fact of what was read, told of the answer
module _ (s : Settings) (b : List ℕ) (h : Bytes b) (m : Summary) (e : accepted m ≡ read_seen (read s b)) where
  pub told : (P : Summary → Type 0) → ((f : Format) (t : Trace) → read s b ≡ accepted (f, t) → File f b t → P (summary_of f t)) → P m
  told P g =
      let q = summary_inv m (read s b) e in
      subst P q.2 (g q.0.0 q.0.1 q.1 (file_of_lem s b q.0.0 q.0.1 h q.1))

  pub count-told : accepted m.frames ≡ asked s b frame_count
  count-told = told (λ m. accepted m.frames ≡ asked s b frame_count) (λ f t r i. rw r)

  pub mark-told : accepted m.marked ≡ asked s b end_mark
  mark-told = told (λ m. accepted m.marked ≡ asked s b end_mark) (λ f t r i. rw r)

-- a fact of the file up to where its frames end, told of the bytes that a walk is given
pub told-front : {s : Settings} {b d : List ℕ} {m : Summary} → WasRead s b m → d ≡ take m.end b → (P : List ℕ → Summary → Type 0)
    → ((f : Format) (t : Trace) (d : List ℕ) → read s b ≡ accepted (f, t) → File f d (unmarked t) → P d (summary_of f t)) → P d m
told-front {s} {b} {d} {m} w e P g =
    subst (λ d. P d m) (sym e)
    (told s b w.bytes m w.summed (λ m. P (take m.end b) m) (λ f t r i. g f t (take (frames_end f t) b) r (front-file f b t i)))
