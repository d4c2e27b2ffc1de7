-- Of an accepted file the answer is the one that the whole reading gives, refusal 12 too.
-- Assumes nothing.
use Rattle.std.specs.Prelude.{◌≡◌, refl, ℕ, ◌+◌, ◌≤◌, List, ◌++◌, take}
use Rattle.std.proofs.Common.{sym, ap, ◌∙◌, add-one, take_at, le-leb}
use Rattle.std.proofs.Math.Option.{Option}
use Rattle.std.proofs.Math.ListN.{length}
use Rattle.refusals.specs.Refusal.{limit}
use Rattle.fields.specs.Lists.{concat_map, each_map}
use Rattle.fields.specs.Number.{Bytes}
use Rattle.fields.specs.Answer.{Answer, accepted, refused, next}
use Rattle.fields.specs.Element.{nth, each-nth}
use Rattle.gdb_format.specs.Trace.{Frame, Trace, opening, head_in, put_frame, put_mark, data_of, encode}
use Rattle.gdb_format.specs.Lines.{register_size}
use Rattle.gdb_format.specs.Layout.{FrameFits}
use Rattle.gdb_format.specs.Decode.{read}
use Rattle.gdb_format.specs.Exactness.{read_exactness}
use Rattle.gdb_format.specs.declared.Settings.{Settings}
use Rattle.gdb_format.specs.declared.Format.{Format}
use Rattle.gdb_read.specs.Steps.{Row, frame_seen}
use Rattle.gdb_frames.specs.Places.{frames_at, part}
use Rattle.gdb_frames.specs.Questions.{frame_row, data_in, frame_data}
use Rattle.gdb_frames.specs.File.{File, file_of_lem, frames-behind}
use Rattle.gdb_frames.specs.PlaceLaws.{placed-is, data_behind}
use Rattle.gdb_seek.specs.Walk.{walk_to}
use Rattle.gdb_seek.specs.Found.{found_behind, found_in, frame_found}
use Rattle.gdb_seek.specs.Openings.{Opens, opened}
use Rattle.gdb_seek.specs.Heads.{walk_laid}
use Rattle.gdb_seek.specs.Stands.{heads-read, blocks_of}

-- with the number of heads read, n + 1
abbrev pub counted : ℕ → Answer (ℕ × ℕ) → Answer ((ℕ × ℕ) × ℕ)
counted n x = next x (λ d. accepted (d, n + 1))

module _ (f : Format) (b : List ℕ) (t : Trace) (i : File f b t) (n : ℕ) where
  abbrev start : ℕ
  start = length (opening t.lines)

  abbrev size : Option ℕ
  size = register_size f t.lines

  -- the walk comes to what frame n shows
  walked : (walk_to f b n start).reached ≡ frame_row n f t
  walked =
      walk_laid f b (head_in f) n t.frames start (put_mark t.marked) (λ k. (t.marked, refl))
      (each_map (λ r g. (g.0, g.1, g.3)) t.frames i.fits.frames_fit) (frames-behind f b t i)

  behind-full : found_behind f b n t.lines ≡ counted n (frame_data n f t)
  behind-full = by (nth (frames_at f t) n) refl
    where
      by : (x : Answer (ℕ × Frame)) → nth (frames_at f t) n ≡ x
          → found_behind f b n t.lines ≡ counted n (next (next x (λ r. accepted (frame_seen f r.0 r.1))) (λ v. accepted (data_in v)))
      by (refused k) e = let none : (walk_to f b n start).reached ≡ refused k = walked ∙ ap (λ x. next x (λ r. accepted (frame_seen f r.0 r.1))) e in rw none
      by (accepted r) e =
          let v : Row = frame_seen f r.0 r.1 in
          let reach : (walk_to f b n start).reached ≡ accepted v = walked ∙ ap (λ x. next x (λ r. accepted (frame_seen f r.0 r.1))) e in
          let d = data_behind f b t i n r.0 r.1 e in
          let own : part b (accepted (data_in v)) ≡ data_of f r.1 =
          ap (take (length (data_of f r.1))) d.1 ∙ take_at (data_of f r.1) d.0 (length (data_of f r.1)) refl in
          let fits = each-nth (FrameFits f size) t.frames n r.1 i.fits.frames_fit (placed-is (put_frame f) t.frames start n r.0 r.1 e) in
          let q = blocks_of f size r.1 fits in
          rw (reach, own, q.1) (ap (λ k. accepted (data_in v, k)) (heads-read f b n start v reach ∙ sym (add-one n)))

  file-full : found_in f b n ≡ counted n (frame_data n f t)
  unfolding encode
  file-full =
      let o : Opens f b t.lines (concat_map (put_frame f) t.frames ++ put_mark t.marked) = record { fits = i.fits.lines_fit; laid_out = i.laid_out } in
      let short : length b ≤ limit = rw (← i.laid_out) i.fits.length-fits in
      rw (le-leb (length b) limit short, opened o) behind-full

-- the data of frame n of the trace that the file holds, and n + 1 heads
pub found-full : (s : Settings) (b : List ℕ) (f : Format) (t : Trace) (n : ℕ) → Bytes b → read s b ≡ accepted (f, t)
    → frame_found s b n ≡ counted n (frame_data n f t)
unfolding frame_found
found-full s b f t n h e = rw ((read_exactness s b f t h).0 e).0 (file-full f b t (file_of_lem s b f t h e) n)
