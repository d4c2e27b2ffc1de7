-- The same of lines and of the data of frames: at the place and of the length that are answered stand the line's own bytes, or the frame's own data.
-- Assumes nothing.
use Rattle.std.specs.Prelude.{◌≡◌, ℕ, ◌+◌, List, length, take, drop, refl}
use Rattle.std.proofs.Common.{sym, ap, ◌∙◌}
use Rattle.fields.specs.Lists.{part-front}
use Rattle.fields.specs.Number.{Bytes}
use Rattle.fields.specs.Answer.{Answer, accepted, refused, next}
use Rattle.fields.specs.Element.{nth}
use Rattle.gdb_format.specs.Trace.{Frame, Trace, opening, put_line, put_frame, data_of}
use Rattle.gdb_format.specs.Lines.{kind_of}
use Rattle.gdb_format.specs.declared.Settings.{Settings}
use Rattle.gdb_format.specs.declared.Format.{Format}
use Rattle.gdb_format.specs.declared.LineKind.{LineKind}
use Rattle.gdb_read.specs.Steps.{frame_seen}
use Rattle.gdb_frames.specs.Places.{lines_at, frames_at}
use Rattle.gdb_frames.specs.Questions.{asked, data_in, frame_data, line_place}
use Rattle.gdb_frames.specs.File.{File}
use Rattle.gdb_frames.specs.PlaceLaws.{placed-nth, placed-is, frame-within, data_there, line-is}
use Rattle.gdb_blocks.specs.Held.{mapped, named, with_length}
use Rattle.gdb_blocks.specs.ShownLaws.{asked-mapped}

-- line j, without its 0A; the data of frame n
abbrev pub line_held : ℕ → Format → Trace → Answer (List ℕ)
line_held j f t = nth t.lines j

abbrev pub data_held : ℕ → Format → Trace → Answer (List ℕ)
data_held n f t = next (nth t.frames n) (λ r. accepted (data_of f r))

module _ (f : Format) (b : List ℕ) (t : Trace) (i : File f b t) where
  line-named : (j : ℕ) → mapped (named b) (line_place j f t) ≡ mapped with_length (line_held j f t)
  line-named j = by (nth (lines_at t) j) refl
    where
      by : (x : Answer (ℕ × List ℕ)) → nth (lines_at t) j ≡ x
          → mapped (named b) (next {A = LineKind × (ℕ × ℕ)} (next x (λ r. accepted (kind_of r.1, (r.0, length r.1)))) (λ r. accepted r.1))
          ≡ mapped with_length (line_held j f t)
      by (accepted r) e =
          ap (λ z. accepted (length r.1, z)) (line-is f b t i j r.0 r.1 e)
          ∙ sym (ap (mapped with_length) (placed-is put_line t.lines 8 j r.0 r.1 e))
      by (refused k) e = sym (ap (mapped with_length) (sym (placed-nth put_line t.lines 8 j) ∙ ap (λ y. next y (λ r. accepted r.1)) e))

  data_named : (n : ℕ) → mapped (named b) (frame_data n f t) ≡ mapped with_length (data_held n f t)
  data_named n = by (nth (frames_at f t) n) refl
    where
      from : ℕ
      from = length (opening t.lines)

      held : Answer Frame → Answer (ℕ × List ℕ)
      held y = mapped with_length (next y (λ r. accepted (data_of f r)))

      by : (x : Answer (ℕ × Frame)) → nth (frames_at f t) n ≡ x
          → mapped (named b) (next (next x (λ r. accepted (frame_seen f r.0 r.1))) (λ v. accepted (data_in v))) ≡ mapped with_length (data_held n f t)
      by (accepted r) e =
          let d = data_of f r.1 in
          let w = frame-within f b t i n r.0 r.1 e in
          let there : take (length d) (drop (r.0 + 6) b) ≡ d = sym (part-front b (r.0 + 6) (length d) w) ∙ data_there f b t i n r.0 r.1 e in
          ap (λ z. accepted (length d, z)) there ∙ sym (ap held (placed-is (put_frame f) t.frames from n r.0 r.1 e))
      by (refused k) e = sym (ap held (sym (placed-nth (put_frame f) t.frames from n) ∙ ap (λ y. next y (λ r. accepted r.1)) e))

-- ---- an answer and what the trace holds are one, refusals too

module _ (s : Settings) (b : List ℕ) (h : Bytes b) where
  pub line_shown : (j : ℕ) → mapped (named b) (asked s b (line_place j)) ≡ mapped with_length (asked s b (line_held j))
  line_shown j = asked-mapped s b h (line_place j) (line_held j) (named b) with_length (λ f t i. line-named f b t i j)

  pub data_shown : (n : ℕ) → mapped (named b) (asked s b (frame_data n)) ≡ mapped with_length (asked s b (data_held n))
  data_shown n = asked-mapped s b h (frame_data n) (data_held n) (named b) with_length (λ f t i. data_named f b t i n)
