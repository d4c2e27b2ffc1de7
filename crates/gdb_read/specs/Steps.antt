-- What the walk's steps and the whole reading answer, in the paper's terms.
-- Assumes nothing.
use Rattle.std.specs.Prelude.{Bool, ◌≡◌, ℕ, ◌+◌, List, ◌++◌, length}
use Rattle.std.specs.Prelude.{Result}
use Rattle.std.specs.Prelude.{Option as Optional}
use Rattle.std.proofs.Math.Option.{Option}
use Rattle.std.proofs.Common.{arith, length-append}
use Rattle.fields.specs.Lists.{concat_map}
use Rattle.refusals.specs.declared.Refusal.{Refusal}
use Rattle.fields.specs.Answer.{Answer, accepted, next}
use Rattle.fields.specs.Meaning.{answer_by, held_by}
use Rattle.gdb_format.specs.Trace.{Frame, Trace, opening, head_in, put_frame, put_mark, encode}
use Rattle.gdb_format.specs.Lines.{register_size}
use Rattle.gdb_format.specs.Decode.{frames}
use Rattle.gdb_format.specs.Opening.{size_meaning}
use Rattle.gdb_format.specs.declared.Format.{Format}
use Rattle.gdb_read.specs.declared.FrameHead.{FrameHead}
use Rattle.gdb_read.specs.declared.FrameStep.{FrameStep}
use Rattle.gdb_read.specs.declared.FrameCount.{FrameCount}
use Rattle.gdb_read.specs.declared.Opened.{Opened}

-- ---- frames

-- what a frame shows: its tracepoint number, the place of its data, and their size
pub record Row : Type 0 where
  pub tracepoint : ℕ
  pub place : ℕ
  pub size : ℕ

-- of a head that stands at `at`, with its data
abbrev pub head_seen : ℕ → ℕ × List ℕ → Row
head_seen at h = record { tracepoint = h.0; place = at + 6; size = length h.1 }

abbrev pub frame_seen : Format → ℕ → Frame → Row
frame_seen f at r = head_seen at (head_in f r)

-- what `FrameHead` and `FrameStep` say
abbrev pub head_meaning : FrameHead → Row
head_meaning h = record { tracepoint = h.tracepoint; place = h.place; size = h.size }

abbrev pub frame_meaning : Result (Optional FrameStep) Refusal → Answer (Option (Row × ℕ))
frame_meaning r = answer_by (held_by (λ s. (head_meaning s.head, s.next))) r

-- the number of frames, and whether the end mark stands behind them
abbrev pub frames_meaning : Result FrameCount Refusal → Answer (ℕ × Bool)
frames_meaning r = answer_by (λ c. (c.count, c.marked)) r

abbrev pub frames_counted : Format → Option ℕ → List ℕ → Answer (ℕ × Bool)
frames_counted f size b = next (frames f size b) (λ q. accepted (length q.0, q.1))

-- ---- the whole file

-- the place where the frames end
abbrev pub frames_end : Format → Trace → ℕ
frames_end f t = length (opening t.lines) + length (concat_map (put_frame f) t.frames)

-- behind it stands the mark, if any
pub length-encode : (f : Format) (t : Trace) → length (encode f t) ≡ frames_end f t + length (put_mark t.marked)
unfolding encode
length-encode f t =
    omega (
      arith,
      length-append (opening t.lines) (concat_map (put_frame f) t.frames ++ put_mark t.marked),
      length-append (concat_map (put_frame f) t.frames) (put_mark t.marked),
    )

-- what a reading tells: the format, the register size or none, the places where frames start and end, the number of frames, and whether the end mark is there
pub record Summary : Type 0 where
  pub format : Format
  pub size : Option ℕ
  pub start : ℕ
  pub end : ℕ
  pub frames : ℕ
  pub marked : Bool

abbrev pub summary_of : Format → Trace → Summary
summary_of f t =
    record {
      format = f;
      size = register_size f t.lines;
      start = length (opening t.lines);
      end = frames_end f t;
      frames = length t.frames;
      marked = t.marked;
    }

abbrev pub summary_in : Format → Answer Trace → Answer Summary
summary_in f x = next x (λ t. accepted (summary_of f t))

abbrev pub read_seen : Answer (Format × Trace) → Answer Summary
read_seen x = next x (λ r. accepted (summary_of r.0 r.1))

-- what `Opened` says
abbrev pub opened_meaning : Opened → Summary
opened_meaning o =
    record { format = o.layout.format; size = size_meaning o.layout.size; start = o.start; end = o.end; frames = o.frames; marked = o.marked }

abbrev pub reading_meaning : Result Opened Refusal → Answer Summary
reading_meaning r = answer_by opened_meaning r
