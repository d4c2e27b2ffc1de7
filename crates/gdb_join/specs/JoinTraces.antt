-- The laws of a join on traces, and that a join keeps the layout.
-- Assumes nothing.
use Rattle.std.specs.Prelude.{◌≡◌, refl, Bool, true, false, ◌||◌, ℕ, ◌+◌, ◌≤◌, List, length}
use Rattle.std.proofs.Common.{ap, ap₂, ◌∙◌, le_refl, arith, append_assoc, append-nil, length-append, le-leb}
use Rattle.std.proofs.Math.Bool.{or-false}
use Rattle.refusals.specs.Refusal.{limit}
use Rattle.fields.specs.Lists.{concat_map, concat_map-append, each_append}
use Rattle.fields.specs.Word.{bytes_same}
use Rattle.fields.specs.Answer.{accepted}
use Rattle.gdb_format.specs.Trace.{Trace, trace_of, opening, put_frame, put_mark, encode}
use Rattle.gdb_format.specs.Lines.{register_size}
use Rattle.gdb_format.specs.Layout.{FrameFits, Layout}
use Rattle.gdb_format.specs.Settings.{settings_of}
use Rattle.gdb_format.specs.declared.Settings.{Settings}
use Rattle.gdb_format.specs.declared.Format.{Format}
use Rattle.gdb_read.specs.Steps.{length-encode}
use Rattle.gdb_frames.specs.File.{File, read-file}
use Rattle.gdb_join.specs.Join.{join, bare, join_of}

or_assoc : (a b c : Bool) → (a || b) || c ≡ a || (b || c)
or_assoc true b c = refl
or_assoc false b c = refl

pub join_assoc : (t u v : Trace) → join (join t u) v ≡ join t (join u v)
join_assoc t u v =
    ap₂ (trace_of t.lines) (append_assoc t.frames u.frames v.frames) (or_assoc t.marked u.marked v.marked)

pub join-bare : (t : Trace) → join t (bare t) ≡ t
join-bare t = ap₂ (trace_of t.lines) (append-nil t.frames) (or-false t.marked)

-- how long a join is: the mark counts once
pub length-join : (f : Format) (t u : Trace) → length (encode f (join t u))
    ≡ length (opening t.lines) + (length (concat_map (put_frame f) t.frames) + length (concat_map (put_frame f) u.frames))
    + length (put_mark (t.marked || u.marked))
length-join f t u =
    length-encode f (join t u)
    ∙ ap (λ n. length (opening t.lines) + n + length (put_mark (t.marked || u.marked)))
    (ap length (concat_map-append (put_frame f) t.frames u.frames)
    ∙ length-append (concat_map (put_frame f) t.frames) (concat_map (put_frame f) u.frames))

second-mark : (a b : Bool) → length (put_mark b) ≤ length (put_mark (a || b))
second-mark true true = omega arith
second-mark true false = omega arith
second-mark false b = le_refl (length (put_mark b))

-- a join is no shorter than its second trace
pub join_longer : (f : Format) (t u : Trace) → t.lines ≡ u.lines → length (encode f u) ≤ length (encode f (join t u))
join_longer f t u e =
    omega (arith, length-encode f u, length-join f t u, ap (λ l. length (opening l)) e, second-mark t.marked u.marked)

pub layout_join : (f : Format) (t u : Trace) → Layout f t → Layout f u → t.lines ≡ u.lines → length (encode f (join t u)) ≤ limit → Layout f (join t u)
layout_join f t u h k e l =
    record {
      lines_fit = h.lines_fit;
      frames_fit = each_append (FrameFits f (register_size f t.lines)) t.frames u.frames h.frames_fit (rw e k.frames_fit);
      length-fits = l;
    }

pub encode-bare : (f : Format) (t : Trace) → encode f (bare t) ≡ opening t.lines
unfolding encode
encode-bare f t = append-nil (opening t.lines)

pub layout_bare : (f : Format) (t : Trace) → Layout f t → Layout f (bare t)
layout_bare f t h =
    record { lines_fit = h.lines_fit; frames_fit = tt; length-fits = rw encode-bare (omega (arith, h.length-fits, length-encode f t)) }

-- what a join of files that hold traces gives
pub join_call : (s : Settings) (f : Format) (ok : settings_of s ≡ accepted f) (a b : List ℕ) (t u : Trace) → File f a t → File f b u → t.lines ≡ u.lines
    → length (encode f (join t u)) ≤ limit → join_of s a b ≡ accepted (encode f (join t u))
unfolding join_of
join_call s f ok a b t u i j e l =
    rw (read-file s f a t ok i, read-file s f b u ok j, e, bytes_same (opening u.lines)) (rw (le-leb _ limit (rw e at l)))
