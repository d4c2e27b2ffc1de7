-- A join: on traces, and the bytes that it gives of two files.
-- Assumes nothing: these are definitions.
use Rattle.std.specs.Prelude.{false, cond, ◌||◌, ℕ, List, [], ◌++◌, length, leb}
use Rattle.refusals.specs.Refusal.{limit, too_long, openings_differ}
use Rattle.fields.specs.Word.{same_bytes}
use Rattle.fields.specs.Answer.{Answer, accepted, refused, next}
use Rattle.gdb_format.specs.Trace.{Trace, trace_of, opening, encode}
use Rattle.gdb_format.specs.Decode.{read}
use Rattle.gdb_format.specs.declared.Settings.{Settings}

-- ---- traces

-- the common opening, the first trace's frames, then the second's; one mark, at the end, exactly if either trace had one
abbrev pub join : Trace → Trace → Trace
join t u = trace_of t.lines (t.frames ++ u.frames) (t.marked || u.marked)

-- the *bare opening*: the opening alone, without frames; unmarked
abbrev pub bare : Trace → Trace
bare t = trace_of t.lines [] false

-- ---- the bytes of a join, where the output has room

abbrev pub within_limit : List ℕ → Answer (List ℕ)
within_limit b = cond (leb (length b) limit) (accepted b) (refused too_long)

-- 2; the first file's faults, length included; the second's; 13; 1 for the result (11 is in fields/specs/Output.antt)
unfoldable pub join_of : Settings → List ℕ → List ℕ → Answer (List ℕ)
unfolding encode opening
join_of s a b =
    next (read s a) (λ p. next (read s b) (λ q.
    cond (same_bytes (opening p.1.lines) (opening q.1.lines)) (within_limit (encode p.0 (join p.1 q.1))) (refused openings_differ)))
