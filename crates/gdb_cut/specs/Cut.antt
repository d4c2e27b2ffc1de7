-- A cut: on traces, and the bytes that it gives of a file.
-- Assumes nothing: these are definitions.
use Rattle.std.specs.Prelude.{Bool, cond, ℕ, List, [], ◌∷◌}
use Rattle.fields.specs.Answer.{Answer, accepted, next}
use Rattle.gdb_format.specs.Trace.{Frame, Trace, with_frames, encode}
use Rattle.gdb_format.specs.Decode.{read}
use Rattle.gdb_format.specs.declared.Settings.{Settings}
use Rattle.gdb_select.specs.Selection.{Selection, selects, selection_of}
use Rattle.gdb_select.specs.declared.Selection as lent

-- ---- traces

abbrev pub filter : {A : Type 0} → (A → Bool) → List A → List A
filter p [] = []
filter p (x ∷ xs) = cond (p x) (x ∷ filter p xs) (filter p xs)

abbrev pub picks : Selection → Frame → Bool
picks c r = selects c r.tracepoint

-- the opening, then every selected frame, bytes and order unchanged; the mark is kept
abbrev pub cut : Selection → Trace → Trace
cut c t = with_frames t (filter (picks c) t.frames)

-- ---- the bytes of a cut, where the output has room

unfoldable pub cut_of : Settings → lent.Selection → List ℕ → Answer (List ℕ)
unfolding encode
cut_of s sel b = next (selection_of sel) (λ c. next (read s b) (λ r. accepted (encode r.0 (cut c r.1))))
