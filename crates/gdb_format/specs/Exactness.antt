-- A file is accepted exactly when it follows the layout.
-- Assumes nothing.
use Rattle.std.specs.Prelude.{◌≡◌, Bool, ◌↔◌, ℕ, ◌≤◌, List, ◌++◌, length, leb}
use Rattle.std.proofs.Common.{ap, ◌∙◌, subst, leb-true, le-leb}
use Rattle.refusals.specs.Refusal.{limit, too_long}
use Rattle.fields.specs.Lists.{concat_map, Each}
use Rattle.fields.specs.Number.{Bytes, bytes_back}
use Rattle.fields.specs.Answer.{Answer, accepted, next, accepted_inj, next_inv, cond_inv}
use Rattle.gdb_format.specs.Settings.{settings_of}
use Rattle.gdb_format.specs.Trace.{Frame, Trace, trace_of, put_frame, put_mark, opening, encode}
use Rattle.gdb_format.specs.Lines.{register_size}
use Rattle.gdb_format.specs.Layout.{LinesFit, FrameFits, Layout}
use Rattle.gdb_format.specs.Decode.{opening_lines, frames, trace, decode, read}
use Rattle.gdb_format.specs.ExactFrame.{frames-back, frames-forth}
use Rattle.gdb_format.specs.ExactLines.{exact_opening}
use Rattle.gdb_format.specs.declared.Settings.{Settings}
use Rattle.gdb_format.specs.declared.Format.{Format}

trace-back : (f : Format) (t : Trace) → Layout f t → trace f (encode f t) ≡ accepted t
unfolding encode trace
trace-back f t h =
    rw (
      (exact_opening f).back t.lines (concat_map (put_frame f) t.frames ++ put_mark t.marked) h.lines_fit,
      frames-back f (register_size f t.lines) t.frames t.marked h.frames_fit,
    )

made-forth : (f : Format) (b rest : List ℕ) (ls : List (List ℕ)) (fs : List Frame) (m : Bool) (t : Trace) → length b ≤ limit
    → LinesFit f ls × (opening ls ++ rest ≡ b) → Each (FrameFits f (register_size f ls)) fs × (concat_map (put_frame f) fs ++ put_mark m ≡ rest)
    → ◌≡◌ {A = Answer Trace} (accepted (trace_of ls fs m)) (accepted t) → Layout f t × (encode f t ≡ b)
unfolding encode
made-forth f b rest ls fs m t k l g e =
    let i : t ≡ trace_of ls fs m = cc in
    let w : opening ls ++ (concat_map (put_frame f) fs ++ put_mark m) ≡ b = rw g.1 l.1 in
    rw i (record { lines_fit = l.0; frames_fit = g.0; length-fits = rw w k }, w)

trace-forth : (f : Format) (b : List ℕ) (t : Trace) → Bytes b → length b ≤ limit → trace f b ≡ accepted t → Layout f t × (encode f t ≡ b)
unfolding trace
trace-forth f b t h k e =
    let s = next_inv (opening_lines f b) _ e in
    let ls = s.0.0 in
    let rest = s.0.1 in
    let u = next_inv (frames f (register_size f ls) rest) _ s.2 in
    let l = (exact_opening f).forth b ls rest h s.1 in
    made-forth f b rest ls u.0.0 u.0.1 t k l
    (frames-forth f (register_size f ls) rest u.0.0 u.0.1 (bytes_back (opening ls) rest (rw l.1 h)) u.1) u.2

-- what is laid out is read back
pub decode-encode : (f : Format) (t : Trace) → Layout f t → decode f (encode f t) ≡ accepted t
unfolding decode
decode-encode f t h = rw (le-leb (length (encode f t)) limit h.length-fits) (trace-back f t h)

-- A file is accepted, as the trace t, exactly when t follows the layout and the file is t laid out.
pub exactness : (f : Format) (b : List ℕ) (t : Trace) → Bytes b → (decode f b ≡ accepted t) ↔ (Layout f t × (encode f t ≡ b))
unfolding decode
exactness f b t h = (
  (λ e. let q = cond_inv (leb (length b) limit) (trace f b) too_long e in trace-forth f b t h (leb-true (length b) limit q.0) q.1),
  (λ l. subst (λ b. decode f b ≡ accepted t) l.1 (decode-encode f t l.0)),
)

-- The same under the caller's settings, which must name the format.
pub read_exactness : (s : Settings) (b : List ℕ) (f : Format) (t : Trace) → Bytes b
    → (read s b ≡ accepted (f, t)) ↔ ((settings_of s ≡ accepted f) × Layout f t × (encode f t ≡ b))
unfolding read
read_exactness s b f t h = (
  (λ e.
      let q = next_inv (settings_of s) (λ f. next (decode f b) (λ t. accepted (f, t))) e in
      let r = next_inv (decode q.0 b) (λ t. accepted (q.0, t)) q.2 in
      forth q.0 r.0 q.1 r.1 (accepted_inj r.2)),
  (λ l. rw (l.0, (exactness f b t h).1 (l.1, l.2))),
)
  where
    forth : (g : Format) (u : Trace) → settings_of s ≡ accepted g → decode g b ≡ accepted u → (g ≡ f) × (u ≡ t)
        → (settings_of s ≡ accepted f) × Layout f t × (encode f t ≡ b)
    forth g u e d i =
        let d' : decode f b ≡ accepted t = rw (i.0, i.1) at d in
        let l = (exactness f b t h).0 d' in
        (e ∙ ap accepted i.0, l.0, l.1)
