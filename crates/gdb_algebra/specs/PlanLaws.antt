-- A plan whose premises hold goes through, and leaves the file of the trace that it stands for. So plans of one trace leave the same bytes.
-- Assumes nothing.
use Rattle.std.specs.Prelude.{◌≡◌, refl, true, false, ℕ, ◌+◌, ◌≤◌, drop}
use Rattle.std.proofs.Math.Path.{sym, subst}
use Rattle.std.proofs.Common.{ap, ◌∙◌, arith, take_at, le-leb}
use mathlib.Core.List.{List, [], ◌∷◌, ◌++◌}
use Rattle.std.proofs.Math.ListN.{length, length-append}
use Rattle.refusals.specs.Refusal.{limit}
use Rattle.fields.specs.Number.{Bytes, bytes-front}
use Rattle.fields.specs.Answer.{Answer, accepted, refused, next}
use Rattle.fields.specs.Output.{fitting, over, answer, exit}
use Rattle.gdb_format.specs.Trace.{trace_of, opening, mark, encode}
use Rattle.gdb_format.specs.Settings.{settings_of}
use Rattle.gdb_format.specs.Decode.{read}
use Rattle.gdb_format.specs.Exactness.{read_exactness}
use Rattle.gdb_format.specs.declared.Settings.{Settings}
use Rattle.gdb_format.specs.declared.Format.{Format}
use Rattle.gdb_frames.specs.File.{File, file_of_lem, read-file}
use Rattle.gdb_select.specs.Selection.{meaning}
use Rattle.gdb_cut.specs.Cut.{cut, cut_of}
use Rattle.gdb_cut.specs.CutLaws.{layout_cut, cut_call}
use Rattle.gdb_join.specs.Join.{join, bare, join_of}
use Rattle.gdb_join.specs.JoinTraces.{layout_join, layout_bare, encode-bare, join_call}
use Rattle.gdb_algebra.specs.Plan.{Plan, file, cutting, joining, value, up_to, IsWritten, HasRoom, bare_opening, marked_opening}
use Rattle.gdb_algebra.specs.Plan.{result, returned, Done, Same, Given, JoinsFit, OutputsFit}

-- ---- one call

-- a call with room gives all its bytes, and the output up to the returned length is those
result-written : (x : Answer (List ℕ)) (out c : List ℕ) → x ≡ accepted c → HasRoom x out → IsWritten (answer x out) × (up_to (answer x out) (exit x out) ≡ c)
result-written x out c e h = rw (e, le-leb (length c) (length out) (h c e)) (tt, take_at c (drop (length c) out) (length c) refl)

-- a call that is not refused returns the length of what it leaves
answers-length : (x : Answer (List ℕ)) (out : List ℕ) → IsWritten (answer x out) → answer x out ≡ accepted (length (up_to (answer x out) (exit x out)))
answers-length x out = by (fitting (length out) x)
  where
    by : (y : Answer (List ℕ)) → let r = next y (λ c. accepted (length c)) in IsWritten r → r ≡ accepted (length (up_to r (over out y)))
    by (accepted c) w = ap (λ l. accepted (length l)) (sym (take_at c (drop (length c) out) (length c) refl))
    by (refused n) w = absurd w

-- the returned length is the length of the result, for cuts and joins
pub returns_length : (s : Settings) (p : Plan) → Done s p → returned s p ≡ accepted (length (result s p))
unfolding result returned Done
returns_length s (file b t) d = refl
returns_length s (cutting c out p) d = answers-length (cut_of s c (result s p)) out d.1
returns_length s (joining out p q) d = answers-length (join_of s (result s p) (result s q)) out d.2

-- ---- plans

-- a plan that went through and left the file of its trace
pub record Runs (s : Settings) (f : Format) (p : Plan) : Type 0 where
  pub done : Done s p
  pub held : File f (result s p) (value p)

pub same-value : (s : Settings) (f : Format) (p q : Plan) → value p ≡ value q → Runs s f p → Runs s f q → Same s p q
same-value s f p q e r v =
    let b : result s p ≡ result s q = sym r.held.laid_out ∙ ap (encode f) e ∙ v.held.laid_out in
    let n = returns_length s p r.done ∙ ap (λ l. accepted (length l)) b ∙ sym (returns_length s q v.done) in
    (r.done, v.done, n, b)

mark-bytes : (b : List ℕ) → Bytes b → Bytes (b ++ mark)
mark-bytes [] h = (omega arith, (omega arith, (omega arith, (omega arith, tt))))
mark-bytes (x ∷ b) h = (h.0, mark-bytes b h.1)

module _ (s : Settings) (f : Format) (ls : List (List ℕ)) where
  -- what a given plan tells before a call is made: the settings are good, and the trace has the lines
  settled : (p : Plan) → Given s f ls p → settings_of s ≡ accepted f
  settled (file b t) g = ((read_exactness s b f t g.0).0 g.1).0
  settled (cutting c out p) g = settled p g.0
  settled (joining out p q) g = settled p g.0

  pub lines_of : (p : Plan) → Given s f ls p → (value p).lines ≡ ls
  lines_of (file b t) g = g.2
  lines_of (cutting c out p) g = lines_of p g.0
  lines_of (joining out p q) g = lines_of p g.0

  pub runs : (p : Plan) → Given s f ls p → JoinsFit f p → OutputsFit s p → Runs s f p
  unfolding result returned Done
  runs (file b t) g j o = record { done = tt; held = file_of_lem s b f t g.0 g.1 }
  runs (cutting c out p) g j o =
      let r = runs p g.0 j o.0 in
      let e = cut_call s f (settled p g.0) c (result s p) (value p) g.1 r.held in
      let w = result-written (cut_of s c (result s p)) out (encode f (cut (meaning c) (value p))) e o.1 in
      record { done = (r.done, w.0); held = record { fits = layout_cut f (meaning c) (value p) r.held.fits; laid_out = sym w.1 } }
  runs (joining out p q) g j o =
      let r = runs p g.0 j.0 o.0 in
      let v = runs q g.1 j.1 o.1 in
      let l : (value p).lines ≡ (value q).lines = lines_of p g.0 ∙ sym (lines_of q g.1) in
      let e = join_call s f (settled p g.0) (result s p) (result s q) (value p) (value q) r.held v.held l j.2 in
      let w = result-written (join_of s (result s p) (result s q)) out (encode f (join (value p) (value q))) e o.2 in
      record {
        done = (r.done, v.done, w.0);
        held = record { fits = layout_join f (value p) (value q) r.held.fits v.held.fits l j.2; laid_out = sym w.1 };
      }

  -- the bare opening of given traces is itself an accepted trace with these lines
  pub bare-given : (p : Plan) → Given s f ls p → Given s f ls (bare_opening ls)
  unfolding encode
  bare-given (file b t) g =
      let q = file_of_lem s b f t g.0 g.1 in
      let ok = settled (file b t) g in
      subst (λ l. Bytes (opening l) × (read s (opening l) ≡ accepted (f, trace_of l [] false)) × (l ≡ ls)) g.2 (
        bytes-front (opening t.lines) _ (subst Bytes (sym q.laid_out) g.0),
        read-file s f (opening t.lines) (bare t) ok (record { fits = layout_bare f t q.fits; laid_out = encode-bare f t }),
        g.2,
      )
  bare-given (cutting c out p) g = bare-given p g.0
  bare-given (joining out p q) g = bare-given p g.0

  -- and so is the same with a mark, where that is not too long
  pub marked_given : (p : Plan) → Given s f ls p → length (opening ls) + 4 ≤ limit → Given s f ls (marked_opening ls)
  unfolding encode
  marked_given (file b t) g l =
      let q = file_of_lem s b f t g.0 g.1 in
      let ok = settled (file b t) g in
      let o = opening t.lines in
      let n : length o + 4 ≤ limit = rw g.2 l in
      subst (λ l. Bytes (opening l ++ mark) × (read s (opening l ++ mark) ≡ accepted (f, trace_of l [] true)) × (l ≡ ls)) g.2 (
        mark-bytes o (bytes-front o _ (subst Bytes (sym q.laid_out) g.0)),
        read-file s f (o ++ mark) (trace_of t.lines [] true) ok (record {
          fits = record { lines_fit = q.fits.lines_fit; frames_fit = tt; length-fits = omega (arith, n, length-append o mark) };
          laid_out = refl;
        }),
        g.2,
      )
  marked_given (cutting c out p) g l = marked_given p g.0 l
  marked_given (joining out p q) g l = marked_given p g.0 l
