-- Demand 3, sentence by sentence, over the very definitions that the contracts of `cut` and `join` cite (`cut_of`, `join_of`, `answer`, `exit`).
--
--   "Take all traces accepted in one byte order with identical openings, and all selections A and B. Every cut and join here is demand 2's, as
--   document 01 writes it, called in that byte order. Each sentence below holds wherever every join in it is at most 64 MiB and each output has
--   room; no cut or join in it is then refused. Results are equal when their lengths and all bytes up to those lengths are."
--
-- and with C-11: "In demand 3 a cut by A then B ends in the mark, if any; the keep and drop lengths now add to the file, one opening and any mark;
-- the unit is the bare unmarked opening." Those three sentences stand below as they now read. With C-18: "Demand 3 holds for traces read under the same
-- settings": s, byte order and base, is that of every file and every call in a sentence.
--
-- A plan is a file or a cut or join of plans, each with its lent output (Plan.antt). `Given`, `JoinsFit` and `OutputsFit` are the premises: the traces and
-- selections, the limit at each join, the room at each call. Of two plans in a sentence the first's joins are to be within the limit; the second's then are.
-- `Done`: no call is refused. `result`: the output of the last call up to the returned length, `returned`. `Same`: nothing is refused, the results are equal.
-- That all openings are identical is said as: all traces have the lines ls. Accepted traces with identical openings have identical lines (`one-opening`).
-- Assumes nothing.
use Rattle.std.specs.Prelude.{◌≡◌, true, false, ◌&&◌, ℕ, ◌+◌, ◌<◌, ◌≤◌, List, ◌++◌, length}
use Rattle.std.proofs.Math.Path.{sym, ap}
use Rattle.std.proofs.Common.{ap₂, ◌∙◌, subst, arith, append_assoc, append-nil}
use Rattle.std.proofs.Math.Bool.{or-true}
use Rattle.refusals.specs.Refusal.{limit}
use Rattle.fields.specs.Lists.{concat_map}
use Rattle.fields.specs.Answer.{accepted}
use Rattle.gdb_format.specs.Trace.{Trace, trace_of, opening, put_frame, mark, put_mark, encode}
use Rattle.gdb_format.specs.Layout.{Layout}
use Rattle.gdb_format.specs.Decode.{decode}
use Rattle.gdb_format.specs.declared.Settings.{Settings}
use Rattle.gdb_format.specs.declared.Format.{Format}
use Rattle.gdb_read.specs.Steps.{length-encode}
use Rattle.gdb_frames.specs.File.{same_lines}
use Rattle.gdb_select.specs.Selection as meant
use Rattle.gdb_select.specs.Selection.{opposite, meaning, against}
use Rattle.gdb_cut.specs.Cut.{picks}
use Rattle.gdb_cut.specs.Cut.{filter, cut}
use Rattle.gdb_cut.specs.CutLaws.{filter-append, cut-cut, cut_comm, cut-lengths, cut-shorter}
use Rattle.gdb_join.specs.Join.{join, join_of}
use Rattle.gdb_join.specs.JoinTraces.{join_assoc, join-bare, join_longer}
use Rattle.gdb_algebra.specs.Plan.{Plan, file, cutting, joining, value, HasRoom, bare_opening, marked_opening}
use Rattle.gdb_algebra.specs.Plan.{result, returned, Done, Same, Given, JoinsFit, OutputsFit}
use Rattle.gdb_algebra.specs.PlanLaws.{Runs, lines_of, runs, same-value, bare-given, marked_given, returns_length}
use Rattle.gdb_algebra.specs.Standing.{frames_of, StandsIn, HoldsFrames, ExactlyOne, holds-frames, in_one}
use Rattle.gdb_select.specs.declared.Selection.{Selection}

-- a cut of a join, on traces
cut-join : (c : meant.Selection) (t u : Trace) → cut c (join t u) ≡ join (cut c t) (cut c u)
cut-join c t u = rw (filter-append (picks c) t.frames u.frames)

-- a mark is laid out behind all else
encode_marked : (f : Format) (t : Trace) → t.marked ≡ false → encode f (trace_of t.lines t.frames true) ≡ encode f t ++ mark
unfolding encode
encode_marked f t e =
    let fs = concat_map (put_frame f) t.frames in
    sym (append_assoc (opening t.lines) fs mark)
    ∙ ap (λ x. (opening t.lines ++ x) ++ mark) (sym (append-nil fs) ∙ ap (λ m. fs ++ put_mark m) (sym e))

-- identical openings are identical lines
pub one-opening : (f : Format) (t u : Trace) → Layout f t → Layout f u → opening t.lines ≡ opening u.lines → t.lines ≡ u.lines
one-opening f t u h k e = same_lines f t.lines u.lines h.lines_fit k.lines_fit e

-- "Of the cut by A and the cut by its opposite, each frame of the trace stands in exactly one, once and in file order, and neither holds any other frame.":
-- c is what A means, x the cut of p by A and y the cut by its opposite
pub record Parted (s : Settings) (f : Format) (c : meant.Selection) (p x y : Plan) : Type 0 where
  pub kept-done : Done s x
  pub dropped_done : Done s y
  pub in_exactly_one : (n : ℕ) → n < length (frames_of f (decode f (result s p)))
      → ExactlyOne (StandsIn f c (result s p) (result s x) n) (StandsIn f (opposite c) (result s p) (result s y) n)
  pub kept-holds : HoldsFrames f c (result s p) (result s x)
  pub dropped_holds : HoldsFrames f (opposite c) (result s p) (result s y)

-- "The lengths of these two cuts add to the file's length plus one opening" and any mark: the lengths of the results, which are the lengths returned
pub record LengthsAdd (s : Settings) (ls : List (List ℕ)) (p x y : Plan) : Type 0 where
  pub kept-returned : returned s x ≡ accepted (length (result s x))
  pub dropped_returned : returned s y ≡ accepted (length (result s y))
  pub add : length (result s x) + length (result s y) ≡ length (result s p) + length (opening ls) + length (put_mark (value p).marked)

module _ (s : Settings) (f : Format) (ls : List (List ℕ)) where
  -- "Cutting a join by A equals joining, in the same order, the cuts by A."
  module _ (p q : Plan) (a : Selection) (o₁ o₂ o₃ o₄ o₅ : List ℕ) where
    abbrev cut_of_join : Plan
    cut_of_join = cutting a o₁ (joining o₂ p q)

    abbrev join_of_cuts : Plan
    join_of_cuts = joining o₃ (cutting a o₄ p) (cutting a o₅ q)

    pub cut_of-join : Given s f ls cut_of_join → JoinsFit f cut_of_join → OutputsFit s cut_of_join → OutputsFit s join_of_cuts → Same s cut_of_join join_of_cuts
    cut_of-join g j x y =
        let e = cut-join (meaning a) (value p) (value q) in
        let l = subst (λ t. length (encode f t) ≤ limit) e (omega (arith, cut-shorter f (meaning a) (join (value p) (value q)), j.2)) in
        same-value s f cut_of_join join_of_cuts e (runs s f ls _ g j x) (runs s f ls _ ((g.0.0, g.1), (g.0.1, g.1)) (j.0, j.1, l) y)

  -- "Cutting by A then B equals cutting by B then A,"
  module _ (p : Plan) (a b : Selection) (o₁ o₂ o₃ o₄ : List ℕ) where
    abbrev cut_ab : Plan
    cut_ab = cutting b o₁ (cutting a o₂ p)

    abbrev cut_ba : Plan
    cut_ba = cutting a o₃ (cutting b o₄ p)

    pub cuts_commute : Given s f ls cut_ab → JoinsFit f cut_ab → OutputsFit s cut_ab → OutputsFit s cut_ba → Same s cut_ab cut_ba
    cuts_commute g j x y =
        let e = cut_comm (meaning a) (meaning b) (value p) in
        same-value s f cut_ab cut_ba e (runs s f ls _ g j x) (runs s f ls _ ((g.0.0, g.1), g.0.1) j y)

  -- "and both equal the opening followed by exactly the frames that A and B both select, in file order", and then the mark, if the trace has one
  module _ (p : Plan) (a b : Selection) (o₁ o₂ : List ℕ) where
    abbrev both_select : List ℕ
    both_select = concat_map (put_frame f) (filter (λ x. picks (meaning a) x && picks (meaning b) x) (value p).frames)

    pub cuts_both : let c = cutting b o₁ (cutting a o₂ p) in Given s f ls c → JoinsFit f c → OutputsFit s c
        → Done s c × (result s c ≡ opening ls ++ (both_select ++ put_mark (value p).marked))
    unfolding encode
    cuts_both g j x =
        let r = runs s f ls (cutting b o₁ (cutting a o₂ p)) g j x in
        let e = ap (encode f) (cut-cut (meaning a) (meaning b) (value p))
        ∙ ap (λ l. opening l ++ (both_select ++ put_mark (value p).marked)) (lines_of s f ls p g.0.0) in
        (r.done, sym r.held.laid_out ∙ e)

  -- "Joining is associative,"
  module _ (p q r : Plan) (o₁ o₂ o₃ o₄ : List ℕ) where
    abbrev left_first : Plan
    left_first = joining o₁ (joining o₂ p q) r

    abbrev right_first : Plan
    right_first = joining o₃ p (joining o₄ q r)

    pub join_associates : Given s f ls left_first → JoinsFit f left_first → OutputsFit s left_first → OutputsFit s right_first → Same s left_first right_first
    join_associates g j x y =
        let e = join_assoc (value p) (value q) (value r) in
        let l : length (encode f (join (value p) (join (value q) (value r)))) ≤ limit = subst (λ t. length (encode f t) ≤ limit) e j.2 in
        let h = join_longer f (value p) (join (value q) (value r)) (lines_of s f ls p g.0.0 ∙ sym (lines_of s f ls q g.0.1)) in
        same-value s f left_first right_first e (runs s f ls _ g j x)
        (runs s f ls _ (g.0.0, (g.0.1, g.1)) (j.0.0, (j.0.1, j.1, omega (arith, h, l)), l) y)

  -- "and joining the bare opening", unmarked, "before or after a trace gives that trace." (`bare-given`: it is itself an accepted trace with these lines.)
  module _ (p : Plan) (o : List ℕ) where
    abbrev bare_first : Plan
    bare_first = joining o (bare_opening ls) p

    abbrev bare_last : Plan
    bare_last = joining o p (bare_opening ls)

    pub bare-before : Given s f ls p → JoinsFit f p → OutputsFit s bare_first → Same s bare_first p
    bare-before g j x =
        let r = runs s f ls p g j x.1 in
        let e : trace_of ls (value p).frames (value p).marked ≡ value p =
        ap (λ l. trace_of l (value p).frames (value p).marked) (sym (lines_of s f ls p g)) in
        let l = subst (λ t. length (encode f t) ≤ limit) (sym e) r.held.fits.length-fits in
        same-value s f bare_first p e (runs s f ls bare_first (bare-given s f ls p g, g) (tt, j, l) x) r

    pub bare-after : Given s f ls p → JoinsFit f p → OutputsFit s bare_last → Same s bare_last p
    bare-after g j x =
        let r = runs s f ls p g j x.0 in
        let e = join-bare (value p) in
        let l = subst (λ t. length (encode f t) ≤ limit) (sym e) r.held.fits.length-fits in
        same-value s f bare_last p e (runs s f ls bare_last (g, bare-given s f ls p g) (j, tt, l) x) r

  -- a bare opening with a mark is no unit: joined before or after an unmarked trace it leaves that trace with the mark
  module _ (p : Plan) (o : List ℕ) (none : (value p).marked ≡ false) where
    abbrev marked_first : Plan
    marked_first = joining o (marked_opening ls) p

    abbrev marked_last : Plan
    marked_last = joining o p (marked_opening ls)

    -- the trace p stands for, with the mark, is laid out as what p leaves and the mark
    with_mark : {t : Trace} → trace_of (value p).lines (value p).frames true ≡ t → Runs s f p → {d : List ℕ} → encode f t ≡ d → d ≡ result s p ++ mark
    with_mark e r i = sym i ∙ ap (encode f) (sym e) ∙ encode_marked f (value p) none ∙ ap (λ x. x ++ mark) r.held.laid_out

    first-is : Given s f ls p → trace_of (value p).lines (value p).frames true ≡ value marked_first
    first-is g = ap (λ l. trace_of l (value p).frames true) (lines_of s f ls p g)

    last_is : trace_of (value p).lines (value p).frames true ≡ value marked_last
    last_is = ap₂ (trace_of (value p).lines) (sym (append-nil (value p).frames)) (sym (or-true (value p).marked))

    -- the marked opening is itself an accepted trace, since the join is not too long
    opening-given : {t : Trace} → trace_of (value p).lines (value p).frames true ≡ t → Given s f ls p → length (encode f t) ≤ limit
        → Given s f ls (marked_opening ls)
    opening-given e g l =
        let n = length-encode f (trace_of (value p).lines (value p).frames true) in
        marked_given s f ls p g (omega (arith, l, ap (λ t. length (encode f t)) e, n, ap (λ l. length (opening l)) (lines_of s f ls p g)))

    pub marked_before : Given s f ls p → JoinsFit f marked_first → OutputsFit s marked_first → Done s marked_first × (result s marked_first ≡ result s p ++ mark)
    marked_before g j x =
        let e = first-is g in
        let r = runs s f ls marked_first (opening-given e g j.2, g) j x in
        (r.done, with_mark e (runs s f ls p g j.1 x.1) r.held.laid_out)

    pub marked_after : Given s f ls p → JoinsFit f marked_last → OutputsFit s marked_last → Done s marked_last × (result s marked_last ≡ result s p ++ mark)
    marked_after g j x =
        let r = runs s f ls marked_last (g, opening-given last_is g j.2) j x in
        (r.done, with_mark last_is (runs s f ls p g j.0 x.0) r.held.laid_out)

  -- of a file nothing is asked but the room of the join
  module _ (b o : List ℕ) (t : Trace) where
    pub bare-before-file : Given s f ls (file b t) → HasRoom (join_of s (opening ls) b) o → Same s (joining o (bare_opening ls) (file b t)) (file b t)
    unfolding result
    bare-before-file g h = bare-before (file b t) o g tt (tt, tt, h)

    pub bare-after-file : Given s f ls (file b t) → HasRoom (join_of s b (opening ls)) o → Same s (joining o (file b t) (bare_opening ls)) (file b t)
    unfolding result
    bare-after-file g h = bare-after (file b t) o g tt (tt, tt, h)

  module _ (p : Plan) (a : Selection) (o₁ o₂ : List ℕ) where
    -- the cut by A, and the cut by its opposite (`against_means`)
    abbrev by_a : Plan
    by_a = cutting a o₁ p

    abbrev by_opposite : Plan
    by_opposite = cutting (against a) o₂ p

    module _ (g : Given s f ls by_a) (j : JoinsFit f by_a) (x : OutputsFit s by_a) (y : OutputsFit s by_opposite) where
      pub parted : Parted s f (meaning a) p by_a by_opposite
      parted =
          let r = (runs s f ls p g.0 j x.0).held in
          let u = runs s f ls by_a g j x in
          let v = runs s f ls by_opposite g j y in
          record {
            kept-done = u.done;
            dropped_done = v.done;
            in_exactly_one = in_one f (meaning a) _ _ _ (value p) r u.held v.held;
            kept-holds = holds-frames f (meaning a) _ _ (value p) r u.held;
            dropped_holds = holds-frames f (opposite (meaning a)) _ _ (value p) r v.held;
          }

      pub cuts-lengths : LengthsAdd s ls p by_a by_opposite
      cuts-lengths =
          let r = (runs s f ls p g.0 j x.0).held in
          let u = runs s f ls by_a g j x in
          let v = runs s f ls by_opposite g j y in
          let e = lines_of s f ls p g.0 in
          record {
            kept-returned = returns_length s by_a u.done;
            dropped_returned = returns_length s by_opposite v.done;
            add = rw (← u.held.laid_out, ← v.held.laid_out, ← r.laid_out, ← e) (cut-lengths f (meaning a) (value p));
          }
