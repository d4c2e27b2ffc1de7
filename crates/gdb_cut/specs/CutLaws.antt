-- The laws of a cut on traces, and that a cut keeps the layout.
-- Assumes nothing.
use Rattle.std.specs.Prelude.{◌≡◌, refl, Bool, true, false, cond, not, ◌&&◌, ℕ, ◌+◌, ◌≤◌, List, [], ◌∷◌, ◌++◌, length}
use Rattle.std.proofs.Common.{sym, ap, ◌∙◌, arith, length-append}
use Rattle.fields.specs.Lists.{concat_map, Each}
use Rattle.fields.specs.Answer.{accepted}
use Rattle.gdb_format.specs.Trace.{Frame, Trace, with_frames, opening, put_frame, put_mark, encode}
use Rattle.gdb_format.specs.Lines.{register_size}
use Rattle.gdb_format.specs.Layout.{FrameFits, Layout}
use Rattle.gdb_format.specs.Settings.{settings_of}
use Rattle.gdb_format.specs.declared.Settings.{Settings}
use Rattle.gdb_format.specs.declared.Format.{Format}
use Rattle.gdb_read.specs.Steps.{length-encode}
use Rattle.gdb_frames.specs.File.{File, read-file}
use Rattle.gdb_select.specs.Selection.{Selection, opposite, meaning, valid}
use Rattle.gdb_select.specs.SelectionLaws.{selects-other}
use Rattle.gdb_cut.specs.Cut.{picks, filter, cut, cut_of}
use Rattle.gdb_select.specs.declared.Selection as lent

-- ---- lists

module _ {A : Type 0} where
  pub filter-append : (p : A → Bool) (l m : List A) → filter p (l ++ m) ≡ filter p l ++ filter p m
  filter-append p [] m = refl
  filter-append p (x ∷ l) m = by (p x) (filter-append p l m)
    where
      by : (t : Bool) → filter p (l ++ m) ≡ filter p l ++ filter p m
          → cond t (x ∷ filter p (l ++ m)) (filter p (l ++ m)) ≡ cond t (x ∷ filter p l) (filter p l) ++ filter p m
      by true e = ap (λ r. x ∷ r) e
      by false e = e

  filter-filter : (p q : A → Bool) (l : List A) → filter q (filter p l) ≡ filter (λ x. p x && q x) l
  filter-filter p q [] = refl
  filter-filter p q (x ∷ l) = by (p x) (q x) refl (filter-filter p q l)
    where
      by : (t u : Bool) → q x ≡ u → filter q (filter p l) ≡ filter (λ x. p x && q x) l
          → filter q (cond t (x ∷ filter p l) (filter p l)) ≡ cond (t && u) (x ∷ filter (λ x. p x && q x) l) (filter (λ x. p x && q x) l)
      by true true e f = rw (e, f)
      by true false e f = rw (e, f)
      by false u e f = f

  filter_same : (p q : A → Bool) → ((x : A) → p x ≡ q x) → (l : List A) → filter p l ≡ filter q l
  filter_same p q e [] = refl
  filter_same p q e (x ∷ l) = rw (e x, filter_same p q e l)

  filter-each : (P : A → Type 0) (p : A → Bool) (l : List A) → Each P l → Each P (filter p l)
  filter-each P p [] h = tt
  filter-each P p (x ∷ l) h = by (p x) (filter-each P p l h.1)
    where
      by : (t : Bool) → Each P (filter p l) → Each P (cond t (x ∷ filter p l) (filter p l))
      by true k = (h.0, k)
      by false k = k

  -- kept and dropped together are all
  concat_map-parts : (f : A → List ℕ) (p : A → Bool) (l : List A)
      → length (concat_map f (filter p l)) + length (concat_map f (filter (λ x. not (p x)) l)) ≡ length (concat_map f l)
  concat_map-parts f p [] = refl
  concat_map-parts f p (x ∷ l) = by (p x) (concat_map-parts f p l)
    where
      by : (t : Bool) → length (concat_map f (filter p l)) + length (concat_map f (filter (λ x. not (p x)) l)) ≡ length (concat_map f l)
          → length (concat_map f (cond t (x ∷ filter p l) (filter p l))) + length
          (concat_map f (cond (not t) (x ∷ filter (λ x. not (p x)) l) (filter (λ x. not (p x)) l))) ≡ length (concat_map f (x ∷ l))
      by true e = simp length-append (omega arith)
      by false e = simp length-append (omega arith)

-- ---- traces

-- the frames that a and b both select, in file order
abbrev pub both : Selection → Selection → Trace → Trace
both a b t = with_frames t (filter (λ r. picks a r && picks b r) t.frames)

and_comm : (p q : Bool) → p && q ≡ q && p
and_comm true true = refl
and_comm true false = refl
and_comm false true = refl
and_comm false false = refl

pub cut-cut : (a b : Selection) (t : Trace) → cut b (cut a t) ≡ both a b t
cut-cut a b t = rw (filter-filter (picks a) (picks b) t.frames)

pub cut_comm : (a b : Selection) (t : Trace) → cut b (cut a t) ≡ cut a (cut b t)
cut_comm a b t = cut-cut a b t ∙ ap (with_frames t) (filter_same _ _ (λ r. and_comm (picks a r) (picks b r)) t.frames) ∙ sym (cut-cut b a t)

-- the opposite selects just the others
pub picks-other : (c : Selection) (r : Frame) → picks (opposite c) r ≡ not (picks c r)
picks-other c r = selects-other c r.tracepoint

-- a cut is no longer than its trace
pub cut-shorter : (f : Format) (c : Selection) (t : Trace) → length (encode f (cut c t)) ≤ length (encode f t)
cut-shorter f c t = omega (arith, length-encode f t, length-encode f (cut c t), concat_map-parts (put_frame f) (picks c) t.frames)

-- what is kept and what is dropped: the file's length, and one opening and any mark more
pub cut-lengths : (f : Format) (c : Selection) (t : Trace)
    → length (encode f (cut c t)) + length (encode f (cut (opposite c) t)) ≡ length (encode f t) + length (opening t.lines) + length (put_mark t.marked)
cut-lengths f c t =
    rw (filter_same (picks (opposite c)) (λ r. not (picks c r)) (picks-other c) t.frames)
    (omega (
      arith,
      concat_map-parts (put_frame f) (picks c) t.frames,
      length-encode f t,
      length-encode f (cut c t),
      length-encode f (with_frames t (filter (λ r. not (picks c r)) t.frames)),
    ))

pub layout_cut : (f : Format) (c : Selection) (t : Trace) → Layout f t → Layout f (cut c t)
layout_cut f c t h =
    record {
      lines_fit = h.lines_fit;
      frames_fit = filter-each (FrameFits f (register_size f t.lines)) (picks c) t.frames h.frames_fit;
      length-fits = omega (arith, h.length-fits, cut-shorter f c t);
    }

-- what a cut of a file that holds a trace gives
pub cut_call : (s : Settings) (f : Format) (ok : settings_of s ≡ accepted f) (c : lent.Selection) (b : List ℕ) (t : Trace) → valid c ≡ true → File f b t
    → cut_of s c b ≡ accepted (encode f (cut (meaning c) t))
unfolding cut_of
cut_call s f ok c b t e i = rw (e, read-file s f b t ok i)
