-- A file that is refused with a number that only its frames give: what stands ahead of the fault, and what at it.
-- Assumes nothing.
use Rattle.std.specs.Prelude.{◌≡◌, ◌↔◌, Bool, ℕ, zero, suc, ◌<◌, ◌≤◌, List, [], ◌∷◌, ◌++◌, length, leb}
use Rattle.std.proofs.Math.Path.{refl, ap}
use Rattle.std.proofs.Common.{sym, ◌∙◌, subst, le_refl, lt_of_not-le, arith, append_assoc, le-leb}
use Rattle.std.proofs.Math.Logic.{by_cases}
use Rattle.std.proofs.Math.Bool.{cond}
use Rattle.std.proofs.Math.Option.{Option, none, some}
use Rattle.std.proofs.Math.Decide.{dec_le}
use Rattle.std.proofs.lemmas.Bool.{lt-leb}
use Rattle.refusals.specs.Refusal.{limit, too_long}
use Rattle.fields.specs.Lists.{concat_map, Each}
use Rattle.fields.specs.Number.{Bytes, bytes_back}
use Rattle.fields.specs.Answer.{Answer, accepted, refused, never, next, refused_inv, refused-one}
use Rattle.fields.specs.Reader.{end_or}
use Rattle.fields.specs.Refuses.{OneOf, refuses_in}
use Rattle.fields.specs.Until.{until_step}
use Rattle.gdb_format.specs.Trace.{Frame, Trace, trace_of, opening, put_frame}
use Rattle.gdb_format.specs.Lines.{register_size}
use Rattle.gdb_format.specs.Layout.{LinesFit, FrameFits}
use Rattle.gdb_format.specs.Settings.{settings_of}
use Rattle.gdb_format.specs.Decode.{frame, ending, frames, opening_lines, trace, decode, read}
use Rattle.gdb_format.specs.ExactFrame.{exact_frame, shorter-frame, frames_more}
use Rattle.gdb_format.specs.ExactLines.{exact_opening}
use Rattle.gdb_format.specs.Numbers.{opening_numbers, settings_numbers, opening-numbers, settings-numbers}
use Rattle.gdb_format.specs.declared.Settings.{Settings}
use Rattle.gdb_format.specs.declared.Format.{Format}

-- where a fault of the frames is met: what stands there, by the format and the register size
abbrev pub Place : Type 1
Place = Format → Option ℕ → List ℕ → Type 0

-- whole frames, and then the fault
pub record Behind (f : Format) (size : Option ℕ) (At : Place) (b : List ℕ) : Type 0 where
  pub before : List Frame
  pub rest : List ℕ
  pub frames_fit : Each (FrameFits f size) before
  pub there : At f size rest
  pub laid_out : concat_map (put_frame f) before ++ rest ≡ b

-- lines that fit, whole frames, and then the fault
pub record Faulty (At : Place) (f : Format) (b : List ℕ) : Type 0 where
  pub lines : List (List ℕ)
  pub rest : List ℕ
  pub lines_fit : LinesFit f lines
  pub behind : Behind f (register_size f lines) At rest
  pub laid_out : opening lines ++ rest ≡ b

-- what is judged ahead of the frames
abbrev pub ahead_numbers : List ℕ
ahead_numbers = settings_numbers ++ too_long ∷ opening_numbers

-- the number n is given where `At` says, when the frames are read from there on, and nowhere else; nothing ahead of the frames gives it
pub record GivenAt (n : ℕ) (At : Place) : Type 0 where
  pub given : (f : Format) (size : Option ℕ) (b : List ℕ) → At f size b → frames f size b ≡ refused n
  pub only : (f : Format) (size : Option ℕ) (b : List ℕ) → Bytes b → ending b ≡ none → frame f size b ≡ refused n → At f size b
  pub not_ahead : OneOf ahead_numbers n → ⊥

module _ {n : ℕ} {At : Place} (g : GivenAt n At) where
  -- ---- the frames

  module _ (f : Format) (size : Option ℕ) where
    -- frames are read one after another
    frames_then : (fs : List Frame) (b : List ℕ) → Each (FrameFits f size) fs → frames f size b ≡ refused n
        → frames f size (concat_map (put_frame f) fs ++ b) ≡ refused n
    frames_then [] b h e = e
    frames_then (r ∷ fs) b h e =
        let more = concat_map (put_frame f) fs ++ b in
        ap (frames f size) (append_assoc (put_frame f r) (concat_map (put_frame f) fs) b)
        ∙ frames_more f size (put_frame f r ++ more) r more ((exact_frame f size).back r more h.0) ∙ rw (frames_then fs b h.1 e)

    behind-refused : (b : List ℕ) → Behind f size At b → frames f size b ≡ refused n
    behind-refused b i =
        subst (λ x. frames f size x ≡ refused n) i.laid_out (frames_then i.before i.rest i.frames_fit (g.given f size i.rest i.there))

    -- behind one frame more
    one_more : (b rest : List ℕ) (r : Frame) → FrameFits f size r × (put_frame f r ++ rest ≡ b) → Behind f size At rest → Behind f size At b
    one_more b rest r w i =
        record {
          before = r ∷ i.before;
          rest = i.rest;
          frames_fit = (w.0, i.frames_fit);
          there = i.there;
          laid_out = append_assoc (put_frame f r) (concat_map (put_frame f) i.before) i.rest ∙ ap (λ x. put_frame f r ++ x) i.laid_out ∙ w.1;
        }

    frames_step : (b : List ℕ)
        → frames f size b ≡ end_or (ending b) (next (frame f size b) (λ r. next (frames f size r.1) (λ q. accepted (r.0 ∷ q.0, q.1))))
    unfolding frames
    frames_step b = until_step ending (frame f size) (shorter-frame f size) b

    behind-at : (b : List ℕ) → Bytes b → ((rest : List ℕ) → length rest < length b → Bytes rest → frames f size rest ≡ refused n → Behind f size At rest)
        → (x : Option Bool) (y : Answer (Frame × List ℕ)) → ending b ≡ x → frame f size b ≡ y
        → end_or x (next y (λ r. next (frames f size r.1) (λ q. accepted (r.0 ∷ q.0, q.1)))) ≡ refused n → Behind f size At b
    behind-at b h more (some m) y i j e = never (sym e)
    behind-at b h more none (refused k) i j e =
        record { before = []; rest = b; frames_fit = tt; there = g.only f size b h i (j ∙ ap refused (refused-one e)); laid_out = refl }
    behind-at b h more none (accepted r) i j e =
        let w = (exact_frame f size).forth b r.0 r.1 h j in
        one_more b r.1 r.0 w
        (more r.1 (shorter-frame f size b r.0 r.1 j) (bytes_back (put_frame f r.0) r.1 (rw w.1 h))
        (refused_inv n (frames f size r.1) (λ q. (r.0 ∷ q.0, q.1)) (sym e)))

    behind-count : (k : ℕ) (b : List ℕ) → length b < k → Bytes b → frames f size b ≡ refused n → Behind f size At b
    behind-count zero b l h e = absurd (omega arith)
    behind-count (suc k) b l h e =
        behind-at b h (λ rest l'. behind-count k rest (omega (arith, l, l'))) (ending b) (frame f size b) refl refl (sym (frames_step b) ∙ e)

    refused-behind : (b : List ℕ) → Bytes b → frames f size b ≡ refused n → Behind f size At b
    refused-behind b h e = behind-count (suc (length b)) b (le_refl (suc (length b))) h e

  -- ---- a file

  -- `trace`, by what the opening's reading gives
  abbrev read_from : Format → Answer (List (List ℕ) × List ℕ) → Answer Trace
  read_from f x = next x (λ r. next (frames f (register_size f r.0) r.1) (λ q. accepted (trace_of r.0 q.0 q.1)))

  -- a file within the limit
  pub fault_exactly : (f : Format) (b : List ℕ) → Bytes b → length b ≤ limit → (decode f b ≡ refused n) ↔ Faulty At f b
  unfolding decode trace
  fault_exactly f b h l = ((λ e. forth (opening_lines f b) refl (sym short ∙ e)), λ i. short ∙ back i)
    where
      short : cond (leb (length b) limit) (read_from f (opening_lines f b)) (refused too_long) ≡ read_from f (opening_lines f b)
      short = rw (le-leb (length b) limit l)

      back : Faulty At f b → read_from f (opening_lines f b) ≡ refused n
      back i =
          let o = (exact_opening f).back i.lines i.rest i.lines_fit in
          rw (← i.laid_out, o, behind-refused f (register_size f i.lines) i.rest i.behind)

      forth : (x : Answer (List (List ℕ) × List ℕ)) → opening_lines f b ≡ x → read_from f x ≡ refused n → Faulty At f b
      forth (refused k) e w = absurd (g.not_ahead ((refuses_in {P = OneOf ahead_numbers} opening_numbers _ ((opening-numbers f).reading b)).only n (e ∙ ap refused (refused-one w))))
      forth (accepted r) e w =
          let o = (exact_opening f).forth b r.0 r.1 h e in
          let rest-bytes = bytes_back (opening r.0) r.1 (rw o.1 h) in
          record {
            lines = r.0;
            rest = r.1;
            lines_fit = o.0;
            behind = refused-behind f (register_size f r.0) r.1 rest-bytes (refused_inv n (frames f (register_size f r.0) r.1) _ (sym w));
            laid_out = o.1;
          }

  too_long_lem : (f : Format) (b : List ℕ) → limit < length b → decode f b ≡ refused too_long
  unfolding decode
  too_long_lem f b l = rw (lt-leb (length b) limit l)

  -- the same under the caller's settings
  module _ (s : Settings) (b : List ℕ) (h : Bytes b) where
    decode-refused : (f : Format) → decode f b ≡ refused n → (length b ≤ limit) × Faulty At f b
    decode-refused f e =
        by_cases (dec_le (length b) limit) (λ l. (l, (fault_exactly f b h l).0 e))
        (λ k. absurd (g.not_ahead (subst (OneOf ahead_numbers) (refused-one (sym (too_long_lem f b (lt_of_not-le k)) ∙ e)) tt)))

    pub file-fault : (read s b ≡ refused n) ↔ ((f : Format) × (settings_of s ≡ accepted f) × (length b ≤ limit) × Faulty At f b)
    unfolding read
    file-fault = (forth (settings_of s) refl, λ i. rw (i.1, (fault_exactly i.0 b h i.2).1 i.3))
      where
        forth : (x : Answer Format) → settings_of s ≡ x → next {B = Format × Trace} x (λ f. next (decode f b) (λ t. accepted (f, t))) ≡ refused n
            → (f : Format) × (settings_of s ≡ accepted f) × (length b ≤ limit) × Faulty At f b
        forth (accepted f) e w = let d = decode-refused f (refused_inv n (decode f b) (λ t. (f, t)) (sym w)) in (f, e, d.0, d.1)
        forth (refused k) e w = absurd (g.not_ahead ((refuses_in {P = OneOf ahead_numbers} settings_numbers _ (settings-numbers s)).only n (e ∙ ap refused (refused-one w))))
