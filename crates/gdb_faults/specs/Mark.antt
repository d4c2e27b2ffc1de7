-- C-11: "Where a frame head should start, two bytes of 0 begin the mark: from them to the file's end stand exactly four bytes, all 0."
-- What stands behind two such bytes is the mark or 18, and a file is refused with 18 just where they stand so and no mark follows.
-- Assumes nothing.
use Rattle.std.specs.Prelude.{◌≡◌, refl, ◌↔◌, Bool, true, false, cond, ℕ, ◌<◌, ◌≤◌, length, take, drop, eqb}
use Rattle.std.proofs.Common.{sym, ◌∙◌, subst, lt_of_not-le, arith, take-append-drop, length-take-le, eqb-true, le-leb}
use Rattle.std.proofs.Math.Path.{ap}
use Rattle.std.proofs.Math.Logic.{by_cases}
use Rattle.std.proofs.Math.Option.{Option, none}
use Rattle.std.proofs.Math.Decide.{dec_le}
use mathlib.Core.List.{List, [], ◌∷◌, ◌++◌}
use Rattle.std.proofs.lemmas.Bool.{lt-leb}
use Rattle.refusals.specs.Refusal.{limit, short_head, bad_mark}
use Rattle.fields.specs.Lists.{clash}
use Rattle.fields.specs.Number.{Bytes, number, field, field-number, bytes_take}
use Rattle.fields.specs.Word.{same_bytes, same_bytes_lem}
use Rattle.fields.specs.Answer.{Answer, accepted, refused, next, refused_inv, refused-one}
use Rattle.fields.specs.Reader.{refuse}
use Rattle.fields.specs.declared.Order.{Order}
use Rattle.fields.specs.declared.Order.TheVariants.{Little, Big}
use Rattle.gdb_format.specs.Trace.{Frame, mark}
use Rattle.gdb_format.specs.Settings.{settings_of}
use Rattle.gdb_format.specs.Decode.{numbered, frame_head, blocks, frame, ending, frames, decode, read}
use Rattle.gdb_format.specs.ExactFrame.{zeros-frame, frames-fault, frames-ended}
use Rattle.gdb_format.specs.Numbers.{numbered-numbers, blocks-numbers}
use Rattle.gdb_format.specs.declared.Settings.{Settings}
use Rattle.gdb_format.specs.declared.Format.{Format}
use Rattle.gdb_faults.specs.Faults.{Faulty, GivenAt, fault_exactly, file-fault}

-- ---- behind two bytes of 0

zero_field : (o : Order) → 0 ∷ 0 ∷ [] ≡ field o 2 0
zero_field Little = refl
zero_field Big = refl

module _ (f : Format) (size : Option ℕ) where
  -- the mark, where two more are left
  pub zeros-mark : frames f size (0 ∷ 0 ∷ 0 ∷ 0 ∷ []) ≡ accepted ([], true)
  zeros-mark = frames-ended f size true

  -- 18, whatever else is left
  pub zeros-bad : (b : List ℕ) → (b ≡ 0 ∷ 0 ∷ [] → ⊥) → frames f size (0 ∷ 0 ∷ b) ≡ refused bad_mark
  zeros-bad b h = frames-fault f size (0 ∷ 0 ∷ b) bad_mark (omega arith) (by (same_bytes (0 ∷ 0 ∷ b) mark) refl) (zeros-frame f size b)
    where
      by : (t : Bool) → same_bytes (0 ∷ 0 ∷ b) mark ≡ t → t ≡ false
      by true e = absurd (h (ap (drop 2) (same_bytes_lem (0 ∷ 0 ∷ b) mark e)))
      by false e = refl

-- ---- 18, and where

-- two bytes of 0 that begin no mark
pub record NoMark (f : Format) (size : Option ℕ) (b : List ℕ) : Type 0 where
  pub rest : List ℕ
  pub no-mark : rest ≡ 0 ∷ 0 ∷ [] → ⊥
  pub laid_out : 0 ∷ 0 ∷ rest ≡ b

module _ (f : Format) (size : Option ℕ) where
  -- a head that is refused so begins with them
  head-short : (b : List ℕ) → length b < 2 → frame_head f b ≡ refused short_head
  unfolding frame_head
  head-short b l = rw (lt-leb 2 (length b) l)

  head-after : (b : List ℕ) → 2 ≤ length b → let n = number f.order (take 2 b) in frame_head f b ≡ cond (eqb n 0) (refuse bad_mark) (numbered f n) (drop 2 b)
  unfolding frame_head
  head-after b l = rw (le-leb 2 (length b) l)

  zero-first : (b : List ℕ) → Bytes b → 2 ≤ length b → number f.order (take 2 b) ≡ 0 → 0 ∷ 0 ∷ drop 2 b ≡ b
  zero-first b h l z =
      let o = f.order in
      let w : field o 2 0 ≡ take 2 b =
      ap (field o 2) (sym z) ∙ ap (λ k. field o k (number o (take 2 b))) (sym (length-take-le 2 b l)) ∙ field-number o (take 2 b) (bytes_take 2 b h) in
      ap (λ x. x ++ drop 2 b) (zero_field o ∙ w) ∙ take-append-drop 2 b

  head-bad : (b : List ℕ) → Bytes b → frame_head f b ≡ refused bad_mark → 0 ∷ 0 ∷ drop 2 b ≡ b
  head-bad b h e =
      by_cases (dec_le 2 (length b)) (λ l. by (eqb (number f.order (take 2 b)) 0) refl l (sym (head-after b l) ∙ e))
      (λ k. let z = refused-one (sym (head-short b (lt_of_not-le k)) ∙ e) in absurd (omega (arith, z)))
    where
      by : (t : Bool) → let n = number f.order (take 2 b) in eqb n 0 ≡ t → 2 ≤ length b
          → cond t (refuse bad_mark) (numbered f n) (drop 2 b) ≡ refused bad_mark → 0 ∷ 0 ∷ drop 2 b ≡ b
      by true i l g = zero-first b h l (eqb-true (number f.order (take 2 b)) 0 i)
      by false i l g = absurd (((numbered-numbers f (number f.order (take 2 b))).reading (drop 2 b)).only bad_mark g)

  frame-bad : (b : List ℕ) → Bytes b → frame f size b ≡ refused bad_mark → 0 ∷ 0 ∷ drop 2 b ≡ b
  unfolding frame
  frame-bad b h e = head-bad b h (by (frame_head f b) e)
    where
      by : (x : Answer ((ℕ × List ℕ) × List ℕ))
          → next {B = Frame × List ℕ} x (λ r. next (blocks f size r.0.1 r.1) (λ q. accepted (record { tracepoint = r.0.0; blocks = q.0 }, q.1)))
          ≡ refused bad_mark
          → x ≡ refused bad_mark
      by (refused k) g = ap refused (refused-one g)
      by (accepted r) g =
          absurd (((blocks-numbers f size r.0.1).reading r.1).only bad_mark (refused_inv bad_mark (blocks f size r.0.1 r.1) _ (sym g)))

  no-mark-there : (b rest : List ℕ) → ending b ≡ none → 0 ∷ 0 ∷ rest ≡ b → NoMark f size b
  no-mark-there b rest n e =
      record {
        rest = rest;
        no-mark = λ z. let w : ending mark ≡ none = subst (λ x. ending x ≡ none) (sym e ∙ ap (λ x. 0 ∷ 0 ∷ x) z) n in clash (cc);
        laid_out = e;
      }

mark-given : GivenAt bad_mark NoMark
mark-given =
    record {
      given = λ f size b i. subst (λ x. frames f size x ≡ refused bad_mark) i.laid_out (zeros-bad f size i.rest i.no-mark);
      only = λ f size b h n e. no-mark-there f size b (drop 2 b) n (frame-bad f size b h e);
      not_ahead = λ e. e;
    }

-- A file within the limit is refused with 18 exactly where, behind its opening and whole frames, two bytes of 0 begin no mark.
pub bad-mark_exactly : (f : Format) (b : List ℕ) → Bytes b → length b ≤ limit → (decode f b ≡ refused bad_mark) ↔ Faulty NoMark f b
bad-mark_exactly = fault_exactly mark-given

-- the same under the caller's settings
pub file-bad-mark : (s : Settings) (b : List ℕ) → Bytes b
    → (read s b ≡ refused bad_mark) ↔ ((f : Format) × (settings_of s ≡ accepted f) × (length b ≤ limit) × Faulty NoMark f b)
file-bad-mark = file-fault mark-given
