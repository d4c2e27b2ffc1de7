-- Element n by walking: what stands after n steps from a place. For elements that are laid out from there on it is element n of them.
-- Assumes nothing.
use Rattle.std.specs.Prelude.{◌≡◌, refl, cond, drop, ltb, eqb}
use Rattle.std.proofs.Common.{sym, ap, ◌∙◌, length-drop, drop-drop, drop_at}
use Rattle.std.proofs.Math.Option.{Option, none, some}
use Prim.Native.Nat.{ℕ, zero, suc, ◌+◌, ◌-◌, ◌<◌, ◌≤◌}
use native.Mathlib.Omega.{arith}
use mathlib.Core.List.{List, [], ◌∷◌, ◌++◌, append_assoc}
use Rattle.std.proofs.Math.ListN.{length, length-append}
use borrow.Author.Tests.{ne_eqb, lt-ltb, le-ltb}
use Rattle.refusals.specs.Refusal.{not_found}
use Rattle.fields.specs.Lists.{concat_map, Each}
use Rattle.fields.specs.Answer.{Answer, accepted, refused, next}
use Rattle.fields.specs.Reader.{Reader, step_at}
use Rattle.fields.specs.At.{step_none, step_read}
use Rattle.fields.specs.Element.{nth, nth-refused}
use Rattle.gdb_format.specs.Trace.{put_line}
use Rattle.gdb_format.specs.Layout.{NoEnd}
use Rattle.gdb_format.specs.Decode.{frame_head}
use Rattle.gdb_format.specs.Opening.{line_of}
use Rattle.gdb_format.specs.declared.Format.{Format}
use Rattle.gdb_read.specs.Steps.{Row, head_seen}
use Rattle.gdb_frames.specs.Places.{placed}

-- ---- elements that a reader reads

-- go on from the place after an element; stop where there is none
abbrev pub onward : {C : Type 0} → (ℕ → Answer (Option (C × ℕ))) → Option (C × ℕ) → Answer (Option (C × ℕ))
onward k none = accepted none
onward k (some r) = k r.1

-- what stands after n elements from `at` on
abbrev pub nth_at : {A C : Type 0} → (ℕ → A → C) → Reader A → List ℕ → ℕ → ℕ → Answer (Option (C × ℕ))
nth_at view p s zero at = step_at view p s at
nth_at view p s (suc n) at = next (step_at view p s at) (onward (nth_at view p s n))

-- a turn of the walk, by what stands at `at`
module _ {A C : Type 0} (view : ℕ → A → C) (p : Reader A) (s : List ℕ) (at : ℕ) where
  pub nth-none : (n : ℕ) → accepted none ≡ step_at view p s at → accepted none ≡ nth_at view p s n at
  nth-none zero e = e
  nth-none (suc n) e = rw (← e)

  pub nth-fault : (n k : ℕ) → refused k ≡ step_at view p s at → refused k ≡ nth_at view p s n at
  nth-fault zero k e = e
  nth-fault (suc n) k e = rw (← e)

  pub nth_on : (n : ℕ) → 0 < n → (v : C) (m : ℕ) → accepted (some (v, m)) ≡ step_at view p s at → nth_at view p s (n - 1) m ≡ nth_at view p s n at
  nth_on zero h v m e = absurd (omega arith)
  nth_on (suc n) h v m e = let i : suc n - 1 ≡ n = omega arith in rw (← e, i)

-- frame n of those from `at` on, by the heads alone
abbrev pub nth_head : Format → List ℕ → ℕ → ℕ → Answer (Option (Row × ℕ))
nth_head f s n at = nth_at head_seen (frame_head f) s n at

-- an element that was found among those laid out: what it shows, and the place after it
abbrev pub shown_nth : {A C : Type 0} → (ℕ → A → C) → (A → List ℕ) → Answer (ℕ × A) → Answer (Option (C × ℕ))
shown_nth view put (accepted r) = accepted (some (view r.0 r.1, r.0 + length (put r.1)))
shown_nth view put (refused n) = accepted none

-- what `g` makes of the element that a walk met; 12 where it met none
abbrev pub found_by : {C D : Type 0} → (C → D) → Option (C × ℕ) → Answer D
found_by g none = refused not_found
found_by g (some r) = accepted (g r.0)

pub nth-found : {A C D : Type 0} (view : ℕ → A → C) (put : A → List ℕ) (g : C → D) (xs : List (ℕ × A)) (n : ℕ)
    → next (shown_nth view put (nth xs n)) (found_by g) ≡ next (nth xs n) (λ r. accepted (g (view r.0 r.1)))
nth-found {A} view put g xs n = by (nth xs n) refl
  where
    by : (x : Answer (ℕ × A)) → nth xs n ≡ x → next (shown_nth view put x) (found_by g) ≡ next x (λ r. accepted (g (view r.0 r.1)))
    by (accepted r) e = refl
    by (refused k) e = ap refused (sym (nth-refused xs n k e))

-- xs stand in s from a place on, each as `put` lays it out, and p reads x as h x; `rest` stands behind them
module _ {A B C : Type 0} (view : ℕ → B → C) (p : Reader B) (h : A → B) (F : A → Type 0) (put : A → List ℕ)
    (reads : (x : A) (rest : List ℕ) → F x → p (put x ++ rest) ≡ accepted (h x, rest)) (fill : (x : A) → 0 < length (put x)) (s : List ℕ) where
  step_end : (at : ℕ) → drop at s ≡ [] → step_at view p s at ≡ accepted none
  step_end at e = step_none view p s at (omega (arith, length-drop at s, ap length e))

  rest_at : (at : ℕ) (a b : List ℕ) → drop at s ≡ a ++ b → drop (at + length a) s ≡ b
  rest_at at a b e = sym (drop-drop (length a) at s) ∙ ap (drop (length a)) e ∙ drop_at a b (length a) refl

  ends-within : (at : ℕ) (a b : List ℕ) → at ≤ length s → drop at s ≡ a ++ b → at + length a ≤ length s
  ends-within at a b l e = omega (arith, length-drop at s, ap length e, length-append a b)

  step_there : (at : ℕ) (x : A) (b : List ℕ) → F x → at ≤ length s → drop at s ≡ put x ++ b
      → step_at view p s at ≡ accepted (some (view at (h x), at + length (put x)))
  step_there at x b g l e =
      let k = ends-within at (put x) b l e in
      step_read view p s at (h x) (at + length (put x)) (omega (arith, fill x)) k
      (rw e (reads x b g) ∙ ap (λ r. accepted (h x, r)) (sym (rest_at at (put x) b e)))

  -- a walk past them must meet the end
  pub nth-placed : (rest : List ℕ) (n : ℕ) (xs : List A) (at : ℕ) → (length xs ≤ n → rest ≡ []) → Each F xs → at ≤ length s
      → drop at s ≡ concat_map put xs ++ rest
      → nth_at view p s n at ≡ shown_nth (λ a x. view a (h x)) put (nth (placed put at xs) n)
  nth-placed rest zero [] at z g l e = step_end at (e ∙ z (omega arith))
  nth-placed rest (suc n) [] at z g l e = rw (step_end at (e ∙ z (omega arith)))
  nth-placed rest zero (x ∷ xs) at z g l e = step_there at x (concat_map put xs ++ rest) g.0 l (e ∙ append_assoc (put x) (concat_map put xs) rest)
  nth-placed rest (suc n) (x ∷ xs) at z g l e =
      let more = concat_map put xs ++ rest in
      let i : drop at s ≡ put x ++ more = e ∙ append_assoc (put x) (concat_map put xs) rest in
      rw (step_there at x more g.0 l i)
      (nth-placed rest n xs (at + length (put x)) (λ k. z (omega (arith, k))) g.1 (ends-within at (put x) more l i) (rest_at at (put x) more i))

-- ---- lines

-- the line that j further lines lead to from `at`; 12 where the description, or the file, ends first
unfoldable pub nth_line : List ℕ → ℕ → ℕ → Answer (ℕ × ℕ)
nth_line s zero at = let n = length (line_of (drop at s)) in cond (eqb n 0) (refused not_found) (accepted (at, n))
nth_line s (suc j) at =
    let n = length (line_of (drop at s)) in
    let more = nth_line s j (at + n + 1) in
    cond (eqb n 0) (refused not_found) (cond (ltb (at + n) (length s)) more (refused not_found))

-- a turn of the walk, where the line at `at` ends at `end`
module _ (s : List ℕ) (at end : ℕ) (e : end ≡ at + length (line_of (drop at s))) where
  no_line : end ≤ at → length (line_of (drop at s)) ≡ 0
  no_line h = omega arith

  some-line : at < end → length (line_of (drop at s)) ≡ 0 → ⊥
  some-line h z = omega arith

  pub line-none : (j : ℕ) → end ≤ at → refused not_found ≡ nth_line s j at
  unfolding nth_line
  line-none zero h = rw (no_line h)
  line-none (suc j) h = rw (no_line h)

  module _ (h : at < end) where
    pub line-here : (j : ℕ) → j ≡ 0 → accepted (at, end - at) ≡ nth_line s j at
    unfolding nth_line
    line-here j z = let i : end - at ≡ length (line_of (drop at s)) = omega arith in rw (z, i, ne_eqb (length (line_of (drop at s))) 0 (some-line h))

    pub line_last : (j : ℕ) → (j ≡ 0 → ⊥) → length s ≤ end → refused not_found ≡ nth_line s j at
    unfolding nth_line
    line_last zero z l = absurd (z refl)
    line_last (suc j) z l = rw (ne_eqb (length (line_of (drop at s))) 0 (some-line h), ← e, le-ltb end (length s) l)

    pub line_on : (j : ℕ) → (j ≡ 0 → ⊥) → end < length s → nth_line s (j - 1) (end + 1) ≡ nth_line s j at
    unfolding nth_line
    line_on zero z l = absurd (z refl)
    line_on (suc j) z l =
        let i : suc j - 1 ≡ j = omega arith in
        rw (ne_eqb (length (line_of (drop at s))) 0 (some-line h), ← e, lt-ltb end (length s) l, i)

line-front : (l r : List ℕ) → NoEnd l → line_of (l ++ 0x0A ∷ r) ≡ l
line-front [] r h = refl
line-front (x ∷ l) r h = rw (ne_eqb x 0x0A h.0, line-front l r h.1)

-- a line that may stand in a description: not empty, and without 0A
abbrev pub IsLine : List ℕ → Type 0
IsLine l = (0 < length l) × NoEnd l

module _ (s rest : List ℕ) where
  line-there : (at : ℕ) (l : List ℕ) (ls : List (List ℕ)) → NoEnd l → drop at s ≡ concat_map put_line (l ∷ ls) ++ 0x0A ∷ rest → line_of (drop at s) ≡ l
  line-there at l ls h e =
      ap line_of (e ∙ append_assoc (put_line l) (concat_map put_line ls) (0x0A ∷ rest) ∙ append_assoc l (0x0A ∷ []) (concat_map put_line ls ++ 0x0A ∷ rest))
      ∙ line-front l (concat_map put_line ls ++ 0x0A ∷ rest) h

  lines_after : (at : ℕ) (l : List ℕ) (ls : List (List ℕ)) → drop at s ≡ concat_map put_line (l ∷ ls) ++ 0x0A ∷ rest
      → drop (at + length (put_line l)) s ≡ concat_map put_line ls ++ 0x0A ∷ rest
  lines_after at l ls e =
      sym (drop-drop (length (put_line l)) at s) ∙ ap (drop (length (put_line l))) (e ∙ append_assoc (put_line l) (concat_map put_line ls) (0x0A ∷ rest))
      ∙ drop_at (put_line l) (concat_map put_line ls ++ 0x0A ∷ rest) (length (put_line l)) refl

  line-within : (at : ℕ) (l : List ℕ) (ls : List (List ℕ)) → drop at s ≡ concat_map put_line (l ∷ ls) ++ 0x0A ∷ rest → at + length l < length s
  line-within at l ls e =
      omega (
        arith,
        length-drop at s,
        ap length (e ∙ append_assoc (put_line l) (concat_map put_line ls) (0x0A ∷ rest)),
        length-append (put_line l) (concat_map put_line ls ++ 0x0A ∷ rest),
        length-append (concat_map put_line ls) (0x0A ∷ rest),
        length-append l (0x0A ∷ []),
      )

  pub nth-line : (j : ℕ) (ls : List (List ℕ)) (at : ℕ) → Each IsLine ls → drop at s ≡ concat_map put_line ls ++ 0x0A ∷ rest
      → nth_line s j at ≡ next (nth (placed put_line at ls) j) (λ r. accepted (r.0, length r.1))
  unfolding nth_line
  nth-line zero [] at g e = rw e
  nth-line (suc j) [] at g e = rw e
  nth-line zero (l ∷ ls) at g e = rw (line-there at l ls g.0.1 e, ne_eqb (length l) 0 (λ z. omega arith))
  nth-line (suc j) (l ∷ ls) at g e =
      let i : at + length l + 1 ≡ at + length (put_line l) = omega (arith, length-append l (0x0A ∷ [])) in
      rw (line-there at l ls g.0.1 e, ne_eqb (length l) 0 (λ z. omega arith), lt-ltb (at + length l) (length s) (line-within at l ls e), i)
      (nth-line j ls (at + length (put_line l)) g.1 (lines_after at l ls e))
