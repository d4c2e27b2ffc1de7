-- A turn of the walk over a frame's blocks.
-- Assumes nothing.
use mathlib.Core.Path.{◌≡◌, refl, sym, ap, ◌∙◌}
use mathlib.Core.Bool.{Bool, true, false, cond, ◌||◌, or-true, or-false}
use mathlib.Core.Option.{Option}
use Prim.Native.Nat.{ℕ, ◌<◌, ◌≤◌}
use native.Mathlib.Omega.{arith}
use mathlib.Core.List.{List, ◌∷◌}
use lib.ListN.{length, drop, get_or, length-drop, drop_of_length-le}
use lib.Dec.{eqb}
use lib.IntN.{ℤ}
use borrow.Author.Tests.{ne_eqb}
use Rattle.fields.specs.Answer.{Answer, accepted, refused, next}
use Rattle.fields.specs.Reader.{to_end_after}
use Rattle.fields.specs.Takes.{after-nil, after_step}
use Rattle.gdb_format.specs.Trace.{Block, is_registers}
use Rattle.gdb_format.specs.Trace as trace
use Rattle.gdb_format.specs.Decode.{block_after, seen_after}
use Rattle.gdb_format.specs.ExactBlock.{shorter-block-after}
use Rattle.gdb_format.specs.declared.Format.{Format}
use Rattle.gdb_data.specs.Blocks.{Carried, registers, memory, variable, carried_by, kind_at, blocks_fill, NoOther}
use Rattle.std.specs.Prelude.{Result, Ok, Err}
use Rattle.refusals.specs.Number.{number}
use Rattle.refusals.specs.declared.Refusal.{Refusal}
use Rattle.gdb_data.proofs.BlockLaws.{Ended, block_refused, block_read, registers-read}

fill_more : (x : Answer (List Block)) (b : Block) → next (next x (λ l. accepted (b ∷ l))) (λ l. accepted (tt {0})) ≡ next x (λ l. accepted (tt {0}))
fill_more (accepted l) b = refl
fill_more (refused n) b = refl

-- ---- a block is a register block where its letter is `R`

carries_registers : Carried → Bool
carries_registers registers = true
carries_registers (memory a n) = false
carries_registers (variable n v) = false

of_block : (b : Block) → is_registers b ≡ carries_registers (carried_by b)
unfolding carries_registers
of_block (trace.registers c) = refl
of_block (trace.memory a c) = refl
of_block (trace.variable n v) = refl

of_letter : (f : Format) (d : List ℕ) (at : ℕ) → carries_registers (kind_at f d at) ≡ eqb (get_or d at 0) 82
unfolding carries_registers
of_letter f d at = by (eqb (get_or d at 0) 82) (eqb (get_or d at 0) 77) _ _ _ _
  where
    by : (t u : Bool) (a n m : ℕ) (v : ℤ) → carries_registers (cond t registers (cond u (memory a n) (variable m v))) ≡ t
    by true u a n m v = refl
    by false true a n m v = refl
    by false false a n m v = refl

-- ---- the blocks from `at` on

module _ (f : Format) (size : Option ℕ) (seen : Bool) (d : List ℕ) (at : ℕ) where
  pub fill_end : length d ≤ at → accepted tt ≡ blocks_fill f size seen (drop at d)
  fill_end l = rw (drop_of_length-le d l, after-nil (block_after f size) seen_after seen)

  -- from the block there on
  fill_step : at < length d
      → to_end_after (block_after f size) seen_after seen (drop at d)
      ≡ next (block_after f size seen (drop at d)) (λ r.
      next (to_end_after (block_after f size) seen_after (seen_after seen r.0) r.1) (λ l. accepted (r.0 ∷ l)))
  fill_step h = after_step (block_after f size) seen_after (shorter-block-after f size) seen (drop at d) (omega (arith, length-drop at d))

module _ {f : Format} {size : Option ℕ} {seen : Bool} {d : List ℕ} {at : ℕ} {r : Result ℕ Refusal} (h : Ended f size seen d at r) where
  pub fill_refused : {n : Refusal} → r ≡ Err n → refused (number n) ≡ blocks_fill f size seen (drop at d)
  fill_refused e = rw (fill_step f size seen d at h.inside, block_refused h e)

  -- to the next block, with what was seen then
  pub fill_turn : {m : ℕ} → r ≡ Ok m → {now : Bool} → now ≡ seen || eqb (get_or d at 0) 82
      → (at < m) × (m ≤ length d) × (blocks_fill f size now (drop m d) ≡ blocks_fill f size seen (drop at d))
  fill_turn {m} e i =
      let b = block_read h e in
      let c = b.value in
      let is : is_registers c ≡ eqb (get_or d at 0) 82 = of_block c ∙ ap carries_registers b.carried ∙ of_letter f d at in
      let rest = to_end_after (block_after f size) seen_after (seen || eqb (get_or d at 0) 82) (drop m d) in
      (b.later, b.within, rw i (sym (rw (fill_step f size seen d at h.inside, b.reads, is) (fill_more rest c))))

-- another block than one of registers: what was seen before it is seen after it
pub other-turn : {f : Format} {size : Option ℕ} {seen : Bool} {d : List ℕ} {at : ℕ} {r : Result ℕ Refusal} → Ended f size seen d at r → (get_or d at 0 ≡ 82 → ⊥)
    → {m : ℕ} → r ≡ Ok m → (at < m) × (m ≤ length d) × (blocks_fill f size seen (drop m d) ≡ blocks_fill f size seen (drop at d))
other-turn {seen} {d} {at} h o e = fill_turn h e (rw (ne_eqb (get_or d at 0) 82 o) (sym (or-false seen)))

-- a register block: one is seen after it
pub registers-turn : {f : Format} {size : Option ℕ} {seen : Bool} {d : List ℕ} {at : ℕ} {r : Result ℕ Refusal} → Ended f size seen d at r → NoOther d at
    → {m : ℕ} → r ≡ Ok m → (at < m) × (m ≤ length d) × (blocks_fill f size true (drop m d) ≡ blocks_fill f size seen (drop at d))
registers-turn {seen} h o e = fill_turn h e (rw (registers-read h o e) (sym (or-true seen)))
