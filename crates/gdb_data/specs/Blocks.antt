-- What the steps over a frame's blocks answer, in the paper's terms.
-- Assumes nothing: these are definitions.
use Rattle.std.specs.Prelude.{◌≡◌, Bool, false, cond, ◌&&◌, ℕ, ◌+◌, ◌<◌, ◌≤◌, List, length, drop, get_or, eqb, ℤ}
use Rattle.std.specs.Prelude.{Some, None, Result, Ok, Err}
use Rattle.std.specs.Prelude.{Option as Optional}
use Rattle.std.proofs.Math.Option.{Option}
use Rattle.fields.specs.Number.{word_at}
use Rattle.fields.specs.Signed.{signed64}
use Rattle.refusals.specs.Number.{number}
use Rattle.refusals.specs.declared.Refusal.{Refusal}
use Rattle.fields.specs.Answer.{Answer, accepted, refused, next}
use Rattle.fields.specs.Meaning.{answer_by, held_by}
use Rattle.fields.specs.Reader.{to_end_after, pass_at}
use Rattle.gdb_format.specs.Trace.{Block}
use Rattle.gdb_format.specs.Trace as trace
use Rattle.gdb_format.specs.Decode.{block_after, seen_after}
use Rattle.gdb_format.specs.declared.Format.{Format}
use Rattle.gdb_data.specs.declared.BlockKind.{BlockKind}
use Rattle.gdb_data.specs.declared.BlockKind.TheVariants.{Registers, Memory, Variable}
use Rattle.gdb_data.specs.declared.BlockRecord.{BlockRecord}
use Rattle.gdb_data.specs.declared.BlockStep.{BlockStep}
use Rattle.gdb_data.specs.declared.SearchStep.{SearchStep}

-- what a block's kind goes with: for memory its address and length, for a variable its number and value
pub data Carried : Type 0 where
  registers : Carried
  memory : ℕ → ℕ → Carried
  variable : ℕ → ℤ → Carried

abbrev pub carried_by : Block → Carried
carried_by (trace.registers b) = registers
carried_by (trace.memory a b) = memory a (length b)
carried_by (trace.variable n v) = variable n v

-- a block's record: the place of its letter, and its kind with what that kind carries
abbrev pub block_seen : ℕ → Block → ℕ × Carried
block_seen at b = (at, carried_by b)

-- what `BlockKind`, `BlockRecord` and `BlockStep` say
abbrev pub kind_meaning : BlockKind → Carried
kind_meaning Registers = registers
kind_meaning (Memory m) = memory m.address m.length
kind_meaning (Variable n v) = variable n v

abbrev pub block_in : BlockRecord → ℕ × Carried
block_in r = (r.place, kind_meaning r.kind)

abbrev pub block_step_meaning : Result (Optional BlockStep) Refusal → Answer (Option ((ℕ × Carried) × ℕ))
block_step_meaning r = answer_by (held_by (λ s. (block_in s.record, s.next))) r

-- the kind of the block whose letter stands at `at`
abbrev pub kind_at : Format → List ℕ → ℕ → Carried
kind_at f d at =
    cond (eqb (get_or d at 0) 0x52) registers
    (cond (eqb (get_or d at 0) 0x4D) (memory (word_at f.order 8 d (at + 1)) (word_at f.order 2 d (at + 9)))
    (variable (word_at f.order 4 d (at + 1)) (signed64 (word_at f.order 8 d (at + 5)))))

-- whether a block is one of variable n: a `V` block with that number
abbrev pub has_number : ℕ → Block → Bool
has_number n (trace.registers b) = false
has_number n (trace.memory a b) = false
has_number n (trace.variable m v) = eqb m n

-- what `SearchStep` says: whether the block is one that is sought, and the place after it
abbrev pub search_meaning : Result (Optional SearchStep) Refusal → Answer (Option (Bool × ℕ))
search_meaning r = answer_by (held_by (λ s. (s.sought, s.next))) r

-- the letter at `at` is `V`, and the number behind it n
abbrev pub number_at : Format → List ℕ → ℕ → ℕ → Bool
number_at f d at n = eqb (get_or d at 0) 0x56 && eqb (word_at f.order 4 d (at + 1)) n

-- of a block that is passed over nothing is told but where it ends
abbrev pub end_meaning : Result ℕ Refusal → Answer (Unit {0} × ℕ)
end_meaning r = answer_by (λ m. (tt, m)) r

-- blocks fill the data exactly, where `seen` tells whether a register block stands before them
abbrev pub blocks_fill : Format → Option ℕ → Bool → List ℕ → Answer (Unit {0})
blocks_fill f size seen d = next (to_end_after (block_after f size) seen_after seen d) (λ bs. accepted tt)

-- ---- blocks that are no register blocks, whatever the register size is and whatever was seen before them

-- the letter at `at` is neither `M` nor `V`
abbrev pub NoOther : List ℕ → ℕ → Type 0
NoOther d at = (get_or d at 0 ≡ 0x4D → ⊥) × (get_or d at 0 ≡ 0x56 → ⊥)

-- a memory or variable block stands at `at`, and r tells where it ends
abbrev pub OtherEnds : Format → List ℕ → ℕ → Result ℕ Refusal → Type 0
OtherEnds f d at r = (get_or d at 0 ≡ 0x52 → ⊥) × ((size : Option ℕ) (seen : Bool) → end_meaning r ≡ pass_at (block_after f size seen) d at)

-- r tells that of such a block, or that none stands there
abbrev pub OtherAt : Format → List ℕ → ℕ → Result (Optional ℕ) Refusal → Type 0
OtherAt f d at (Ok (Some m)) = OtherEnds f d at (Ok m)
OtherAt f d at (Err e) = OtherEnds f d at (Err e)
OtherAt f d at (Ok None) = NoOther d at

-- a walk over them from `from` on: they fill the data; or what is behind them, from another letter on, is filled just where the whole is; or their refusal
abbrev pub StopsAt : Format → List ℕ → ℕ → Result (Optional ℕ) Refusal → Type 0
StopsAt f d from (Ok None) = (size : Option ℕ) (seen : Bool) → accepted tt ≡ blocks_fill f size seen (drop from d)
StopsAt f d from (Ok (Some at)) =
    (from ≤ at) × (at < length d) × NoOther d at
    × ((size : Option ℕ) (seen : Bool) → blocks_fill f size seen (drop at d) ≡ blocks_fill f size seen (drop from d))
StopsAt f d from (Err e) = (size : Option ℕ) (seen : Bool) → refused (number e) ≡ blocks_fill f size seen (drop from d)
