-- The answers about GDB traces as C has them: the refusal 0 and the values, or the refusal's number and zeros.
-- Assumes nothing: these are definitions.
use Rattle.std.specs.Prelude.{◌≡◌, Bool, cond, not, ℕ, List, ℤ, pos, eqb}
use Rattle.std.proofs.Common.{ap, ◌∙◌}
use Rattle.fields.specs.Answer.{Answer, accepted, refused}
use Rattle.gdb_format.specs.declared.LineKind.{LineKind}
use Rattle.gdb_format.specs.declared.LineKind.TheVariants as kind
use Rattle.gdb_data.specs.Blocks.{Carried, registers, memory, variable}
use Rattle.fields.specs.Output.{answer, exit, Lent}
use Rattle.gdb_select.specs.declared.Selection as edit
use Rattle.gdb_pair.specs.Pair.{Side, first, second}
use Rattle.gdb_flat.specs.declared.questions.Count.{Count}
use Rattle.gdb_flat.specs.declared.questions.Mark.{Mark}
use Rattle.gdb_flat.specs.declared.questions.Place.{Place}
use Rattle.gdb_flat.specs.declared.questions.FramePart.{FramePart}
use Rattle.gdb_flat.specs.declared.questions.Line.{Line}
use Rattle.gdb_flat.specs.declared.questions.Block.{Block}
use Rattle.gdb_flat.specs.declared.questions.Value.{Value}
use Rattle.gdb_flat.specs.declared.edits.Length.{Length}
use Rattle.gdb_flat.specs.declared.edits.PairPart.{PairPart}
use Rattle.gdb_flat.specs.declared.edits.Selection.{Selection}

unfoldable pub flat_count : Answer ℕ → Count
flat_count (accepted n) = record { refusal = 0; count = n }
flat_count (refused k) = record { refusal = k; count = 0 }

unfoldable pub flat_mark : Answer Bool → Mark
flat_mark (accepted m) = record { refusal = 0; marked = cond m 1 0 }
flat_mark (refused k) = record { refusal = k; marked = 0 }

unfoldable pub flat_place : Answer (ℕ × ℕ) → Place
flat_place (accepted r) = record { refusal = 0; place = r.0; length = r.1 }
flat_place (refused k) = record { refusal = k; place = 0; length = 0 }

-- of a frame that was found: with the number of heads read
unfoldable pub flat_frame : Answer ((ℕ × ℕ) × ℕ) → FramePart
flat_frame (accepted r) = record { refusal = 0; place = r.0.0; length = r.0.1; heads = r.1 }
flat_frame (refused k) = record { refusal = k; place = 0; length = 0; heads = 0 }

-- a line's kind, as the header numbers it
abbrev pub kind_number : LineKind → ℕ
kind_number kind.Other = 0
kind_number kind.Registers = 1
kind_number kind.Status = 2
kind_number kind.Tracepoint = 3
kind_number kind.Variable = 4
kind_number kind.Target = 5

unfoldable pub flat_line : Answer (LineKind × (ℕ × ℕ)) → Line
flat_line (accepted r) = record { refusal = 0; kind = kind_number r.0; place = r.1.0; length = r.1.1 }
flat_line (refused k) = record { refusal = k; kind = 0; place = 0; length = 0 }

-- a block that stands at a place: its letter, `R`, `M` or `V`, and what its kind carries; the rest is 0
abbrev pub shown_block : ℕ → Carried → Block
shown_block p registers = record { refusal = 0; letter = 0x52; number = 0; place = p; address = 0; length = 0; value = pos 0 }
shown_block p (memory a n) = record { refusal = 0; letter = 0x4D; number = 0; place = p; address = a; length = n; value = pos 0 }
shown_block p (variable n v) = record { refusal = 0; letter = 0x56; number = n; place = p; address = 0; length = 0; value = v }

unfoldable pub flat_block : Answer (ℕ × Carried) → Block
flat_block (accepted r) = shown_block r.0 r.1
flat_block (refused k) = record { refusal = k; letter = 0; number = 0; place = 0; address = 0; length = 0; value = pos 0 }

unfoldable pub flat_value : Answer ℤ → Value
flat_value (accepted v) = record { refusal = 0; value = v }
flat_value (refused k) = record { refusal = k; value = pos 0 }

unfoldable pub flat_length : Answer ℕ → Length
flat_length (accepted n) = record { refusal = 0; length = n }
flat_length (refused k) = record { refusal = k; length = 0 }

-- which trace of a pair
abbrev pub side_number : Side → ℕ
side_number first = 0
side_number second = 1

unfoldable pub flat_pair : Answer (Side × (ℕ × ℕ)) → PairPart
flat_pair (accepted r) = record { refusal = 0; trace = side_number r.0; place = r.1.0; length = r.1.1 }
flat_pair (refused k) = record { refusal = k; trace = 0; place = 0; length = 0 }

-- ---- a selection: `keep` is 0 for drop, and any other number for keep

abbrev pub selection_in : Selection → edit.Selection
selection_in s = record { ranges = s.ranges; count = s.count; keep = not (eqb s.keep 0) }

unfoldable pub flat_selection : edit.Selection → Selection
flat_selection s = record { ranges = s.ranges; count = s.count; keep = cond s.keep 1 0 }

-- a call that gives x and is lent `out` answers r, which `flat` makes, and leaves l there
pub record FlatLent {A R : Type 0} (flat : Answer ℕ → R) (x : Answer (List A)) (out : List A) (r : R) (l : List A) : Type 0 where
  pub answers : r ≡ flat (answer x out)
  pub leaves : l ≡ exit x out

-- it answers and leaves what a call does whose answer it makes a struct
pub flat_lent : {A R : Type 0} (flat : Answer ℕ → R) {x : Answer (List A)} {out l : List A} {n : Answer ℕ} {r : R}
    → r ≡ flat n → Lent x out n l → FlatLent flat x out r l
flat_lent flat e h = record { answers = e ∙ ap flat h.answers; leaves = h.leaves }
