-- The search for the latest turn by turn, and the search for a variable.
-- Assumes nothing.
use Rattle.std.specs.Prelude.{◌≡◌, ℕ, ◌+◌, true, false, List, [], ◌∷◌, ◌++◌, length, drop, refl}
use Rattle.std.proofs.Common.{sym, ap, ap₂, ◌∙◌, arith}
use Rattle.std.proofs.Math.Option.{Option, none, some}
use mathlib.Core.List.{reverse_aux, append_assoc, append-nil}
use Rattle.refusals.specs.Refusal.{not_found}
use Rattle.fields.specs.Lists.{clash}
use Rattle.fields.specs.Answer.{Answer, accepted, refused, next_cong}
use Rattle.fields.specs.Reader.{step_at, to_end}
use Rattle.fields.specs.At.{step_none, step_read, walk_end, walk_refused}
use Rattle.fields.specs.Element.{nth}
use Rattle.gdb_format.specs.Trace as trace
use Rattle.gdb_format.specs.Trace.{Block, opening, put_block, put_frame}
use Rattle.gdb_format.specs.Decode.{block, read}
use Rattle.gdb_format.specs.ExactBlock.{takes-block}
use Rattle.gdb_format.specs.declared.Settings.{Settings}
use Rattle.gdb_format.specs.declared.Format.{Format}
use Rattle.gdb_data.specs.Blocks.{block_seen, has_number}
use Rattle.gdb_frames.specs.Places.{placed, frames_at}
use Rattle.gdb_frames.specs.Questions.{asked}
use Rattle.gdb_frames.specs.PlaceLaws.{placed_then}
use Rattle.gdb_blocks.specs.Earliest.{or_later, earliest}
use Rattle.gdb_blocks.specs.Latest.{latest}
use Rattle.gdb_blocks.proofs.Latest.{latest_then}
use Rattle.gdb_blocks.specs.Held.{value_of}
use Rattle.gdb_blocks.specs.Search.{in_frame, variable_at, found, value_in, value_there}
use Rattle.gdb_blocks.specs.SearchLaws.{Met, here_then}

-- ---- a search for the latest, in all blocks

-- a search from `from` that has come to `at`: `answer` is the latest of the blocks that it met, and in these and those that are left is found what the whole
-- search finds
pub record Passed {B : Type 0} (f : Format) (size : Option ℕ) (g : ℕ × Block → Option B) (d : List ℕ) (from at : ℕ) (answer : Answer B) : Type 0 where
  pub blocks : List (ℕ × Block)
  pub so_far : answer ≡ latest g blocks
  pub same : found f size (λ bs. latest g (blocks ++ bs)) d at ≡ found f size (latest g) d from

pub passed_none : {B : Type 0} (f : Format) (size : Option ℕ) (g : ℕ × Block → Option B) (d : List ℕ) (from : ℕ)
    → Passed f size g d from from (refused not_found)
passed_none f size g d from = record { blocks = []; so_far = refl; same = refl }

module _ {B : Type 0} {f : Format} {size : Option ℕ} {g : ℕ × Block → Option B} {d : List ℕ} {from at : ℕ} {answer : Answer B}
    (w : Passed f size g d from at answer) where
  module _ {C : Type 0} (view : ℕ → Block → C) where
    pub passed-all : accepted none ≡ step_at view (block f size) d at → answer ≡ found f size (latest g) d from
    passed-all e =
        w.so_far ∙ ap (latest g) (sym (append-nil w.blocks))
        ∙ (rw (walk_end view (block f size) (takes-block f size) d at (sym e)) at w.same)

    pub passed-fault : {n : ℕ} → refused n ≡ step_at view (block f size) d at → refused n ≡ found f size (latest g) d from
    passed-fault {n} e = rw (walk_refused view (block f size) (takes-block f size) d at n (sym e)) at w.same

  -- what this block gives counts before what those ahead of it gave
  pub passed_more : {C : Type 0} {view : ℕ → Block → C} {v : C} {m : ℕ} (t : Met view f size d at v m) {o : Option B} → g (at, t.turn.element) ≡ o
      → Passed f size g d from m (or_later o answer)
  passed_more {m = m} t e =
      let x : ℕ × Block = (at, t.turn.element) in
      record {
        blocks = w.blocks ++ x ∷ [];
        so_far = sym (latest_then g w.blocks x ∙ ap₂ or_later e (sym w.so_far));
        same =
            next_cong (to_end (block f size) (drop m d)) _ _ (λ bs i. ap (latest g) (append_assoc w.blocks (x ∷ []) (placed (put_block f) m bs)))
            ∙ sym (here_then t (λ bs. latest g (w.blocks ++ bs))) ∙ w.same;
      }

-- ---- a search for a variable, which keeps the place of its latest block

-- the search has come to `at`, and what it found so far is the value of the block at `latest`
pub record Keeping (f : Format) (size : Option ℕ) (n : ℕ) (d : List ℕ) (from at latest : ℕ) : Type 0 where
  pub passed : Passed f size (value_in n) d from at (value_there f size d latest)

-- at first this is the data's end, where no block stands
pub keep-none : (f : Format) (size : Option ℕ) (n : ℕ) (d : List ℕ) (from : ℕ) → Keeping f size n d from from (length d)
keep-none f size n d from =
    record { passed = rw (step_none block_seen (block f size) d (length d) (omega arith)) (passed_none f size (value_in n) d from) }

module _ {f : Format} {size : Option ℕ} {n : ℕ} {d : List ℕ} {from at latest m : ℕ} (w : Keeping f size n d from at latest) where
  -- a block of the variable: its place is kept
  pub keep_own : Met (λ i b. has_number n b) f size d at true m → Keeping f size n d from m at
  keep_own t = own t.turn.element refl t.turn.shown
    where
      there : step_at block_seen (block f size) d at ≡ accepted (some (block_seen at t.turn.element, m))
      there =
          step_read block_seen (block f size) d at t.turn.element m (omega (arith, t.turn.later, t.turn.within)) t.turn.within t.turn.read

      own : (b : Block) → t.turn.element ≡ b → has_number n b ≡ true → Keeping f size n d from m at
      own (trace.registers b) e h = clash (cc)
      own (trace.memory a b) e h = clash (cc)
      own (trace.variable k v) e h = record { passed = rw (there, e) (passed_more w.passed t {o = some v} (ap (value_of n) e ∙ rw h)) }

  -- any other: the place stays
  pub keep-other : Met (λ i b. has_number n b) f size d at false m → Keeping f size n d from m latest
  keep-other t = record { passed = passed_more w.passed t (other t.turn.element t.turn.shown) }
    where
      other : (b : Block) → has_number n b ≡ false → value_of n b ≡ none
      other (trace.registers b) e = refl
      other (trace.memory a b) e = refl
      other (trace.variable k v) e = rw e

-- ---- the question

-- a variable is looked for in blocks as they stand, and not in their places
pub variable_anywhere : (s : Settings) (b : List ℕ) (n v : ℕ) → asked s b (in_frame n (latest (value_in v))) ≡ asked s b (variable_at n v)
variable_anywhere s b n v =
    next_cong (read s b) _ _ (λ x i. let f = x.0 in let t = x.1 in
    next_cong (nth (frames_at f t) n) _ (λ r. latest (value_of v) r.1.blocks) (λ r i. anywhere f r.1.blocks (r.0 + 6) [] [] refl)
    ∙ placed_then (put_frame f) t.frames (length (opening t.lines)) n (λ r. latest (value_of v) r.blocks))
  where
    anywhere : (f : Format) (xs : List Block) (at : ℕ) (ps : List (ℕ × Block)) (ys : List Block) → earliest (value_in v) ps ≡ earliest (value_of v) ys
        → earliest (value_in v) (reverse_aux (placed (put_block f) at xs) ps) ≡ earliest (value_of v) (reverse_aux xs ys)
    anywhere f [] at ps ys e = e
    anywhere f (x ∷ xs) at ps ys e = anywhere f xs (at + length (put_block f x)) ((at, x) ∷ ps) (x ∷ ys) (ap (or_later (value_of v x)) e)
