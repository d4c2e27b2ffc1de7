-- The rows that a walk over heads meets. Over an accepted file they are what its frames show.
-- Assumes nothing.
use Rattle.std.specs.Prelude.{◌≡◌, refl, ℕ, zero, suc, ◌+◌, ◌-◌, ◌<◌, List, [], ◌∷◌, map, length}
use Rattle.std.proofs.Common.{ap, arith}
use Rattle.std.proofs.Math.Option.{Option, none, some}
use Rattle.fields.specs.Answer.{Answer, accepted, refused}
use Rattle.fields.specs.Reader.{step_at}
use Rattle.fields.specs.Element.{nth}
use Rattle.gdb_format.specs.Trace.{Frame, Trace, opening, put_frame}
use Rattle.gdb_format.specs.Decode.{frame_head}
use Rattle.gdb_format.specs.declared.Format.{Format}
use Rattle.gdb_read.specs.Steps.{Row, head_seen, frame_seen}
use Rattle.gdb_frames.specs.Places.{placed}
use Rattle.gdb_frames.specs.Questions.{table}
use Rattle.gdb_frames.specs.Nth.{nth_head, shown_nth}
use Rattle.gdb_frames.specs.File.{File}
use Rattle.gdb_frames.specs.Located.{head-nth}

-- a row and those after it; none where nothing stands
abbrev pub row_then : (ℕ → List Row) → Answer (Option (Row × ℕ)) → List Row
row_then more (accepted none) = []
row_then more (accepted (some r)) = r.0 ∷ more r.1
row_then more (refused k) = []

-- what n heads show from `at` on
abbrev pub rows_from : Format → List ℕ → ℕ → ℕ → List Row
rows_from f s zero at = []
rows_from f s (suc n) at = row_then (rows_from f s n) (step_at head_seen (frame_head f) s at)

-- a turn of the walk, by what stands at `at`
module _ (f : Format) (s : List ℕ) (at n : ℕ) where
  pub rows_zero : n ≡ 0 → rows_from f s n at ≡ []
  rows_zero e = rw e

  pub rows_none : accepted none ≡ step_at head_seen (frame_head f) s at → rows_from f s n at ≡ []
  rows_none e = by n
    where
      by : (n : ℕ) → rows_from f s n at ≡ []
      by zero = refl
      by (suc n) = rw (← e)

  pub rows_fault : (k : ℕ) → refused k ≡ step_at head_seen (frame_head f) s at → rows_from f s n at ≡ []
  rows_fault k e = by n
    where
      by : (n : ℕ) → rows_from f s n at ≡ []
      by zero = refl
      by (suc n) = rw (← e)

  pub rows_on : 0 < n → (v : Row) (m : ℕ) → accepted (some (v, m)) ≡ step_at head_seen (frame_head f) s at
      → rows_from f s n at ≡ v ∷ rows_from f s (n - 1) m
  rows_on h v m e = by n h
    where
      by : (n : ℕ) → 0 < n → rows_from f s n at ≡ v ∷ rows_from f s (n - 1) m
      by zero h = absurd (omega arith)
      by (suc n) h = let i : suc n - 1 ≡ n = omega arith in rw (← e, i)

-- what frames show that stand from `at` on
abbrev pub rows_shown : Format → ℕ → List Frame → List Row
rows_shown f at xs = map (λ r. frame_seen f r.0 r.1) (placed (put_frame f) at xs)

shown_length : (f : Format) (at : ℕ) (xs : List Frame) → length (rows_shown f at xs) ≡ length xs
shown_length f at [] = refl
shown_length f at (x ∷ xs) = ap suc (shown_length f (at + length (put_frame f x)) xs)

-- the walk meets them
rows_shown_lem : (f : Format) (s : List ℕ) (xs : List Frame) (at : ℕ)
    → ((n : ℕ) → n < length xs → nth_head f s n at ≡ shown_nth (frame_seen f) (put_frame f) (nth (placed (put_frame f) at xs) n))
    → rows_from f s (length xs) at ≡ rows_shown f at xs
rows_shown_lem f s [] at e = refl
rows_shown_lem f s (x ∷ xs) at e =
    let first = e 0 (omega arith) in
    rw first
    (ap (λ rows. frame_seen f at x ∷ rows) (rows_shown_lem f s xs (at + length (put_frame f x)) (λ n l. rw first at (e (suc n) (omega (arith, l))))))

-- one row per frame
pub table-long : (f : Format) (t : Trace) → length (table f t) ≡ length t.frames
table-long f t = shown_length f (length (opening t.lines)) t.frames

pub rows_table : (f : Format) (b : List ℕ) (t : Trace) → File f b t
    → rows_from f b (length t.frames) (length (opening t.lines)) ≡ table f t
rows_table f b t i = rows_shown_lem f b t.frames (length (opening t.lines)) (λ n l. head-nth f b t n i l)
