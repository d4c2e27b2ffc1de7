-- The lines of the rows that a walk meets, as they are written and counted.
-- Assumes nothing.
use Rattle.std.specs.Prelude.{◌≡◌, ℕ, ◌*◌, ◌≤◌, List, [], ◌∷◌, ◌++◌, length}
use Rattle.fields.specs.Lists.{concat_map}
use Rattle.gdb_read.specs.Steps.{Row}
use Rattle.gdb_frames.specs.Rows.{rows_from}
use Rattle.gdb_listing.specs.Text.{line_of, listing_limit}
use Rattle.gdb_listing.specs.Written.{Puts, Left, left_none}
use Rattle.gdb_listing.specs.declared.Heads.{Heads}

-- the lines that are left to write, by the rows that are left
module _ {before v out : List ℕ} {start at : ℕ} (rows : List Row) (l : Left before start v out at (concat_map line_of rows)) where
  pub lines_end : rows ≡ [] → Puts before start v at out
  lines_end e = left_none (rw e at l)

  pub lines_on : (r : Row) (more : List Row) → rows ≡ r ∷ more → Left before start v out at (line_of r ++ concat_map line_of more)
  lines_on r more e = rw e at l

-- the rows of n frames, few enough to be counted, and their lines are short
pub record Listable (rows : List Row) (n : ℕ) : Type 0 where
  pub count : length rows ≡ n
  pub few : n ≤ listing_limit
  pub short : length (concat_map line_of rows) ≤ 18 * n

-- the rows that are left to a walk
abbrev pub heads_left : Heads → List Row
heads_left h = rows_from h.format h.file.now h.left h.at
