-- What CPU ranges are judged to be.
-- Assumes nothing: these are definitions, and one law.
use Rattle.std.specs.Prelude.{◌≡◌, ℕ, ◌+◌, ◌*◌, ◌/◌, ◌≤◌, Bool, true, cond, ◌&&◌, List, length, nat_le, Result, Ok, Err}
use Rattle.std.proofs.Common.{le-leb}
use Rattle.refusals.specs.Refusal.{limit}
use Rattle.refusals.specs.declared.Refusal.{Refusal}
use Rattle.refusals.specs.declared.Refusal.TheVariants.{BadRange, RangesOverlap}
use Rattle.fields.specs.declared.Order.{Order}
use Rattle.dat_format.specs.Header.{Range}
use Rattle.dat_format.specs.Tests.{is_page, in_file, all, all_apart}
use Rattle.dat_format.specs.Entries.{entries}
use Rattle.dat_ranges.specs.declared.CpuRange.{CpuRange}
use Rattle.dat_ranges.specs.declared.Test.{Test}
use Rattle.dat_ranges.specs.declared.Fault.{Fault}
use Rattle.dat_ranges.specs.declared.Fault.TheVariants.{Misplaced, Overlap}

abbrev pub range_of : ℕ → ℕ → Range
range_of a n = record { offset = a; size = n }

abbrev pub stored : CpuRange → Range
stored r = range_of r.offset r.size

-- the entries that a part of a file holds, one behind the other
abbrev pub entries_in : Order → List ℕ → List Range
entries_in o b = entries o b (length b / 16) 0

abbrev pub test_meaning : Test → Range → Bool
test_meaning t = in_file t.page t.end t.total

-- alignment is told for page sizes only, and overlap in files up to the limit
abbrev pub possible : Test → Bool
possible t = nat_le t.total limit && is_page t.page

-- ranges of which one does not pass are misplaced, whether two overlap or not
abbrev pub judgement : (Range → Bool) → List Range → Result (Unit {0}) Fault
judgement t rs = cond (all t rs) (cond (all_apart rs) (Ok (tt {0})) (Err Overlap)) (Err Misplaced)

-- of n entries from `from` on; misplaced where they are not all there, or the test cannot be made
abbrev pub judged : Test → Order → List ℕ → ℕ → ℕ → Result (Unit {0}) Fault
judged t o s n from = cond (possible t && nat_le (from + 16 * n) (length s)) (judgement (test_meaning t) (entries o s n from)) (Err Misplaced)

pub judged-there : (t : Test) (o : Order) (s : List ℕ) (n from : ℕ) → possible t ≡ true → from + 16 * n ≤ length s
    → judged t o s n from ≡ judgement (test_meaning t) (entries o s n from)
judged-there t o s n from e h = rw (e, le-leb (from + 16 * n) (length s) h)

-- the refusal that a fault is answered with
abbrev pub refusal_of : Fault → Refusal
refusal_of Misplaced = BadRange
refusal_of Overlap = RangesOverlap
