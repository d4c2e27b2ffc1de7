-- A selection of frames by their tracepoint numbers.
-- Assumes nothing: these are definitions.
use Rattle.std.specs.Prelude.{Bool, true, false, cond, not, ◌&&◌, ◌||◌, ℕ, List, [], ◌∷◌, map, take, leb}
use Rattle.std.specs.Bool.{beq}
use Rattle.refusals.specs.Refusal.{bad_argument}
use Rattle.fields.specs.Answer.{Answer, accepted, refused}
use Rattle.gdb_select.specs.declared.Range.{Range}
use Rattle.gdb_select.specs.declared.Selection as lent

-- inclusive ranges of tracepoint numbers, and a sense: keep or drop. Keep selects the numbers in some range; drop selects the others.
pub record Selection : Type 0 where
  pub keep : Bool
  pub ranges : List (ℕ × ℕ)

abbrev pub in_some : List (ℕ × ℕ) → ℕ → Bool
in_some [] n = false
in_some (r ∷ rs) n = (leb r.0 n && leb n r.1) || in_some rs n

abbrev pub selects : Selection → ℕ → Bool
selects c n = beq c.keep (in_some c.ranges n)

-- the opposite has the other sense
abbrev pub opposite : Selection → Selection
opposite c = record { keep = not c.keep; ranges = c.ranges }

-- ---- what the caller gives: eight ranges, of which the first `count` are stated

abbrev pub range_of : Range → ℕ × ℕ
range_of r = (r.low, r.high)

abbrev pub meaning : lent.Selection → Selection
meaning s = record { keep = s.keep; ranges = map range_of (take s.count s.ranges) }

-- low not above high
abbrev pub in_order : List (ℕ × ℕ) → Bool
in_order [] = true
in_order (r ∷ rs) = leb r.0 r.1 && in_order rs

-- 0 to 8 ranges
abbrev pub valid : lent.Selection → Bool
valid s = leb s.count 8 && in_order (meaning s).ranges

abbrev pub selection_of : lent.Selection → Answer Selection
selection_of s = cond (valid s) (accepted (meaning s)) (refused bad_argument)

abbrev pub against : lent.Selection → lent.Selection
against s = record { ranges = s.ranges; count = s.count; keep = not s.keep }
