-- Which numbers the questions about a trace.dat file can refuse with.
-- Assumes nothing.
use Rattle.std.specs.Prelude.{ℕ, List, [], ◌∷◌, ◌++◌}
use Rattle.refusals.specs.Refusal.{not_found}
use Rattle.fields.specs.Refuses.{Refuses, OneOf, refuses_never, refuses_next, refuses_in}
use Rattle.fields.specs.Element.{nth-numbers}
use Rattle.dat_format.specs.Layout.{ranges}
use Rattle.dat_format.specs.Numbers.{dat_numbers, dat_numbers_lem}
use Rattle.tracedat.specs.Questions.{summed, cpu_range}

-- 1, and 14 to 17
pub summary-numbers : (b : List ℕ) → Refuses (OneOf dat_numbers) (summed b)
unfolding summed
summary-numbers b = refuses_next (dat_numbers_lem b) (λ h. refuses_never)

-- and 12
abbrev pub range_numbers : List ℕ
range_numbers = dat_numbers ++ not_found ∷ []

pub cpu-range-numbers : (i : ℕ) (b : List ℕ) → Refuses (OneOf range_numbers) (cpu_range i b)
unfolding cpu_range
cpu-range-numbers i b = refuses_next (refuses_in dat_numbers _ (dat_numbers_lem b)) (λ h. nth-numbers (ranges h.tail.ending) i tt)
