-- The questions about a trace.dat file.
-- Assumes nothing: these are definitions.
use Rattle.std.specs.Prelude.{ℕ, List, length}
use Rattle.fields.specs.Answer.{Answer, accepted, next}
use Rattle.fields.specs.Element.{nth}
use Rattle.dat_format.specs.Header.{Range}
use Rattle.dat_format.specs.Layout.{ranges}
use Rattle.dat_format.specs.Decode.{decode}
use Rattle.dat_read.specs.Summary as parts
use Rattle.dat_read.specs.declared.summary.Summary.{Summary}

-- the summary of the header that was read
unfoldable pub summed : List ℕ → Answer Summary
summed b = next (decode b) (λ h. accepted (parts.summary (length b) h))

-- CPU i's range: one of size 0 is answered as stored; for a latency file, and where there is no such CPU, it is refused with 12
unfoldable pub cpu_range : ℕ → List ℕ → Answer Range
cpu_range i b = next (decode b) (λ h. nth (ranges h.tail.ending) i)
