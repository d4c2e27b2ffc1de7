-- The name from `at` on ends where that from `i` on does.
use Rattle.std.proofs.Common.{◌≡◌}
use Rattle.fields.specs.Reader.{pass_at}
use Rattle.dat_format.specs.Pieces.{name}
use Rattle.dat_sections.proofs.name_at.Given as goal

abbrev pub invariant-loop-i : goal.invariant-loop-i
invariant-loop-i l = pass_at name l.s l.i ≡ pass_at name l.s l.at
