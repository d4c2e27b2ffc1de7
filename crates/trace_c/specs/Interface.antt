-- The number of the C interface. It changes with every struct, call and number that include/tufakpeni.h declares.
-- Assumes nothing: this is a definition.
use Rattle.std.specs.Prelude.{ℕ}

abbrev pub interface : ℕ
interface = 6
