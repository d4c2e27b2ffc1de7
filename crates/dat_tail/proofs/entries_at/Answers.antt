-- The entries are there just where their bytes are.
use Rattle.std.proofs.Common.{◌∙◌}
use Rattle.dat_tail.proofs.OptionLaws.{entries_taken}
use Rattle.dat_tail.proofs.entries_at.Goals as goal

pub returns : goal.returns
returns c = λ o. let a = c.args in c.bytes_at.ensures ∙ entries_taken o a.s.now a.n a.at
