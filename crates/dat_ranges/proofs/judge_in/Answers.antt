-- Ranges that pass lie on units.
use Rattle.dat_format.specs.Tests.{tested}
use Rattle.dat_ranges.specs.Ranges.{entries_in}
use Rattle.dat_ranges.proofs.RangeLaws.{pass_units}
use Rattle.dat_ranges.proofs.judge_in.Goals as goal

pub all_apart-requires-clause-each : goal.all_apart-requires-clause-each
all_apart-requires-clause-each c =
    let a = c.args in
    pass_units a.test c.requires.0 (entries_in a.order a.entries.now) (tested c.all_pass.ensures c.if-not-all_pass.false)
