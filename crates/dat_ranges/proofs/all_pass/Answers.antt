-- An entry that passes leaves the others to tell, and one that does not tells for all.
use Rattle.std.proofs.Common.{◌∙◌}
use Rattle.dat_format.specs.Tests.{tested}
use Rattle.dat_ranges.proofs.EntryLaws.{all-stop, all_on}
use Rattle.dat_ranges.proofs.RangeLaws.{possible_page}
use Rattle.dat_ranges.proofs.all_pass.Goals as goal

pub in_file-requires : goal.in_file-requires
in_file-requires c = possible_page c.args.test c.requires

pub returns-then-not-in_file : goal.returns-then-not-in_file
returns-then-not-in_file c =
    let i = c.loop-entry.invariant in
    let x = c.in-Some.ensures.steps in
    all-stop i.1 _ _ x.1.0 (x.1.1 ∙ i.0) c.range_in.ensures (tested c.in_file.ensures c.if-not-in_file.true)

pub loop-entry-preserved : goal.loop-entry-preserved
loop-entry-preserved c =
    let i = c.loop-entry.invariant in
    let x = c.in-Some.ensures.steps in
    (x.0 ∙ i.0, all_on i.1 _ _ x.1.0 (x.1.1 ∙ i.0) c.range_in.ensures (tested c.in_file.ensures c.if-not-in_file.false))
