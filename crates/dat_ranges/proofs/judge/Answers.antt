-- Where the entries are there, they are those in their part of the file.
use Rattle.std.proofs.Common.{sym, ap, ◌∙◌, leb-true}
use Rattle.dat_format.specs.Tests.{tested}
use Rattle.dat_ranges.specs.Ranges.{test_meaning, judgement, judged-there}
use Rattle.dat_ranges.proofs.EntryLaws.{entries_there}
use Rattle.dat_ranges.proofs.judge.Goals as goal

pub returns : goal.returns
returns c =
    let a = c.args in
    let p = tested c.is_possible.ensures c.if-not-is_possible.false in
    let h = leb-true _ _ (tested c.are_there.ensures c.if-not-are_there.false) in
    c.judge_in.ensures ∙ ap (judgement (test_meaning a.test)) (entries_there a.order a.s.now a.n a.from h)
    ∙ sym (judged-there a.test a.order a.s.now a.n a.from p h)
