-- The first size that is missing or false refuses both; else both are read.
use Rattle.fields.specs.Given.{handed_on}
use Rattle.dat_format.specs.Tests.{tested}
use Rattle.dat_walk.proofs.OpeningLaws.{no_long, bad_long, no_page, bad_page, sizes_read}
use Rattle.dat_walk.proofs.opening.sizes_at.Goals as goal

pub returns-in_err-place : goal.returns-in_err-place
returns-in_err-place c = let a = c.args in rw (handed_on c.from_residual.ensures.1) (no_long a.s.now a.order a.at c.in_err-place.ensures)

pub returns-then-not-is_long : goal.returns-then-not-is_long
returns-then-not-is_long c =
    let a = c.args in bad_long a.s.now a.order a.at c.in_ok-place.ensures (tested c.is_long.ensures c.if-not-is_long.true)

pub returns-in_err-end : goal.returns-in_err-end
returns-in_err-end c =
    let a = c.args in
    rw (handed_on c.from_residual-in_err-end.ensures.1)
    (no_page a.s.now a.order a.at c.in_ok-place.ensures (tested c.is_long.ensures c.if-not-is_long.false) c.in_err-end.ensures)

pub returns-then-not-is_page : goal.returns-then-not-is_page
returns-then-not-is_page c =
    let a = c.args in
    bad_page a.s.now a.order a.at c.in_ok-place.ensures (tested c.is_long.ensures c.if-not-is_long.false) c.in_ok-end.ensures
    c.u32_at-page.ensures (tested c.is_page.ensures c.if-not-is_page.true)

pub returns : goal.returns
returns c =
    let a = c.args in
    sizes_read a.s.now a.order a.at c.in_ok-place.ensures (tested c.is_long.ensures c.if-not-is_long.false) c.in_ok-end.ensures
    c.u32_at-page.ensures (tested c.is_page.ensures c.if-not-is_page.false)
