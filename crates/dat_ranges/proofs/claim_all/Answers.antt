-- At each turn the next entry's units are claimed, or it overlaps one behind it.
use Rattle.std.proofs.Common.{refl, ◌∙◌}
use Rattle.dat_ranges.proofs.ApartLaws.{walk_start, next_on, walk_on, walk_stop}
use Rattle.dat_ranges.proofs.claim_all.Goals as goal

pub loop-entry-init : goal.loop-entry-init
loop-entry-init c =
    let e = c.rchunks_exact-entry-items.ensures in
    rw c.into_iter-entry-iterator.ensures.into_iter_gives (e.size, walk_start _ _ c.requires.empty c.requires.whole e.parts e.remainder_len)

pub claim_range-requires : goal.claim_range-requires
claim_range-requires c =
    let i = c.loop-entry.invariant in
    let x = c.in-Some.ensures.steps in
    (i.1.marked.words, next_on i.1 _ _ x.2.0 (x.2.1 ∙ i.0) c.range_in.ensures c.requires.each)

pub returns-then-not-claim_range : goal.returns-then-not-claim_range
returns-then-not-claim_range c =
    let i = c.loop-entry.invariant in
    let x = c.in-Some.ensures.steps in
    walk_stop i.1 _ _ x.2.0 (x.2.1 ∙ i.0) c.range_in.ensures c.requires.each c.claim_range.result c.claim_range.new.map
    c.if-not-claim_range.true c.claim_range.ensures

pub loop-entry-preserved : goal.loop-entry-preserved
loop-entry-preserved c =
    let i = c.loop-entry.invariant in
    let x = c.in-Some.ensures.steps in (
      x.0 ∙ i.0,
      walk_on i.1 _ _ x.2.0 (x.2.1 ∙ i.0) c.range_in.ensures c.requires.each c.claim_range.result c.if-not-claim_range.false c.claim_range.ensures,
    )
