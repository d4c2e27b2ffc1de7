-- A word whose units were free is claimed, and the walk goes on; a taken one stops it.
use Rattle.std.proofs.Common.{◌≡◌, ◌/◌, sym, ◌∙◌, arith, eqb-true}
use borrow.Author.Tests.{eqb-false}
use Rattle.dat_ranges.proofs.MapLaws.{claiming_on, claiming_stop, claiming_last}
use Rattle.dat_ranges.proofs.units.claim.Goals as goal

pub returns-then-not-claim_bits : goal.returns-then-not-claim_bits
returns-then-not-claim_bits c =
    claiming_stop c.loop-word.invariant (omega arith) (omega arith)
    (eqb-false _ 0 (sym c.claim_bits.ensures.value ∙ c.if-not-claim_bits.true))

pub loop-word-preserved : goal.loop-word-preserved
loop-word-preserved c =
    claiming_on c.loop-word.invariant (omega arith) (omega arith) c.bits_from-bits-in-loop-word.ensures
    (eqb-true _ 0 (sym c.claim_bits.ensures.value ∙ c.if-not-claim_bits.false)) c.claim_bits.ensures.map_after

pub returns : goal.returns
returns c =
    let e : c.loop-word.word ≡ c.args.last / 64 = omega arith in
    claiming_last c.args.last (rw e at c.loop-word.invariant) c.bits_to.ensures (omega arith) _
    c.claim_bits-2.ensures.value c.claim_bits-2.ensures.map_after
