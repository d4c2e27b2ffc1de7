-- The units from that of the first byte to that of the last are the range's.
use Rattle.std.proofs.Common.{pos_of_ne-zero}
use Rattle.dat_ranges.specs.Ranges.{stored}
use Rattle.dat_ranges.proofs.MapLaws.{range_units, claims_same}
use Rattle.dat_ranges.proofs.units.claim_range.Goals as goal

pub returns : goal.returns
returns c =
    let a = c.args in
    claims_same (range_units (stored a.range) (pos_of_ne-zero c.if-range-eq0.false))
    c.claim.result a.map.now c.claim.new.map c.claim.ensures
