-- The number, and the byte behind it.
use Rattle.std.proofs.Common.{[], ◌∷◌, arith}
use Rattle.gdb_listing.specs.DecimalLaws.{ended-length, wrote_ended}
use Rattle.gdb_listing.specs.Written.{room_then}
use Rattle.gdb_listing.proofs.Writer.put_ended.Goals as goal

pub put_number-requires : goal.put_number-requires
put_number-requires c = omega (arith, ended-length c.args.n c.args.end, c.requires)

pub put_byte-requires : goal.put_byte-requires
put_byte-requires c = room_then (c.args.end ∷ []) c.put_number.ensures (omega (arith, ended-length c.args.n c.args.end, c.requires))

pub returns : goal.returns
returns c = wrote_ended c.args.n c.args.end c.put_number.ensures c.put_byte.ensures
