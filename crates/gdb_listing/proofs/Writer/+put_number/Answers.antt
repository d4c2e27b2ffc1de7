-- The digits before the last, and the last.
use Rattle.std.proofs.Common.{arith}
use Rattle.gdb_listing.specs.DecimalLaws.{one-room, more_room, wrote_one, wrote_more}
use Rattle.gdb_listing.specs.Written.{puts_long}
use Rattle.gdb_listing.proofs.Writer.+put_number.Goals as goal
use Rattle.gdb_listing.proofs.Writer.+put_number.Goals.{then-n-ge10, else-n-ge10}

pub put_number-requires : goal.put_number-requires
put_number-requires t c =
    let m = more_room c.args.self.now.at c.args.n _ c.requires (omega arith) in
    (omega arith, omega (arith, m))

pub put_byte-requires : goal.put_byte-requires
put_byte-requires t c =
    elim c.if-n-ge10.branch [
      | then-n-ge10 w ↦ let p = w.put_number.ensures.puts in
          rw w.self-is (omega (arith, more_room c.args.self.now.at c.args.n _ c.requires (omega arith), p.ends, puts_long p))
      | else-n-ge10 w ↦ rw w.self-is (omega (arith, one-room c.args.self.now.at c.args.n _ c.requires (omega arith)))
    ]

pub returns : goal.returns
returns t c =
    elim c.if-n-ge10.branch [
      | then-n-ge10 w ↦ wrote_more (omega arith) w.put_number.ensures (rw w.self-is at c.put_byte.ensures)
      | else-n-ge10 w ↦ wrote_one (omega arith) (rw w.self-is at c.put_byte.ensures)
    ]
