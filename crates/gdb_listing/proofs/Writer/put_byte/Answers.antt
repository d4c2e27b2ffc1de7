-- One byte is written.
use Rattle.std.proofs.Common.{refl, arith}
use Rattle.gdb_listing.specs.Written.{puts_byte}
use Rattle.gdb_listing.proofs.Writer.put_byte.Goals as goal

pub returns : goal.returns
returns c =
    let t = c.args.self.now in
    record { puts = puts_byte t.out.now t.at c.args.b (omega (arith, c.requires)); lent = refl }
