-- The word stands behind what was written.
use Rattle.std.proofs.Common.{refl}
use Rattle.gdb_listing.specs.Written.{puts_word}
use Rattle.gdb_listing.proofs.Writer.put_word.Goals as goal

pub returns : goal.returns
returns c =
    let t = c.args.self.now in
    record { puts = puts_word t.out.now t.at c.args.word.now _ c.requires c.copy_from_slice.ensures.after; lent = refl }
