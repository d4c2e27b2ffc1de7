-- What the search over the located frame's blocks finds.
use Rattle.std.proofs.Common.{◌∙◌}
use Rattle.gdb_blocks.specs.Earliest.{earliest}
use Rattle.gdb_blocks.specs.Search.{registers_in}
use Rattle.gdb_blocks.specs.SearchLaws.{frame-given, blocks-told}
use Rattle.gdb_blocks.proofs.registers_place.Goals as goal

pub returns : goal.returns
returns c =
    c.frame_registers.ensures ∙ blocks-told (frame-given c.in_ok-frame.frame c.type_inv.file c.in_ok-frame.ensures) (earliest registers_in)
