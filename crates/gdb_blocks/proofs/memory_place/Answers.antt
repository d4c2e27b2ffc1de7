-- What the search over the located frame's data finds.
use Rattle.std.proofs.Common.{ap, ◌∙◌}
use Rattle.gdb_format.specs.Opening.{size_meaning}
use Rattle.gdb_blocks.specs.Earliest.{earliest}
use Rattle.gdb_blocks.specs.Search.{memory_in, blocks_from}
use Rattle.gdb_blocks.specs.SearchLaws.{frame-given, blocks-told}
use Rattle.gdb_blocks.proofs.memory_place.Goals as goal

pub returns : goal.returns
returns c =
    let l = c.in_ok-frame.frame in
    c.find_memory.ensures
    ∙ ap (λ d. earliest (memory_in c.args.address) (blocks_from l.layout.format (size_meaning l.layout.size) d l.head.place)) c.up_to_data-data.ensures
    ∙ blocks-told (frame-given l c.type_inv.file c.in_ok-frame.ensures) (earliest (memory_in c.args.address))
