-- The part that the place names is handed back.
use Rattle.std.proofs.Common.{ap, ◌∙◌}
use Rattle.fields.specs.Given.{bytes-given}
use Rattle.gdb_frames.specs.Places.{part_named}
use Rattle.gdb_frames.specs.Questions.{asked, part-given}
use Rattle.gdb_frames.specs.PlaceLaws.{handed}
use Rattle.gdb_blocks.specs.Search.{memory_in, memory_at}
use Rattle.gdb_blocks.specs.SearchLaws.{memory_inside, earliest-in_file}
use Rattle.gdb_blocks.proofs.memory.Goals as goal

pub returns : goal.returns
returns c =
    let b = c.args.file.now in
    handed b c.part_of.result.now (asked c.args.settings b (memory_at c.args.n c.args.address))
    (earliest-in_file c.args.settings b (memory_in c.args.address) (memory_inside c.args.address) c.args.n (bytes-given b c.type_inv.file))
    (c.part_of.ensures ∙ part-given b c.memory_place.result ∙ ap (part_named b) c.memory_place.ensures)
