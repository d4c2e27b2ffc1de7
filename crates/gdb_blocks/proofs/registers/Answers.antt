-- The part that the place names is handed back.
use Rattle.std.proofs.Common.{ap, ◌∙◌}
use Rattle.fields.specs.Given.{bytes-given}
use Rattle.gdb_frames.specs.Places.{part_named}
use Rattle.gdb_frames.specs.Questions.{asked, part-given}
use Rattle.gdb_frames.specs.PlaceLaws.{handed}
use Rattle.gdb_blocks.specs.Search.{registers_in, registers_at}
use Rattle.gdb_blocks.specs.SearchLaws.{registers-inside, earliest-in_file}
use Rattle.gdb_blocks.proofs.registers.Goals as goal

pub returns : goal.returns
returns c =
    let b = c.args.file.now in
    handed b c.part_of.result.now (asked c.args.settings b (registers_at c.args.n))
    (earliest-in_file c.args.settings b registers_in registers-inside c.args.n (bytes-given b c.type_inv.file))
    (c.part_of.ensures ∙ part-given b c.registers_place.result ∙ ap (part_named b) c.registers_place.ensures)
