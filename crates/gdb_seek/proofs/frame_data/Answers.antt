-- The part that the place names is handed back.
use Rattle.std.proofs.Common.{rules, ap, ◌∙◌}
use Rattle.fields.specs.Given.{bytes-given}
use Rattle.gdb_frames.specs.Places.{part_named}
use Rattle.gdb_frames.specs.Questions.{part-given}
use Rattle.gdb_frames.specs.PlaceLaws.{handed}
use Rattle.gdb_seek.specs.Found.{data_found}
use Rattle.gdb_seek.specs.FoundLaws.{found-in-file}
use Rattle.gdb_seek.proofs.frame_data.Goals as goal

pub returns : goal.returns
returns c =
    let a = c.args in
    let b = a.file.now in
    handed b c.part_of.result.now (data_found a.settings b a.n) (found-in-file a.settings b a.n (bytes-given b c.type_inv.file))
    (c.part_of.ensures ∙ part-given b _ ∙ ap (part_named b) (search rules))
