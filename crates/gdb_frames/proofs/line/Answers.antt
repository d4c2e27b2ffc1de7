-- The part that the place names is handed back.
use Rattle.std.proofs.Common.{ap, ◌∙◌}
use Rattle.fields.specs.Given.{bytes-given}
use Rattle.fields.specs.Answer.{accepted, next}
use Rattle.gdb_frames.specs.Places.{part_named}
use Rattle.gdb_frames.specs.Questions.{asked, line_place}
use Rattle.gdb_frames.specs.PlaceLaws.{handed, line-in_file}
use Rattle.gdb_frames.specs.Located.{line-place_of}
use Rattle.gdb_frames.proofs.line.Goals as goal

pub returns : goal.returns
returns c =
    handed c.args.file.now c.bytes.result.now (asked c.args.settings c.args.file.now (line_place c.args.j))
    (line-in_file c.args.settings c.args.file.now c.args.j (bytes-given c.args.file.now c.type_inv.file))
    (c.bytes.ensures ∙ ap (λ x. part_named c.args.file.now (next x (λ r. accepted r.1))) c.in-Ok.ensures
    ∙ ap (part_named c.args.file.now) (line-place_of c.args.settings c.args.file.now c.args.j))
