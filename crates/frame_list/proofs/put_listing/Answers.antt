-- The output has room for every listing, so the listing is written.
use Rattle.std.proofs.Common.{◌≤◌, length, arith}
use Rattle.fields.specs.Given.{bytes-given}
use Rattle.gdb_listing.specs.Text.{text, listed}
use Rattle.gdb_listing.specs.Outcome.{room_writes}
use Rattle.gdb_listing.specs.Table.{room_enough}
use Rattle.frame_list.proofs.put_listing.Goals as goal

pub unwrap-requires : goal.unwrap-requires
unwrap-requires c =
    let b = c.args.file.now in
    let room : length (text (listed b)) ≤ length c.args.output.now = omega (arith, c.requires, room_enough b (bytes-given b c.type_inv.file)) in
    room_writes (text (listed b)) c.args.output.now room c.listing.result c.listing.ensures
