-- The number that a refusal has in the table.
-- Assumes nothing: this is a definition.
use Rattle.std.specs.Prelude.{ℕ}
use Rattle.refusals.specs.Refusal.{too_long, bad_argument, bad_head, no_empty_line, bad_line, short_head, data_past_file, bad_letter, block_past_data, no_register_size, no_room, not_found, openings_differ, field_past_file, bad_constant, bad_range, ranges_overlap, bad_mark, second_registers}
use Rattle.refusals.specs.declared.Refusal.{Refusal}
use Rattle.refusals.specs.declared.Refusal.TheVariants as refusal

abbrev pub number : Refusal → ℕ
number refusal.TooLong = too_long
number refusal.BadArgument = bad_argument
number refusal.BadHead = bad_head
number refusal.NoEmptyLine = no_empty_line
number refusal.BadLine = bad_line
number refusal.ShortHead = short_head
number refusal.DataPastFile = data_past_file
number refusal.BadLetter = bad_letter
number refusal.BlockPastData = block_past_data
number refusal.NoRegisterSize = no_register_size
number refusal.NoRoom = no_room
number refusal.NotFound = not_found
number refusal.OpeningsDiffer = openings_differ
number refusal.FieldPastFile = field_past_file
number refusal.BadConstant = bad_constant
number refusal.BadRange = bad_range
number refusal.RangesOverlap = ranges_overlap
number refusal.BadMark = bad_mark
number refusal.SecondRegisters = second_registers
