-- The numbers returned on refusal, as document 01's table has them, and what the requests of document 02 add to it.
-- Assumes nothing: these are definitions.
use Rattle.std.specs.Prelude.{ℕ, List, [], ◌∷◌}

-- the longest file, 64 MiB
abbrev pub limit : ℕ
limit = 67108864

-- a file, or a join's result, is longer than 67,108,864 bytes
abbrev pub too_long : ℕ
too_long = 1

-- an argument is wrong: byte order not 0 or 1; a range with low above high; more than 8 ranges
abbrev pub bad_argument : ℕ
bad_argument = 2

-- the head differs or is cut short
abbrev pub bad_head : ℕ
bad_head = 3

-- the description has no empty line
abbrev pub no_empty_line : ℕ
no_empty_line = 4

-- an ended `R ` line breaks its form, or a second `R ` or `status ` line
abbrev pub bad_line : ℕ
bad_line = 5

-- 1 to 5 bytes remain where a frame head should start, and do not begin with two bytes of 0
abbrev pub short_head : ℕ
short_head = 6

-- a frame's data runs past the file
abbrev pub data_past_file : ℕ
data_past_file = 7

-- a block letter other than R, M, V
abbrev pub bad_letter : ℕ
bad_letter = 8

-- a block runs past its frame's data
abbrev pub block_past_data : ℕ
block_past_data = 9

-- an `R` block where no R line was given
abbrev pub no_register_size : ℕ
no_register_size = 10

-- the result is longer than the output, or there are more frames than records
abbrev pub no_room : ℕ
no_room = 11

-- no such line, frame, block, CPU; no covering block; no such register block or variable
abbrev pub not_found : ℕ
not_found = 12

-- the openings to be joined differ
abbrev pub openings_differ : ℕ
openings_differ = 13

-- a trace.dat field or named piece runs past the file
abbrev pub field_past_file : ℕ
field_past_file = 14

-- a trace.dat fixed string, flag, long size or page size is wrong
abbrev pub bad_constant : ℕ
bad_constant = 15

-- CPU count above 1,024; a CPU range misaligned, before the header's end or past the file
abbrev pub bad_range : ℕ
bad_range = 16

-- two CPU ranges overlap
abbrev pub ranges_overlap : ℕ
ranges_overlap = 17

-- a bad end mark: two bytes of 0 where a frame head should start, and not exactly four bytes of 0 from them to the file's end
abbrev pub bad_mark : ℕ
bad_mark = 18

-- a second `R` block in a frame
abbrev pub second_registers : ℕ
second_registers = 24

-- the table's numbers, in its order
abbrev pub table : List ℕ
table =
    too_long ∷ bad_argument ∷ bad_head ∷ no_empty_line ∷ bad_line ∷ short_head ∷ data_past_file ∷ bad_letter ∷ block_past_data ∷ no_register_size ∷ no_room ∷ not_found
    ∷ openings_differ ∷ field_past_file ∷ bad_constant ∷ bad_range ∷ ranges_overlap ∷ bad_mark ∷ second_registers ∷ []
