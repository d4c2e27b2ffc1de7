-- What is counted and the lines of the heads that are left are all lines.
use Rattle.std.proofs.Common.{◌≡◌, ◌+◌, length}
use Rattle.fields.specs.Lists.{concat_map}
use Rattle.gdb_listing.specs.Text.{line_of}
use Rattle.gdb_listing.specs.Rows.{heads_left}
use Rattle.gdb_listing.proofs.lines_length.Given as goal

abbrev pub invariant-loop-head : goal.invariant-loop-head
invariant-loop-head l =
    (goal.iterator-loop-head).can_next l.head-iterator × (goal.iterator-loop-head).is_finite l.head-iterator
    × (l.len + length (concat_map line_of (heads_left l.head-iterator)) ≡ length (concat_map line_of (heads_left l.fn.heads)))
