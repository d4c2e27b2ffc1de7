-- To write the lines of the heads that are left is all that is left to do.
use Rattle.std.proofs.Common.{◌≡◌}
use Rattle.fields.specs.Lists.{concat_map}
use Rattle.gdb_listing.specs.Text.{line_of}
use Rattle.gdb_listing.specs.Written.{Left}
use Rattle.gdb_listing.specs.Rows.{heads_left}
use Rattle.gdb_listing.proofs.Writer.put_lines.Given as goal

abbrev pub invariant-loop-head : goal.invariant-loop-head
invariant-loop-head l =
    (goal.iterator-loop-head).can_next l.head-iterator × (goal.iterator-loop-head).is_finite l.head-iterator
    × Left l.fn.self.out.now l.fn.self.at (concat_map line_of (heads_left l.fn.heads)) l.self.out.now l.self.at
    (concat_map line_of (heads_left l.head-iterator))
    × (l.self.out.ghost_name ≡ l.fn.self.out.ghost_name)
