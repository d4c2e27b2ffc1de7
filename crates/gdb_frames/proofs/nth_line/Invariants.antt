-- The lines that are left lead where all lead.
use Rattle.std.proofs.Common.{◌≡◌, ◌-◌}
use Rattle.gdb_frames.specs.Nth.{nth_line}
use Rattle.gdb_frames.proofs.nth_line.Given as goal

abbrev pub invariant-loop : goal.invariant-loop
invariant-loop l = nth_line l.s (l.j - l.counter) l.at ≡ nth_line l.s l.j l.from
