-- The heads that are left lead where all lead.
use Rattle.std.proofs.Common.{◌≡◌, ◌-◌}
use Rattle.gdb_frames.specs.Nth.{nth_head}
use Rattle.gdb_frames.proofs.nth_head.Given as goal

abbrev pub invariant-loop : goal.invariant-loop
invariant-loop l = nth_head l.format l.s (l.n - l.counter) l.at ≡ nth_head l.format l.s l.n l.from
