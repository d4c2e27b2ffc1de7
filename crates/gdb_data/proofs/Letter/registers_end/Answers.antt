-- The first register block of its frame, or the refusal.
use Rattle.std.proofs.Common.{arith, ◌+◌}
use Rattle.gdb_format.specs.Opening.{size_meaning}
use Rattle.gdb_data.proofs.BlockLaws.{LetterAt, is_none, is-second, is-first, registers-none, registers-some}
use Rattle.gdb_data.proofs.Letter.registers_end.Goals as goal

pub returns-then-self-ne82 : goal.returns-then-self-ne82
returns-then-self-ne82 c =
    λ f. let h : LetterAt f c.args.self.d.now c.args.self.at = record { inside = c.args.self.inside } in
    is_none h (size_meaning c.args.size) c.args.seen (search) c.requires

pub returns-then-seen : goal.returns-then-seen
returns-then-seen c =
    λ f. let h : LetterAt f c.args.self.d.now c.args.self.at = record { inside = c.args.self.inside } in
    is-second h (size_meaning c.args.size) c.args.seen (search) c.if-seen.true

pub returns-in_default : goal.returns-in_default
returns-in_default c =
    λ f. let h : LetterAt f c.args.self.d.now c.args.self.at = record { inside = c.args.self.inside } in
    is-first h (size_meaning c.args.size) c.args.seen (search) c.if-seen.false
    (registers-none c.args.self.d.now (c.args.self.at + 1) (omega (arith, c.args.self.inside)) (search))

pub returns : goal.returns
returns c =
    λ f. let h : LetterAt f c.args.self.d.now c.args.self.at = record { inside = c.args.self.inside } in
    is-first h (size_meaning c.args.size) c.args.seen (search) c.if-seen.false
    (registers-some c.args.self.d.now (c.args.self.at + 1) (omega (arith, c.args.self.inside)) c.in-Some.is c.bytes_end.ensures)
