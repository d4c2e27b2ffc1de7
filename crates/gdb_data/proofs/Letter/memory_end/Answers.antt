-- A memory block that is cut, and one whose bytes are counted with its two numbers.
use Rattle.std.proofs.Common.{arith}
use Rattle.gdb_data.proofs.BlockLaws.{LetterAt, memory_cut, memory_long}
use Rattle.gdb_data.proofs.Letter.memory_end.Goals as goal

pub returns-then-self-lt11 : goal.returns-then-self-lt11
returns-then-self-lt11 c =
    let h : LetterAt c.args.format c.args.self.d.now c.args.self.at = record { inside = c.args.self.inside } in
    memory_cut h (omega arith)

pub returns : goal.returns
returns c =
    let h : LetterAt c.args.format c.args.self.d.now c.args.self.at = record { inside = c.args.self.inside } in
    memory_long h (omega arith) c.u16_at-length.ensures c.bytes_end.ensures
