-- A memory or variable block by its letter.
use Rattle.std.proofs.Common.{arith}
use Rattle.fields.specs.Given.{at_case, handed_on}
use Rattle.gdb_data.specs.Blocks.{end_meaning}
use Rattle.gdb_data.proofs.BlockLaws.{LetterAt, is_memory, is_variable_lem}
use Rattle.gdb_data.proofs.Letter.other_end.Goals as goal

pub returns-in_err-memory_end-in-77 : goal.returns-in_err-memory_end-in-77
returns-in_err-memory_end-in-77 c =
    let h : LetterAt c.args.format c.args.self.d.now c.args.self.at = record { inside = c.args.self.inside } in
    rw (handed_on c.from_residual.ensures.1) ((λ e. omega (arith, e, c.in-77.is)), is_memory h c.in-77.is (at_case end_meaning c.in_err-memory_end-in-77.was c.memory_end.ensures))

pub returns-in_ok-memory_end-in-77 : goal.returns-in_ok-memory_end-in-77
returns-in_ok-memory_end-in-77 c =
    let h : LetterAt c.args.format c.args.self.d.now c.args.self.at = record { inside = c.args.self.inside } in
    ((λ e. omega (arith, e, c.in-77.is)), is_memory h c.in-77.is (at_case end_meaning c.in_ok-memory_end-in-77.was c.memory_end.ensures))

pub returns-in_err-bytes_end-in-86 : goal.returns-in_err-bytes_end-in-86
returns-in_err-bytes_end-in-86 c =
    let h : LetterAt c.args.format c.args.self.d.now c.args.self.at = record { inside = c.args.self.inside } in
    rw (handed_on c.from_residual-in_err-bytes_end-in-86.ensures.1) ((λ e. omega (arith, e, c.in-86.is)), is_variable_lem h c.in-86.is (at_case end_meaning c.in_err-bytes_end-in-86.was c.bytes_end.ensures))

pub returns-in_ok-bytes_end-in-86 : goal.returns-in_ok-bytes_end-in-86
returns-in_ok-bytes_end-in-86 c =
    let h : LetterAt c.args.format c.args.self.d.now c.args.self.at = record { inside = c.args.self.inside } in
    ((λ e. omega (arith, e, c.in-86.is)), is_variable_lem h c.in-86.is (at_case end_meaning c.in_ok-bytes_end-in-86.was c.bytes_end.ensures))
