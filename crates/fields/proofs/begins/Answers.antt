use Rattle.std.proofs.Common.{arith, sym}
use Rattle.fields.specs.Word.{starts-short}
use Rattle.fields.proofs.begins.Goals as goal

pub returns-then-l-word : goal.returns-then-l-word
returns-then-l-word c = sym (starts-short c.args.word.now c.args.l.now (omega arith))
