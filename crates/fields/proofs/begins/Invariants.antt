-- What is left of the word begins what is left of the list just where the whole does.
use Rattle.std.proofs.Common.{◌≡◌, ◌≤◌, length, drop}
use Rattle.fields.specs.Word.{starts}
use Rattle.fields.proofs.begins.Given as goal

abbrev pub invariant-loop-k : goal.invariant-loop-k
invariant-loop-k l = (l.k ≤ length l.word) × (starts (drop l.k l.word) (drop l.k l.l) ≡ starts l.word l.l)
