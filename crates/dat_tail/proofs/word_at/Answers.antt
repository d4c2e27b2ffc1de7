-- Where ten bytes are there, they tell which word stands there, or that none does.
use Rattle.fields.specs.Given.{handed_on}
use Rattle.dat_tail.proofs.TailLaws.{no_word, word_there}
use Rattle.dat_tail.proofs.word_at.Goals as goal

pub returns-in_err-next : goal.returns-in_err-next
returns-in_err-next c = rw (handed_on c.from_residual.ensures.1) (no_word c.args.s.now c.args.at c.in_err-next.ensures)

pub returns-in_err-word : goal.returns-in_err-word
returns-in_err-word c =
    rw (handed_on c.from_residual-in_err-word.ensures.1) (word_there c.args.s.now c.args.at c.in_ok-next.ensures c.in_err-word.ensures)

pub returns : goal.returns
returns c = word_there c.args.s.now c.args.at c.in_ok-next.ensures c.in_ok-word.ensures
