-- What the steps over a word answer.
-- Assumes nothing: these are definitions.
use Rattle.std.specs.Prelude.{cond, ℕ, List, Result}
use Rattle.refusals.specs.declared.Refusal.{Refusal}
use Rattle.refusals.specs.Refusal.{bad_constant}
use Rattle.fields.specs.Answer.{Answer, accepted, refused}
use Rattle.fields.specs.Meaning.{answer_by}
use Rattle.dat_format.specs.Header as header
use Rattle.dat_format.specs.Decode.{is_word, word_in}
use Rattle.dat_tail.specs.declared.Word.{Word}
use Rattle.dat_tail.specs.declared.Word.TheVariants as word

abbrev pub word_meaning : Word → header.Word
word_meaning word.Options = header.options_word
word_meaning word.Latency = header.latency_word
word_meaning word.Flyrecord = header.fly_word

-- the word that ten bytes are
abbrev pub word_told : List ℕ → Answer header.Word
word_told b = cond (is_word b) (accepted (word_in b)) (refused bad_constant)

abbrev pub word_seen : ℕ → header.Word → header.Word
word_seen at w = w

-- a word, and the place after it
abbrev pub word_step_meaning : Result (Word × ℕ) Refusal → Answer (header.Word × ℕ)
word_step_meaning r = answer_by (λ p. (word_meaning p.0, p.1)) r
