-- What a step over a piece answers.
-- Assumes nothing: these are definitions.
use Rattle.std.specs.Prelude.{ℕ, Result}
use Rattle.refusals.specs.declared.Refusal.{Refusal}
use Rattle.fields.specs.Answer.{Answer}
use Rattle.fields.specs.Meaning.{answer_by}
use Rattle.dat_read.specs.declared.pieces.Width.{Width}
use Rattle.dat_read.specs.declared.pieces.Width.TheVariants.{Four, Eight}

-- the place after what was read
abbrev pub step_meaning : Result ℕ Refusal → Answer (Unit {0} × ℕ)
step_meaning r = answer_by (λ m. (tt, m)) r

-- how many bytes a size field has
abbrev pub width_meaning : Width → ℕ
width_meaning Four = 4
width_meaning Eight = 8
