-- What the code's answers say: a value or the number of a refusal, and a value that may be missing.
-- Assumes nothing: these are definitions.
use Rattle.std.specs.Prelude.{Option, Some, None, Result, Ok, Err}
use Rattle.std.proofs.Math.Option as maybe
use Rattle.refusals.specs.declared.Refusal.{Refusal}
use Rattle.refusals.specs.Number.{number}
use Rattle.fields.specs.Answer.{Answer, accepted, refused}

-- a value says what `view` makes of it
abbrev pub answer_by : {A B : Type 0} → (A → B) → Result A Refusal → Answer B
answer_by view (Ok a) = accepted (view a)
answer_by view (Err e) = refused (number e)

-- a value says itself
abbrev pub answer_of : {A : Type 0} → Result A Refusal → Answer A
answer_of r = answer_by (λ a. a) r

abbrev pub held_by : {A B : Type 0} → (A → B) → Option A → maybe.Option B
held_by view None = maybe.none
held_by view (Some a) = maybe.some (view a)

abbrev pub held : {A : Type 0} → Option A → maybe.Option A
held o = held_by (λ a. a) o
