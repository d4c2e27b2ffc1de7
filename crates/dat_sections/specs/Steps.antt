-- A step that is made again and again, and a count of such steps.
-- Assumes nothing: these are definitions.
use Rattle.std.specs.Prelude.{◌≡◌, ℕ, zero, suc, List, Result}
use Rattle.refusals.specs.Refusal.{field_past_file}
use Rattle.refusals.specs.declared.Refusal.{Refusal}
use Rattle.fields.specs.Answer.{Answer, next, accepted}
use Rattle.fields.specs.Number.{word_at}
use Rattle.fields.specs.Reader.{bytes, pass_at}
use Rattle.fields.specs.declared.Order.{Order}
use Rattle.dat_read.specs.Steps.{step_meaning}

-- what is answered at a place is what `step` says of it
abbrev pub StepsAs : (ℕ → Answer (Unit {0} × ℕ)) → (ℕ → Result ℕ Refusal → Type 0) → Type 0
StepsAs step answers = (at : ℕ) (r : Result ℕ Refusal) → answers at r → step_meaning r ≡ step at

-- n steps, each from where the one before it ended
abbrev pub repeat : ℕ → (ℕ → Answer (Unit {0} × ℕ)) → ℕ → Answer (Unit {0} × ℕ)
repeat zero step at = accepted (tt, at)
repeat (suc n) step at = next (step at) (λ r. repeat n step r.1)

-- a count at `at`, and that many steps behind it
abbrev pub counted_by : Order → (ℕ → Answer (Unit {0} × ℕ)) → List ℕ → ℕ → Answer (Unit {0} × ℕ)
counted_by o step s at = next (pass_at (bytes 4 field_past_file) s at) (λ r. repeat (word_at o 4 s at) step r.1)
