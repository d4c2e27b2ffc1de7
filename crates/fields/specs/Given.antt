-- What a place of a proof hands over, in the words of the laws: the bytes of a lent slice, and a contract at a known case.
-- Assumes nothing.
use Rattle.std.specs.Prelude.{◌≡◌, ℕ, List, get_or, Result, Err}
use Rattle.std.specs.Result.{IsErrAnd}
use Rattle.std.proofs.lemmas.Result.{err_from_is_err_and}
use Rattle.refusals.specs.declared.Refusal.{Refusal}
use Rattle.std.proofs.Common.{sym, ap, ◌∙◌, arith, Fits}
use Rattle.std.specs.Int.{w8}
use Rattle.fields.specs.Number.{Bytes, bytes-all}

-- the elements of a lent slice of bytes are bytes: `bytes-given s k.shared-slice-known.given`
pub bytes-given : (s : List ℕ) → ((i : ℕ) → Fits w8 (get_or s i 0)) → Bytes s
bytes-given s h = bytes-all s (λ i. omega (arith, h i))

-- what a contract says of a result, said of the case that the result is: `at_case meaning c.found.given.1 (search)`
pub at_case : {R A : Type 0} (f : R → A) {r k : R} {x : A} → r ≡ k → f r ≡ x → f k ≡ x
at_case f e h = ap f (sym e) ∙ h

-- what a `?` hands on is the refusal that it met: `handed_on c.from_residual.ensures.1`
pub handed_on : {T : Type 0} {r : Result T Refusal} {e : Refusal} → IsErrAnd r (λ x. x ≡ e) → r ≡ Err e
handed_on {r = r} h = let p = err_from_is_err_and r h in p.1 ∙ ap Err p.2
