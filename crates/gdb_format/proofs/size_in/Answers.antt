-- One digit more keeps the number small, and what was read; a byte that is none ends it.
use Rattle.std.proofs.Common.{arith, ap, sym, ◌∙◌, ◌≡◌, ◌+◌, ◌<◌, get_or}
use Rattle.gdb_format.specs.Lines.{digit}
use Rattle.gdb_format.specs.Opening.{below}
use Rattle.gdb_format.proofs.DigitLaws.{BaseOf, stays_small, digit_more, no_digit, digit-some, digit-none, digit-there}
use Rattle.gdb_format.proofs.size_in.Goals as goal

-- what the code has of the base
base_known : (c : goal.In_ok-d) → BaseOf c.args.format c.radix-radix.result c.most_digits-most.result
base_known c = record { counts = c.radix-radix.ensures; digits = c.most_digits-most.ensures }

-- the digit that was read
digit_read : (c : goal.In_ok-d) → (c.in_ok-d.d ≡ digit (get_or c.args.l.now (2 + c.loop-b.b-index) 0)) × (c.in_ok-d.d < c.radix-radix.result)
digit_read c =
    digit-some
    (sym c.in_ok-d.was ∙ c.digit_in.ensures ∙ ap (λ x. below c.radix-radix.result (digit x)) (digit-there c.args.l.now c.loop-b.b-index (omega arith)))

pub overflow_mul-v : goal.overflow_mul-v
overflow_mul-v c =
    omega (arith, stays_small (base_known c) c.loop-b.invariant (digit_read c).0 (omega arith) (digit_read c).1)

pub overflow_add-v : goal.overflow_add-v
overflow_add-v c =
    omega (arith, stays_small (base_known c) c.loop-b.invariant (digit_read c).0 (omega arith) (digit_read c).1)

pub returns-in_err-d : goal.returns-in_err-d
returns-in_err-d c =
    let b : BaseOf c.args.format c.radix-radix.result c.most_digits-most.result =
    record { counts = c.radix-radix.ensures; digits = c.most_digits-most.ensures } in
    let n =
    sym c.in_err-d.was ∙ c.digit_in.ensures ∙ ap (λ x. below c.radix-radix.result (digit x)) (digit-there c.args.l.now c.loop-b.b-index (omega arith)) in
    rw c.from_residual.ensures (no_digit b c.loop-b.invariant (omega arith) (digit-none n))

pub loop-b-preserved : goal.loop-b-preserved
loop-b-preserved c =
    let i = c.loop-b.b-index in
    let e : 2 + (i + 1) ≡ 2 + i + 1 = omega arith in
    rw e (digit_more (base_known c) c.loop-b.invariant (digit_read c).0 (omega arith) (digit_read c).1)
