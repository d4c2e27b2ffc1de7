-- A byte order by its number, as a caller gives it and as a trace.dat header states it.
-- Assumes nothing: this is a definition.
use Rattle.std.specs.Prelude.{ℕ, zero, suc, Result, Ok, Err}
use Rattle.fields.specs.declared.Order.{Order}
use Rattle.fields.specs.declared.Order.TheVariants.{Little, Big}
use Rattle.fields.specs.declared.UnknownOrder.{UnknownOrder}

abbrev pub order_numbered : ℕ → Result Order UnknownOrder
order_numbered zero = Ok Little
order_numbered (suc zero) = Ok Big
order_numbered (suc (suc n)) = Err (record { 0 = suc (suc n) })
