-- How a file is to be read: the caller's settings, and the format that they name.
-- Assumes nothing.
use Rattle.std.specs.Prelude.{cond, ℕ, zero, suc, eqb}
use Rattle.refusals.specs.Refusal.{bad_argument}
use Rattle.fields.specs.Answer.{Answer, accepted, refused, next}
use Rattle.fields.specs.declared.Order.{Order}
use Rattle.fields.specs.declared.Order.TheVariants.{Little, Big}
use Rattle.gdb_format.specs.declared.Base.{Base}
use Rattle.gdb_format.specs.declared.Base.TheVariants.{Ten, Sixteen}
use Rattle.gdb_format.specs.declared.Settings.{Settings}
use Rattle.gdb_format.specs.declared.Format.{Format}

-- byte order is not recorded in a GDB trace, so the caller gives it: 0 little, 1 big
abbrev pub order_of : ℕ → Answer Order
order_of zero = accepted Little
order_of (suc zero) = accepted Big
order_of (suc (suc n)) = refused bad_argument

-- what `Base` says
abbrev pub radix : Base → ℕ
radix Ten = 10
radix Sixteen = 16

-- the base of the R line is given by its number, 16 or 10
abbrev pub base_of : ℕ → Answer Base
base_of n = cond (eqb n 16) (accepted Sixteen) (cond (eqb n 10) (accepted Ten) (refused bad_argument))

abbrev pub format_in : Order → ℕ → Answer Format
format_in o n = next (base_of n) (λ b. accepted (record { order = o; base = b }))

abbrev pub settings_of : Settings → Answer Format
settings_of s = next (order_of s.order) (λ o. format_in o s.base)

-- base 16 unless the caller says 10
abbrev pub default_settings : ℕ → Settings
default_settings o = record { order = o; base = 16 }
