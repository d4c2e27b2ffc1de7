-- Which settings name a format: the byte order 0 or 1, and the base 10 or 16.
-- Assumes nothing.
use Rattle.std.specs.Prelude.{◌≡◌, refl, Bool, true, false, cond, ◌↔◌, ℕ, zero, suc, eqb}
use Rattle.std.proofs.Common.{eqb-true}
use Rattle.refusals.specs.Refusal.{bad_argument}
use Rattle.fields.specs.Answer.{accepted, refused, never, next_inv, accepted-one}
use Rattle.fields.specs.declared.Order.{Order}
use Rattle.fields.specs.declared.Order.TheVariants.{Little, Big}
use Rattle.gdb_format.specs.Settings.{radix, order_of, base_of, format_in, settings_of}
use Rattle.gdb_format.specs.declared.Base.{Base}
use Rattle.gdb_format.specs.declared.Base.TheVariants.{Ten, Sixteen}
use Rattle.gdb_format.specs.declared.Settings.{Settings}
use Rattle.gdb_format.specs.declared.Format.{Format}

-- the caller's number of a byte order
abbrev pub order_number : Order → ℕ
order_number Little = 0
order_number Big = 1

-- the settings are the numbers of a format
abbrev pub Names : Settings → Format → Type 0
Names s f = (s.order ≡ order_number f.order) × (s.base ≡ radix f.base)

-- a byte order that is neither is refused
pub neither : (n : ℕ) → (n ≡ 0 → ⊥) → (n ≡ 1 → ⊥) → order_of n ≡ refused bad_argument
neither zero z o = absurd (z refl)
neither (suc zero) z o = absurd (o refl)
neither (suc (suc n)) z o = refl

order_of_lem : (n : ℕ) (o : Order) → order_of n ≡ accepted o → n ≡ order_number o
order_of_lem zero o e = cc
order_of_lem (suc zero) o e = cc
order_of_lem (suc (suc n)) o e = never e

of_order : (o : Order) → order_of (order_number o) ≡ accepted o
of_order Little = refl
of_order Big = refl

base_of_lem : (n : ℕ) (b : Base) → base_of n ≡ accepted b → n ≡ radix b
base_of_lem n b e = by (eqb n 16) (eqb n 10) refl refl e
  where
    by : (t u : Bool) → eqb n 16 ≡ t → eqb n 10 ≡ u → cond t (accepted Sixteen) (cond u (accepted Ten) (refused bad_argument)) ≡ accepted b → n ≡ radix b
    by true u i j e = let g : Sixteen ≡ b = accepted-one e in rw (← g) (eqb-true n 16 i)
    by false true i j e = let g : Ten ≡ b = accepted-one e in rw (← g) (eqb-true n 10 j)
    by false false i j e = never e

of_base : (b : Base) → base_of (radix b) ≡ accepted b
of_base Ten = refl
of_base Sixteen = refl

-- settings name a format exactly where they are its numbers
pub settings-name : (s : Settings) (f : Format) → (settings_of s ≡ accepted f) ↔ Names s f
settings-name s f = (forth, back)
  where
    forth : settings_of s ≡ accepted f → Names s f
    forth e =
        let p = next_inv (order_of s.order) (λ o. format_in o s.base) e in
        let q = next_inv (base_of s.base) (λ b. accepted (record { order = p.0; base = b })) p.2 in
        let g : record { order = p.0; base = q.0 } ≡ f = accepted-one q.2 in
        rw (← g) (order_of_lem s.order p.0 p.1, base_of_lem s.base q.0 q.1)

    back : Names s f → settings_of s ≡ accepted f
    back h = rw (h.0, h.1, of_order f.order, of_base f.base)
