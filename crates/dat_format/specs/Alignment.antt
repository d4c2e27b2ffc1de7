-- Which offsets are aligned: the multiples of the page size. The reader's definition goes by what is left over; C-15: of a power of two the
-- bits below it tell the same, so that nothing has to be divided.
-- Assumes nothing.
use Rattle.std.specs.Prelude.{◌≡◌, refl, Bool, true, false, ◌↔◌, ℕ, ◌-◌, ◌*◌, ◌/◌, ◌%◌, eqb}
use Rattle.std.proofs.Common.{sym, ap, ◌∙◌, div-add-mod', add-zero, eqb-true, eq-eqb}
use Rattle.std.proofs.Math.Nat.{mul-mod_left}
use Rattle.std.specs.Int.Bits.{bit_and}
use Rattle.std.proofs.lemmas.Nat.{and_mask}
use Rattle.dat_format.specs.Layout.{PageFits, Multiple}
use Rattle.dat_format.specs.Tests.{aligned}

alike : (r t : Bool) → (r ≡ true → t ≡ true) → (t ≡ true → r ≡ true) → r ≡ t
alike true t f g = sym (f refl)
alike false true f g = g refl
alike false false f g = refl

module _ (page n : ℕ) where
  none_left : (n % page ≡ 0) ↔ Multiple page n
  none_left = (
    (λ z. (n / page, sym (div-add-mod' n page) ∙ rw z (add-zero (n / page * page)))),
    (λ m. ap (λ n. n % page) m.1 ∙ mul-mod_left m.0 page),
  )

  pub aligned-is : (aligned page n ≡ true) ↔ Multiple page n
  aligned-is = ((λ e. none_left.0 (eqb-true (n % page) 0 e)), (λ m. eq-eqb (n % page) 0 (none_left.1 m)))

  -- C-15: of each page size, the bits of n below it are all 0 exactly where n is a multiple
  pub low_bits : PageFits page → (eqb (bit_and n (page - 1)) 0 ≡ true) ↔ Multiple page n
  low_bits f =
      let left : bit_and n (page - 1) ≡ n % page = rw f.2.1 (and_mask n f.2.0) in
      rw (← left) at aligned-is

  -- a test that says yes exactly to the multiples is the reader's
  pub aligned-told : {r : Bool} → (r ≡ true) ↔ Multiple page n → r ≡ aligned page n
  aligned-told {r} h = alike r (aligned page n) (λ e. aligned-is.1 (h.0 e)) (λ e. h.1 (aligned-is.0 e))
