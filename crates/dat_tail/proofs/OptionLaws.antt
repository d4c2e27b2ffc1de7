-- What the steps over the options and over the CPU entries answer in each case that the code tells apart.
-- Assumes nothing.
use Rattle.std.specs.Prelude.{◌≡◌, ◌≢◌, refl, Bool, true, false, cond, ℕ, zero, suc, ◌+◌, ◌-◌, ◌*◌, ◌<◌, ◌≤◌, List, [], ◌∷◌, length, drop, eqb}
use Rattle.std.proofs.Common.{sym, ap, ◌∙◌, le_refl, lt_of_not-le, arith, length-drop, ne_eqb}
use Rattle.std.proofs.Math.Decide.{dec_le}
use Rattle.std.proofs.Math.Logic.{by_cases}
use Rattle.refusals.specs.Refusal.{field_past_file}
use Rattle.fields.specs.Number.{Bytes, word_at}
use Rattle.fields.specs.Answer.{Answer, accepted, refused, next, next_cong}
use Rattle.fields.specs.Reader.{Reader, give, bytes, num, seen_to, pass_at}
use Rattle.fields.specs.Takes.{Takes, shorter, takes-bytes, takes_then, takes-num, takes_less}
use Rattle.fields.specs.At.{bytes-short, bytes-at, place_of}
use Rattle.fields.specs.Got.{shown_of}
use Rattle.fields.specs.declared.Order.{Order}
use Rattle.dat_format.specs.Pieces.{times, sized}
use Rattle.dat_format.specs.Header.{Opt}
use Rattle.dat_format.specs.Decode.{options_f, options, range}
use Rattle.dat_format.specs.Entries.{entries-read, entries-short}
use Rattle.dat_format.specs.ExactPieces.{exact_sized}
use Rattle.dat_read.specs.Read.{stopped, gone_on, at_end, bytes_there, number_read, Sized, sized-end}

-- ---- the count of the reading

takes-sized : (o : Order) (w : ℕ) → Takes w (sized o w)
takes-sized o w = takes_then w (takes-num o w field_past_file) (λ n. takes_less n 0 (omega arith) (takes-bytes n field_past_file))

-- an option of type t, and those after it
abbrev Later : Order → ℕ → ℕ → Reader (List Opt)
Later o f t b = next (sized o 4 b) (λ d. next (options_f f o d.1) (λ l. accepted (record { type = t; body = d.0 } ∷ l.0, l.1)))

-- the end of the list, or more
abbrev EndOr : Bool → Reader (List Opt) → Reader (List Opt)
EndOr t more = cond t (give []) more

-- any count that is large enough gives the same
same_fuel : (o : Order) (f g : ℕ) (b : List ℕ) → length b ≤ f → length b ≤ g → options_f f o b ≡ options_f g o b
same_fuel o zero zero b hf hg = refl
same_fuel o zero (suc g) [] hf hg = refl
same_fuel o zero (suc g) (x ∷ b) hf hg = absurd (omega arith)
same_fuel o (suc f) zero [] hf hg = refl
same_fuel o (suc f) zero (x ∷ b) hf hg = absurd (omega arith)
same_fuel o (suc f) (suc g) b hf hg =
    next_cong (num o 2 field_past_file b) _ _ (λ r e.
    let k : length r.1 < length b = shorter 2 (num o 2 field_past_file) (omega arith) (takes-num o 2 field_past_file) b r.0 r.1 e in
    by r (eqb r.0 0) (λ d l. same_fuel o f g d (omega arith) (omega arith)))
  where
    by : (r : ℕ × List ℕ) (t : Bool) → ((d : List ℕ) → length d < length r.1 → options_f f o d ≡ options_f g o d)
        → EndOr t (Later o f r.0) r.1 ≡ EndOr t (Later o g r.0) r.1
    by r true ih = refl
    by r false ih =
        next_cong (sized o 4 r.1) _ _ (λ d e.
        let m : length d.1 < length r.1 = shorter 4 (sized o 4) (omega arith) (takes-sized o 4) r.1 d.0 d.1 e in
        ap (λ x. next x (λ l. accepted (record { type = r.0; body = d.0 } ∷ l.0, l.1))) (ih d.1 m))

options_eq : (o : Order) (b : List ℕ) → options o b ≡ options_f (suc (length b)) o b
unfolding options
options_eq o b = same_fuel o (length b) (suc (length b)) b (le_refl (length b)) (omega arith)

-- ---- a turn of the walk over the options

module _ (o : Order) (s : List ℕ) (at : ℕ) where
  abbrev Kind_at : Answer (Unit {0} × ℕ) → Type 0
  Kind_at x = x ≡ pass_at (bytes 2 field_past_file) s at

  pub options_none : {n : ℕ} → Kind_at (refused n) → refused n ≡ pass_at (options o) s at
  options_none e = rw (options_eq o (drop at s), stopped (bytes 2 field_past_file) s at e)

  module _ {b : ℕ} (eb : Kind_at (accepted (tt, b))) {t : ℕ} (et : t ≡ word_at o 2 s at) where
    kind_read : num o 2 field_past_file (drop at s) ≡ accepted (t, drop b s)
    kind_read = number_read o 2 field_past_file s at (omega arith) eb et

    inside : (at + 2 ≤ length s) × (b ≡ at + 2)
    inside = bytes_there 2 field_past_file s at eb (omega arith)

    pub options_end : t ≡ 0 → accepted (tt, b) ≡ pass_at (options o) s at
    options_end z = rw (options_eq o (drop at s), kind_read, z, place_of s b (omega (arith, inside.0, inside.1)))

    module _ (z : t ≢ 0) where
      pub options_stop : {n : ℕ} → refused n ≡ pass_at (sized o 4) s b → refused n ≡ pass_at (options o) s at
      options_stop e = rw (options_eq o (drop at s), kind_read, ne_eqb t 0 z, stopped (sized o 4) s b e)

      pub options_turn : Bytes s → {m : ℕ} → accepted (tt, m) ≡ pass_at (sized o 4) s b → pass_at (options o) s m ≡ pass_at (options o) s at
      unfolding options
      options_turn given {m} e =
          let g : Sized o 4 s b m = gone_on (exact_sized o 4) given (omega (arith, inside.0, inside.1)) e in
          let k : at < m = omega (arith, inside.1, sized-end o 4 s b m g) in
          let more = options_f (length (drop at s)) o (drop m s) in
          let f : options_f (length (drop m s)) o (drop m s) ≡ more =
          same_fuel o (length (drop m s)) (length (drop at s)) (drop m s) (le_refl (length (drop m s))) (omega (arith, length-drop m s, length-drop at s)) in
          ap (seen_to (λ a. tt) (length s)) f
          ∙ rw (options_eq o (drop at s), kind_read, ne_eqb t 0 z, g.reads)
          (sym (shown_of {B = List Opt} (λ a. tt) (length s) more (λ l. record { type = t; body = g.value } ∷ l)))

-- ---- the entries

-- so many bytes as n entries take
pub entries_taken : (o : Order) (s : List ℕ) (n at : ℕ) → pass_at (bytes (16 * n) field_past_file) s at ≡ pass_at (times n (range o)) s at
entries_taken o s n at =
    by_cases (dec_le at (length s)) (inside at) (λ l. rw (at_end s at (omega arith)) (inside (length s) (le_refl (length s))))
  where
    inside : (at : ℕ) → at ≤ length s → pass_at (bytes (16 * n) field_past_file) s at ≡ pass_at (times n (range o)) s at
    inside at h =
        by_cases (dec_le (16 * n) (length s - at))
        (λ l. rw (bytes-at s at (16 * n) field_past_file h l, entries-read o s n at (omega arith)))
        (λ l. rw (bytes-short s at (16 * n) field_past_file (lt_of_not-le l), entries-short o s n at h (lt_of_not-le l)))
