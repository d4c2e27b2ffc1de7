-- What steps over a list of elements and over a name answer in each case that the code tells apart.
-- Assumes nothing.
use Rattle.std.specs.Prelude.{◌≡◌, ◌≢◌, refl, ℕ, zero, suc, ◌+◌, ◌-◌, ◌<◌, ◌≤◌, List, ◌∷◌, length, drop, get_or}
use Rattle.std.proofs.Common.{sym, ◌∙◌, arith, ne_eqb, drop_of_length-le}
use Rattle.refusals.specs.Refusal.{field_past_file}
use Rattle.fields.specs.Lists.{drop-one}
use Rattle.fields.specs.Number.{Bytes, word_at}
use Rattle.fields.specs.Answer.{Answer, accepted, refused}
use Rattle.fields.specs.Reader.{Reader, bytes, pass_at}
use Rattle.fields.specs.Exact.{Exact}
use Rattle.fields.specs.At.{place_of}
use Rattle.fields.specs.Got.{Got, shown_of}
use Rattle.fields.specs.declared.Order.{Order}
use Rattle.dat_format.specs.Pieces.{times, counted, name}
use Rattle.dat_read.specs.Read.{stopped, gone_on, bytes_there, number_read}
use Rattle.dat_sections.specs.Steps.{repeat, counted_by}

-- ---- a step that is made n times

module _ (step : ℕ → Answer (Unit {0} × ℕ)) (at n made : ℕ) (l : made < n) where
  left : n - made ≡ suc (n - (made + 1))
  left = omega arith

  repeat_stop : {k : ℕ} → refused k ≡ step at → refused k ≡ repeat (n - made) step at
  repeat_stop e = rw (left, ← e)

  pub repeat_turn : {m : ℕ} → accepted (tt, m) ≡ step at → repeat (n - (made + 1)) step m ≡ repeat (n - made) step at
  repeat_turn e = rw (left, ← e)

pub no_count : (o : Order) (step : ℕ → Answer (Unit {0} × ℕ)) (s : List ℕ) (at : ℕ) {k : ℕ} → refused k ≡ pass_at (bytes 4 field_past_file) s at
    → refused k ≡ counted_by o step s at
no_count o step s at e = rw (← e)

-- behind a count, the step that refuses tells for all
pub counted_stop : (o : Order) (step : ℕ → Answer (Unit {0} × ℕ)) (s : List ℕ) (at n made m : ℕ) {f k : ℕ}
    → accepted (tt, f) ≡ pass_at (bytes 4 field_past_file) s at → n ≡ word_at o 4 s at
    → made < n → repeat (n - made) step m ≡ repeat n step f → refused k ≡ step m → refused k ≡ counted_by o step s at
counted_stop o step s at n made m e f j h i = repeat_stop step m n made j i ∙ h ∙ rw (← e, f)

-- ---- elements behind their count

module _ {A : Type 0} {p : Reader A} {F : A → Type 0} {put : A → List ℕ} (x : Exact p F put) (s : List ℕ) (b : Bytes s) where
  abbrev Same : ℕ → ℕ → Type 0
  Same n at = repeat n (pass_at p s) at ≡ pass_at (times n p) s at

  -- as many elements as such steps
  times_steps : (n at : ℕ) → at ≤ length s → Same n at
  times_steps zero at h = rw (place_of s at h)
  times_steps (suc n) at h = by (pass_at p s at) refl (times_steps n)
    where
      by : (y : Answer (Unit {0} × ℕ)) → pass_at p s at ≡ y → ((m : ℕ) → m ≤ length s → Same n m) → Same (suc n) at
      by (refused k) e more = rw (e, stopped p s at (sym e))
      by (accepted r) e more =
          let g : Got p F put s at r.1 = gone_on x b h (sym e) in
          let rest = shown_of {B = List A} (λ a. tt {0}) (length s) (times n p (drop r.1 s)) (λ l. g.value ∷ l) in
          rw (e, g.reads) (more r.1 g.inside ∙ sym rest)

  pub counted_steps : (o : Order) (at : ℕ) → counted_by o (pass_at p s) s at ≡ pass_at (counted o p) s at
  counted_steps o at = by (pass_at (bytes 4 field_past_file) s at) refl
    where
      by : (y : Answer (Unit {0} × ℕ)) → pass_at (bytes 4 field_past_file) s at ≡ y → counted_by o (pass_at p s) s at ≡ pass_at (counted o p) s at
      by (refused k) e = rw (e, stopped (bytes 4 field_past_file) s at (sym e))
      by (accepted r) e =
          let q = bytes_there 4 field_past_file s at (sym e) (omega arith) in
          rw (e, number_read o 4 field_past_file s at (omega arith) (sym e) refl) (times_steps _ r.1 (omega (arith, q.0, q.1)))

-- ---- a walk to a name's NUL

module _ (s : List ℕ) (at : ℕ) where
  pub name_none : length s ≤ at → refused field_past_file ≡ pass_at name s at
  name_none h = rw (drop_of_length-le s h)

  pub name_here : at < length s → get_or s at 0 ≡ 0 → accepted (tt, at + 1) ≡ pass_at name s at
  name_here h z = rw (drop-one s at h, z, place_of s (at + 1) (omega arith))

  pub name_more : at < length s → get_or s at 0 ≢ 0 → pass_at name s (at + 1) ≡ pass_at name s at
  name_more h z =
      let longer = shown_of (λ a. tt) (length s) (name (drop (at + 1) s)) (λ l. get_or s at 0 ∷ l) in
      rw (drop-one s at h, ne_eqb (get_or s at 0) 0 z) (sym longer)
