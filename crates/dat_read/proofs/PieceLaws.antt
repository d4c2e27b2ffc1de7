-- What the steps over a fixed string and over a size answer where the bytes of either are there.
-- Assumes nothing.
use Rattle.std.specs.Prelude.{◌≡◌, true, false, ℕ, ◌-◌, ◌<◌, ◌≤◌, List, length, take, drop}
use Rattle.std.proofs.Common.{◌∙◌, arith}
use Rattle.refusals.specs.Refusal.{field_past_file, bad_constant}
use Rattle.fields.specs.Word.{starts}
use Rattle.fields.specs.Answer.{Answer, accepted, refused}
use Rattle.fields.specs.Number.{word_at}
use Rattle.fields.specs.Reader.{bytes, pass_at}
use Rattle.fields.specs.At.{place_of}
use Rattle.fields.specs.declared.Order.{Order}
use Rattle.dat_format.specs.Pieces.{fixed, sized}
use Rattle.dat_read.specs.Steps.{width_meaning}
use Rattle.dat_read.specs.declared.pieces.Width.{Width}
use Rattle.dat_read.specs.declared.pieces.Width.TheVariants.{Four, Eight}
use Rattle.dat_read.specs.Read.{bytes_read, number_read}

abbrev Bytes_at : ℕ → List ℕ → ℕ → ℕ → Type 0
Bytes_at n s at m = accepted (tt, m) ≡ pass_at (bytes n field_past_file) s at

module _ (s w : List ℕ) (at m : ℕ) (e : Bytes_at (length w) s at m) (l : length w ≤ m) (h : m ≤ length s) where
  pub fixed_begins : starts w (take (m - (m - length w)) (drop (m - length w) s)) ≡ true → accepted (tt, m) ≡ pass_at (fixed w) s at
  fixed_begins t =
      let i : m - (m - length w) ≡ length w = omega arith in
      let j = rw i at t in
      rw (bytes_read (length w) field_past_file s at e, j, place_of s m h)

  pub fixed_other : starts w (take (m - (m - length w)) (drop (m - length w) s)) ≡ false → refused bad_constant ≡ pass_at (fixed w) s at
  fixed_other t =
      let i : m - (m - length w) ≡ length w = omega arith in
      let j = rw i at t in
      rw (bytes_read (length w) field_past_file s at e, j)

some_bytes : (w : Width) → 0 < width_meaning w
some_bytes Four = omega arith
some_bytes Eight = omega arith

pub sized_there : (o : Order) (w : Width) (s : List ℕ) (at : ℕ) {b m n : ℕ} {x : Answer (Unit {0} × ℕ)} → b ≡ width_meaning w → Bytes_at b s at m
    → n ≡ word_at o (width_meaning w) s at → x ≡ pass_at (bytes n field_past_file) s m → x ≡ pass_at (sized o (width_meaning w)) s at
sized_there o w s at i e f k = k ∙ rw (number_read o (width_meaning w) field_past_file s at (some_bytes w) (rw i at e) f)
