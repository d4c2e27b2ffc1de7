-- What a listing has done with the output that it was lent, and what a caller with room gets.
-- Assumes nothing.
use Rattle.std.specs.Prelude.{◌≡◌, refl, ℕ, ◌≤◌, List, ◌++◌, length, take, drop, Result, Ok, Err}
use Rattle.std.proofs.Common.{sym, ap, ◌∙◌, arith, length-append, take_at, le-leb}
use Rattle.refusals.specs.declared.Refusal.{Refusal}
use Rattle.fields.specs.Answer.{Answer, accepted, never, accepted-one}
use Rattle.fields.specs.Meaning.{answer_of}
use Rattle.fields.specs.Output.{Lent, lent_written}
use Rattle.gdb_read.specs.Steps.{Row}
use Rattle.std.specs.Result.{IsOk}
use Rattle.gdb_listing.specs.Text.{text}
use Rattle.gdb_listing.specs.Written.{Puts, front_bytes, Wrote}
use Rattle.gdb_listing.specs.declared.Writer.{Writer}

-- a function that was to list x, lent `out`, answers r and leaves `after` there
abbrev pub Lists : Answer (List Row) → List ℕ → Result ℕ Refusal → List ℕ → Type 0
Lists x out r after = Lent (accepted (text x)) out (answer_of r) after

pub lists-same : {x y : Answer (List Row)} → x ≡ y → (out : List ℕ) (r : Result ℕ Refusal) (after : List ℕ) → Lists x out r after → Lists y out r after
lists-same e out r after d = rw e at d

-- all that a writer was to write, from the front of what it was lent
pub wrote_all : {a b : Writer} {w after : List ℕ} → a.at ≡ 0 → Wrote a w b → after ≡ b.out.now → Lent (accepted w) a.out.now (accepted b.at) after
wrote_all {a} {b} {w} {after} z p f =
    let q : Puts a.out.now 0 w b.at b.out.now = rw z at p.puts in
    let e : b.at ≡ length w = omega (arith, q.ends) in
    lent_written (accepted w) a.out.now w b.at after refl e (omega (arith, q.room)) (f ∙ front_bytes q ∙ ap (λ n. w ++ drop n a.out.now) (sym e))

-- with room there is a listing, and the output begins with its text
module _ (w out : List ℕ) (h : length w ≤ length out) where
  pub room_writes : (r : Result ℕ Refusal) {after : List ℕ} → Lent (accepted w) out (answer_of r) after → IsOk r
  room_writes (Ok k) d = refl
  room_writes (Err e) d = never (rw (le-leb (length w) (length out) h) at d.answers)

  pub room-text : {after : List ℕ} {k : ℕ} → Lent (accepted w) out (answer_of (Ok k)) after → (k ≤ length after) × (take k after ≡ w)
  room-text {after} {k} d =
      let e : k ≡ length w = accepted-one (rw (le-leb (length w) (length out) h) at d.answers) in
      let g : after ≡ w ++ drop (length w) out = rw (le-leb (length w) (length out) h) at d.leaves in
      (omega (arith, e, ap length g, length-append w (drop (length w) out)), ap (take k) g ∙ take_at w (drop (length w) out) k (sym e))
