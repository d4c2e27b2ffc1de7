-- Bytes written at a place of an output, the rest of which stays as it was.
-- Assumes nothing.
use Rattle.std.specs.Prelude.{◌≡◌, refl, ℕ, ◌+◌, ◌-◌, ◌<◌, ◌≤◌, set}
use Rattle.std.proofs.Common.{sym, ◌∙◌, add-one, take-append-drop, take_at, drop_at}
use Rattle.std.proofs.Math.Path.{ap, ap₂}
use native.Mathlib.Omega.{arith}
use mathlib.Core.List.{List, [], ◌∷◌, ◌++◌, append_assoc}
use Rattle.std.proofs.Math.ListN.{length, take, drop, length-append, length-drop}
use Rattle.std.proofs.lemmas.List.{set_split}
use Rattle.std.proofs.Math.Seq.{drop-drop, length-take-le}
use Rattle.gdb_listing.specs.declared.Writer.{Writer}

unfoldable pub written : List ℕ → ℕ → List ℕ → List ℕ
written out at w = take at out ++ (w ++ drop (at + length w) out)

-- what a function has done that wrote w at `at` and answers the place after it
pub record Puts (before : List ℕ) (at : ℕ) (w : List ℕ) (r : ℕ) (after : List ℕ) : Type 0 where
  pub room : at + length w ≤ length before
  pub ends : r ≡ at + length w
  pub bytes : after ≡ written before at w

-- the same of a writer: there is room for w, and it has written w behind what was written, in the output that it was lent
abbrev pub HasRoom : Writer → List ℕ → Type 0
HasRoom t w = t.at + length w ≤ length t.out.now

pub record Wrote (before : Writer) (w : List ℕ) (after : Writer) : Type 0 where
  pub puts : Puts before.out.now before.at w after.at after.out.now
  pub lent : after.out.ghost_name ≡ before.out.ghost_name

module _ (out : List ℕ) (at : ℕ) (v : List ℕ) (h : at + length v ≤ length out) where
  front_long : length (take at out ++ v) ≡ at + length v
  front_long = omega (arith, length-append (take at out) v, length-take-le at out (omega arith))

  pub length-written : length (written out at v) ≡ length out
  unfolding written
  length-written =
      omega (
        arith,
        length-append (take at out) (v ++ drop (at + length v) out),
        length-append v (drop (at + length v) out),
        length-take-le at out (omega arith),
        length-drop (at + length v) out,
      )

  front : take (at + length v) (written out at v) ≡ take at out ++ v
  unfolding written
  front = rw (← append_assoc) (take_at (take at out ++ v) (drop (at + length v) out) (at + length v) front_long)

  rest : drop (at + length v) (written out at v) ≡ drop (at + length v) out
  unfolding written
  rest = rw (← append_assoc) (drop_at (take at out ++ v) (drop (at + length v) out) (at + length v) front_long)

  pub written_twice : (w : List ℕ) → written (written out at v) (at + length v) w ≡ written out at (v ++ w)
  unfolding written
  written_twice w =
      let n : at + length v + length w ≡ at + length (v ++ w) = omega (arith, length-append v w) in
      ap₂ (λ x y. x ++ (w ++ y)) front
      (sym (drop-drop (length w) (at + length v) (written out at v)) ∙ ap (drop (length w)) rest ∙ drop-drop (length w) (at + length v) out
      ∙ ap (λ k. drop k out) n)
      ∙ append_assoc (take at out) v (w ++ drop (at + length (v ++ w)) out)
      ∙ ap (λ l. take at out ++ l) (sym (append_assoc v w (drop (at + length (v ++ w)) out)))

-- ---- one after another

pub puts_long : {before after w : List ℕ} {at r : ℕ} → Puts before at w r after → length after ≡ length before
puts_long {before} {after} {w} {at} p = ap length p.bytes ∙ length-written before at w p.room

pub puts_then : {before middle after v w : List ℕ} {at m r : ℕ} → Puts before at v m middle → Puts middle m w r after
    → Puts before at (v ++ w) r after
puts_then {before} {middle} {after} {v} {w} {at} {m} p q =
    record {
      room = omega (arith, p.ends, q.room, puts_long p, length-append v w);
      ends = omega (arith, p.ends, q.ends, length-append v w);
      bytes = q.bytes ∙ ap₂ (λ x n. written x n w) p.bytes p.ends ∙ written_twice before at v p.room w;
    }

pub wrote_then : {a b c : Writer} {v w : List ℕ} → Wrote a v b → Wrote b w c → Wrote a (v ++ w) c
wrote_then p q = record { puts = puts_then p.puts q.puts; lent = q.lent ∙ p.lent }

-- where v is written there is as much room less
pub room_then : {a b : Writer} {v : List ℕ} (w : List ℕ) → Wrote a v b → a.at + length v + length w ≤ length a.out.now → HasRoom b w
room_then w p h = omega (arith, p.puts.ends, puts_long p.puts, h)

pub puts_byte : (out : List ℕ) (at b : ℕ) → at < length out → Puts out at (b ∷ []) (at + 1) (set out at b)
unfolding written
puts_byte out at b h =
    record {
      room = omega arith;
      ends = refl;
      bytes = set_split out at b h ∙ ap (λ n. take at out ++ b ∷ drop n out) (sym (add-one at));
    }

-- a word put in the place of as many bytes
pub puts_word : (out : List ℕ) (at : ℕ) (w v : List ℕ) → at + length w ≤ length out → v ≡ w
    → Puts out at w (at + length w) (take at out ++ (v ++ drop (at + length w - at) (drop at out)))
unfolding written
puts_word out at w v h e =
    let n : at + (at + length w - at) ≡ at + length w = omega arith in
    record { room = h; ends = refl; bytes = ap₂ (λ x y. take at out ++ (x ++ y)) e (drop-drop (at + length w - at) at out ∙ ap (λ k. drop k out) n) }

-- ---- at the front

pub front_bytes : {out w after : List ℕ} {r : ℕ} → Puts out 0 w r after → after ≡ w ++ drop (length w) out
unfolding written
front_bytes {out} {w} p = let z : 0 + length w ≡ length w = omega arith in p.bytes ∙ ap (λ n. w ++ drop n out) z

-- ---- what is left to write

-- to write w at `at` of out is all that is left, where v was to be written at `start` of before
pub record Left (before : List ℕ) (start : ℕ) (v out : List ℕ) (at : ℕ) (w : List ℕ) : Type 0 where
  pub long : length out ≡ length before
  pub room : at + length w ≤ length out
  pub ends : at + length w ≡ start + length v
  pub bytes : written out at w ≡ written before start v

pub left_all : (before : List ℕ) (start : ℕ) (v : List ℕ) → start + length v ≤ length before → Left before start v before start v
left_all before start v h = record { long = refl; room = h; ends = refl; bytes = refl }

pub left_room : {before v out : List ℕ} {start at : ℕ} (u w : List ℕ) → Left before start v out at (u ++ w) → at + length u ≤ length out
left_room u w l = omega (arith, l.room, length-append u w)

pub left_less : {before v out u w after : List ℕ} {start at r : ℕ} → Left before start v out at (u ++ w) → Puts out at u r after
    → Left before start v after r w
left_less {before} {v} {out} {u} {w} {after} {start} {at} {r} l p =
    record {
      long = puts_long p ∙ l.long;
      room = omega (arith, p.ends, l.room, puts_long p, length-append u w);
      ends = omega (arith, p.ends, l.ends, length-append u w);
      bytes = ap₂ (λ x n. written x n w) p.bytes p.ends ∙ written_twice out at u p.room w ∙ l.bytes;
    }

pub left_none : {before v out : List ℕ} {start at : ℕ} → Left before start v out at [] → Puts before start v at out
unfolding written
left_none {before} {v} {out} {start} {at} l =
    let z : at ≡ at + 0 = omega arith in
    record {
      room = omega (arith, l.long, l.room, l.ends);
      ends = omega (arith, l.ends);
      bytes = sym (take-append-drop at out) ∙ ap (λ n. take at out ++ drop n out) z ∙ l.bytes;
    }
