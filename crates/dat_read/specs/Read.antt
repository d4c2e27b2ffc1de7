-- What a step read, or why it stopped; a fixed string, and data behind its size.
-- Assumes nothing.
use Rattle.std.specs.Prelude.{◌≡◌, true, ℕ, ◌+◌, ◌-◌, ◌<◌, ◌≤◌, List, [], length, take, drop}
use Rattle.std.proofs.Common.{sym, ap, ◌∙◌, le_refl, arith, lt_of_not-le, drop_of_length-le}
use Rattle.std.proofs.Math.Decide.{dec_le}
use Rattle.std.proofs.Math.Logic.{by_cases}
use Rattle.std.proofs.lemmas.Bool.{lt-leb}
use Rattle.fields.specs.Lists.{concat_map}
use Rattle.fields.specs.Number.{Bytes, field-before, word_at, word_in_lem}
use Rattle.fields.specs.Word.{starts}
use Rattle.fields.specs.Answer.{accepted, refused, accepted_inj, never}
use Rattle.fields.specs.Reader.{Reader, bytes, num, seen_at, pass_at}
use Rattle.fields.specs.Exact.{Exact}
use Rattle.fields.specs.At.{bytes-short, bytes-at, place_of}
use Rattle.fields.specs.Got.{Got, not_read, passed}
use Rattle.fields.specs.declared.Order.{Order}
use Rattle.dat_format.specs.Pieces.{fixed, sized, put_sized, put_counted}
use Rattle.dat_format.specs.Layout.{DataFits}
use Rattle.dat_read.specs.Summary.{part, part_to}
use Rattle.dat_read.specs.declared.summary.Part.{Part}

-- a step that was refused, as its reader is
pub stopped : {A : Type 0} (p : Reader A) (s : List ℕ) (at : ℕ) {n : ℕ} → refused n ≡ pass_at p s at → p (drop at s) ≡ refused n
stopped p s at {n} e = not_read (λ i a. tt) p s at n e

-- a step that went on has read what its reader reads
pub gone_on : {A : Type 0} {p : Reader A} {F : A → Type 0} {put : A → List ℕ} {s : List ℕ} {at m : ℕ}
    → Exact p F put → Bytes s → at ≤ length s → accepted (tt, m) ≡ pass_at p s at → Got p F put s at m
gone_on {s = s} {at = at} {m = m} x b h e = passed x s b at h m e

-- behind the file's end stands nothing
pub nothing_there : {A C : Type 0} (view : ℕ → A → C) (p : Reader A) (s : List ℕ) (at k : ℕ) → length s ≤ at → p [] ≡ refused k
    → refused k ≡ seen_at view p s at
nothing_there view p s at k h e = rw (drop_of_length-le s h, e)

-- so a reader of something has read inside the file
pub read_inside : {A : Type 0} (p : Reader A) (s : List ℕ) (at : ℕ) {k m : ℕ} → p [] ≡ refused k → accepted (tt, m) ≡ pass_at p s at → at ≤ length s
read_inside p s at {k} e h =
    by_cases (dec_le at (length s)) (λ l. l) (λ l. never (nothing_there (λ i a. tt {0}) p s at k (omega arith) e ∙ sym h))

-- and what stands at the end
pub at_end : (s : List ℕ) (at : ℕ) → length s ≤ at → drop at s ≡ drop (length s) s
at_end s at h = rw (drop_of_length-le s {i = at} h, drop_of_length-le s {i = length s} (le_refl (length s)))

-- wherever it starts, what it read and where the rest starts
pub reads_on : {A : Type 0} {p : Reader A} {F : A → Type 0} {put : A → List ℕ} → Exact p F put → (s : List ℕ) → Bytes s → (at : ℕ) {m : ℕ}
    → accepted (tt, m) ≡ pass_at p s at → (v : A) × (p (drop at s) ≡ accepted (v, drop m s))
reads_on {p = p} x s b at e =
    by_cases (dec_le at (length s)) (λ h. let g = gone_on x b h e in (g.value, g.reads)) (λ l.
    let d = at_end s at (omega arith) in
    let g = gone_on x b (le_refl (length s)) (e ∙ rw d) in
    (g.value, ap p d ∙ g.reads))

-- ---- n bytes that were there

module _ (n k : ℕ) (s : List ℕ) (at : ℕ) {m : ℕ} (e : accepted (tt, m) ≡ pass_at (bytes n k) s at) where
  there : at ≤ length s → (at + n ≤ length s) × (m ≡ at + n)
  there h =
      by_cases (dec_le n (length s - at))
      (λ l. (omega (arith, h), (accepted_inj (e ∙ rw (bytes-at s at n k h l, place_of s (at + n) (omega (arith, h))))).1))
      (λ l. never {n = k} (sym (e ∙ rw (bytes-short s at n k (lt_of_not-le l)))))

  pub bytes_there : 0 < n → (at + n ≤ length s) × (m ≡ at + n)
  bytes_there l = there (read_inside (bytes n k) s at {k = k} (rw (lt-leb n 0 l)) e)

  pub bytes_read : bytes n k (drop at s) ≡ accepted (take n (drop (m - n) s), drop m s)
  bytes_read =
      by_cases (dec_le at (length s))
      (λ h. let q = there h in let i : m - n ≡ at = omega (arith, q.1) in rw (bytes-at s at n k h (omega (arith, q.0)), i, q.1))
      (λ l. by_cases (dec_le n 0) (λ z. nothing (omega arith) (omega arith)) (λ z. absurd (omega (arith, (bytes_there (lt_of_not-le z)).0))))
    where
      -- behind the end
      nothing : length s ≤ at → n ≡ 0 → bytes n k (drop at s) ≡ accepted (take n (drop (m - n) s), drop m s)
      nothing l i =
          let d : drop at s ≡ [] = drop_of_length-le s l in
          let f = rw (i, d) at e in
          rw (i, d, drop_of_length-le s {i = m} (omega (arith, (accepted_inj f).1)))

-- a number of n bytes that were there
pub number_read : (o : Order) (n k : ℕ) (s : List ℕ) (at : ℕ) {m v : ℕ} → 0 < n → accepted (tt, m) ≡ pass_at (bytes n k) s at → v ≡ word_at o n s at
    → num o n k (drop at s) ≡ accepted (v, drop m s)
number_read o n k s at {m} l e f =
    let q = bytes_there n k s at e l in
    let i : m - n ≡ at = omega (arith, q.1) in
    rw (bytes_read n k s at e, i, f, word_in_lem o n s at q.0)

-- ---- a fixed string w

abbrev pub Fixed : List ℕ → List ℕ → ℕ → ℕ → Type 0
Fixed w s at m = Got (fixed w) (λ a. (length a ≡ length w) × (starts w a ≡ true)) (λ a. a) s at m

-- ---- data behind a size of w bytes

abbrev pub Sized : Order → ℕ → List ℕ → ℕ → ℕ → Type 0
Sized o w s at m = Got (sized o w) (DataFits w) (put_sized o w) s at m

pub length-sized : (o : Order) (w : ℕ) (d : List ℕ) → length (put_sized o w d) ≡ w + length d
length-sized o w d = field-before o w (length d) d

pub sized-end : (o : Order) (w : ℕ) (s : List ℕ) (at m : ℕ) (g : Sized o w s at m) → m ≡ at + w + length g.value
sized-end o w s at m g = omega (arith, g.place, length-sized o w g.value)

-- ---- elements behind their count

pub length-counted : {A : Type 0} (o : Order) (put : A → List ℕ) (l : List A) → length (put_counted o put l) ≡ 4 + length (concat_map put l)
length-counted o put l = field-before o 4 (length l) (concat_map put l)

-- ---- a part of the file

-- a part that ends where what was read ends
pub part-is : (at next n : ℕ) (p : Part) → p ≡ part_to at next → next ≡ at + n → p ≡ part at n
part-is at next n p e f = let g : next - at ≡ n = omega arith in e ∙ ap (part at) g
