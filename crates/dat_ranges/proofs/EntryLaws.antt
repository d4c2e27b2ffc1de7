-- Entries of 16 bytes, one behind the other: the first and the last of those in a part of a file, and the part that holds n from a place on.
-- Assumes nothing.
use Rattle.std.proofs.Common.{◌≡◌, ℕ, zero, suc, ◌+◌, ◌-◌, ◌*◌, ◌/◌, ◌%◌, ◌≤◌, Bool, true, false, List, [], ◌∷◌, ◌++◌, length, take, drop, sym, refl, ap, ◌∙◌, ap₂, add-zero, arith, length-append}
use Rattle.std.proofs.Math.Seq.{take-append_seam, drop-append_seam, take-length}
use Rattle.fields.specs.Lists.{length_part}
use Rattle.fields.specs.Number.{word_at, word-part}
use Rattle.fields.specs.declared.Order.{Order}
use Rattle.dat_format.specs.Header.{Range}
use Rattle.dat_format.specs.Tests.{all}
use Rattle.dat_format.specs.Entries.{entry_at, entries}
use Rattle.dat_ranges.specs.Ranges.{range_of, entries_in}

module _ (o : Order) where
  -- ---- entries in a part of a list

  module _ (s : List ℕ) (at k : ℕ) (l : at + k ≤ length s) where
    part-entry : (i : ℕ) → i + 16 ≤ k → entry_at o (take k (drop at s)) i ≡ entry_at o s (at + i)
    part-entry i h =
        let e : at + (i + 8) ≡ at + i + 8 = omega arith in
        ap₂ range_of (word-part o 8 s at k i (omega arith) l) (word-part o 8 s at k (i + 8) (omega arith) l ∙ ap (word_at o 8 s) e)

    part-entries : (n i : ℕ) → i + 16 * n ≤ k → entries o (take k (drop at s)) n i ≡ entries o s n (at + i)
    part-entries zero i h = refl
    part-entries (suc n) i h =
        let e : at + (i + 16) ≡ at + i + 16 = omega arith in
        ap₂ {C = List Range} (λ r rs. r ∷ rs) (part-entry i (omega arith)) (part-entries n (i + 16) (omega arith) ∙ ap (entries o s n) e)

  -- n entries from a place on are those in their part of the list
  pub entries_there : (s : List ℕ) (n from : ℕ) → from + 16 * n ≤ length s → entries_in o (take (from + 16 * n - from) (drop from s)) ≡ entries o s n from
  entries_there s n from h =
      let k : ℕ = from + 16 * n - from in
      let e : k ≡ 16 * n = omega arith in
      let c : length (take k (drop from s)) ≡ k = length_part s from k (omega arith) in
      let d : length (take k (drop from s)) / 16 ≡ n = omega arith in
      ap (λ n. entries o (take k (drop from s)) n 0) d ∙ part-entries s from k (omega arith) n 0 (omega arith) ∙ ap (entries o s n) (add-zero from)

  -- ---- the first entry and those behind it; those ahead of the last, and the last

  pub first_entry : (x r : List ℕ) → length x ≡ 16 → entries_in o (x ++ r) ≡ entry_at o x 0 ∷ entries_in o r
  first_entry x r l =
      let c : length (x ++ r) ≡ 16 + length r = omega (arith, length-append x r) in
      let d : length (x ++ r) / 16 ≡ suc (length r / 16) = omega arith in
      let front : take 16 (x ++ r) ≡ x = ap (λ k. take k (x ++ r)) (sym l) ∙ take-append_seam x r in
      let back : take (length r) (drop 16 (x ++ r)) ≡ r =
      ap (λ k. take (length r) (drop k (x ++ r))) (sym l) ∙ ap (take (length r)) (drop-append_seam x r) ∙ take-length r in
      ap (λ n. entries o (x ++ r) n 0) d
      ∙ ap₂ {C = List Range} (λ r rs. r ∷ rs) (sym (part-entry (x ++ r) 0 16 (omega arith) 0 (omega arith)) ∙ ap (λ b. entry_at o b 0) front)
      (sym (part-entries (x ++ r) 16 (length r) (omega arith) (length r / 16) 0 (omega arith)) ∙ ap (λ b. entries o b (length r / 16) 0) back)

  more : (s : List ℕ) (n at : ℕ) → entries o s (suc n) at ≡ entries o s n at ++ entry_at o s (at + 16 * n) ∷ []
  more s zero at = ap (λ at. entry_at o s at ∷ []) (sym (add-zero at))
  more s (suc n) at =
      let e : at + 16 + 16 * n ≡ at + 16 * suc n = omega arith in
      ap (λ rs. entry_at o s at ∷ rs) (more s n (at + 16) ∙ ap (λ i. entries o s n (at + 16) ++ entry_at o s i ∷ []) e)

  pub last_entry : (r x : List ℕ) → length r % 16 ≡ 0 → length x ≡ 16 → entries_in o (r ++ x) ≡ entries_in o r ++ entry_at o x 0 ∷ []
  last_entry r x m l =
      let c : length (r ++ x) ≡ length r + 16 = omega (arith, length-append r x) in
      let d : length (r ++ x) / 16 ≡ suc (length r / 16) = omega arith in
      let e : 0 + 16 * (length r / 16) ≡ length r + 0 = omega arith in
      let back : take 16 (drop (length r) (r ++ x)) ≡ x = ap (take 16) (drop-append_seam r x) ∙ ap (λ k. take k x) (sym l) ∙ take-length x in
      ap (λ n. entries o (r ++ x) n 0) d ∙ more (r ++ x) (length r / 16) 0
      ∙ ap₂ {C = List Range} (λ rs q. rs ++ q ∷ [])
      (sym (part-entries (r ++ x) 0 (length r) (omega arith) (length r / 16) 0 (omega arith)) ∙ ap (λ b. entries o b (length r / 16) 0) (take-append_seam r x))
      (ap (entry_at o (r ++ x)) e ∙ sym (part-entry (r ++ x) (length r) 16 (omega arith) 0 (omega arith)) ∙ ap (λ b. entry_at o b 0) back)

-- ---- a walk over the entries in b, with those in `rest` left: all of these pass where all do

pub record Left (f : Range → Bool) (o : Order) (b rest : List ℕ) : Type 0 where
  pub same : all f (entries_in o rest) ≡ all f (entries_in o b)

module _ {f : Range → Bool} {o : Order} {b rest : List ℕ} (w : Left f o b rest) where
  module _ (x next : List ℕ) (e : rest ≡ x ++ next) (l : length x ≡ 16) {r : Range} (g : r ≡ entry_at o x 0) where
    first : all f (r ∷ entries_in o next) ≡ all f (entries_in o b)
    first = ap (λ r. all f (r ∷ entries_in o next)) g ∙ ap (all f) (sym (ap (entries_in o) e ∙ first_entry o x next l)) ∙ w.same

    pub all-stop : f r ≡ false → false ≡ all f (entries_in o b)
    all-stop t = rw t at first

    pub all_on : f r ≡ true → Left f o b next
    all_on t = record { same = rw t at first }

-- ---- what holds of a list holds of its end, where it does behind each element

pub of_end : {A : Type 0} (F : List A → Type 0) → ((a : A) (l : List A) → F (a ∷ l) → F l) → (k l : List A) → F (k ++ l) → F l
of_end F on [] l h = h
of_end F on (a ∷ k) l h = of_end F on k l (on a (k ++ l) h)
