-- Ranges that have claimed their units: the next one finds all its units free exactly where it is apart from each of them.
-- Assumes nothing.
use Rattle.std.proofs.Common.{◌≡◌, ℕ, zero, suc, ◌+◌, ◌/◌, ◌%◌, Bool, true, false, ◌↔◌, List, [], ◌∷◌, ◌++◌, length, get_or, replicate, sym, refl, ap, ◌∙◌, arith, append_assoc, append-nil, length-append}
use lib.ListN.{length-replicate}
use Rattle.fields.specs.Lists.{Each, each_map, clash}
use Rattle.fields.specs.Word.{and_inv}
use Rattle.fields.specs.declared.Order.{Order}
use Rattle.dat_format.specs.Header.{Range}
use Rattle.dat_format.specs.Layout.{NoneInBoth}
use Rattle.dat_format.specs.Tests.{apart, all, all_apart}
use Rattle.dat_format.specs.Units.{InUnit, NoUnitOfBoth, OnUnits, share_unit}
use Rattle.dat_format.specs.RangeLaws.{apart_from}
use Rattle.dat_format.specs.Entries.{entry_at}
use Rattle.dat_ranges.specs.Map.{bit, mark, Claimed, ClaimSays}
use Rattle.dat_ranges.proofs.BitLaws.{zero_bit}
use Rattle.dat_ranges.specs.Ranges.{entries_in}
use Rattle.dat_ranges.proofs.EntryLaws.{last_entry, of_end}

no_true : (t : Bool) → (t ≡ true → ⊥) → t ≡ false
no_true true h = absurd (h refl)
no_true false h = refl

-- the units of these ranges are marked, and no others
pub record Marked (m : List ℕ) (rs : List Range) : Type 0 where
  pub words : length m ≡ 1024
  pub inside : Each (λ q. (u : ℕ) → InUnit u q → mark m u ≡ 1) rs
  pub outside : (u : ℕ) → Each (λ q. InUnit u q → ⊥) rs → mark m u ≡ 0

zeros : (n i : ℕ) → ◌≡◌ {A = ℕ} (get_or (replicate n 0) i 0) 0
zeros zero i = refl
zeros (suc n) zero = refl
zeros (suc n) (suc i) = zeros n i

none_marked : {m : List ℕ} → m ≡ replicate 1024 0 → Marked m []
none_marked e = record {
  words = ap length e ∙ length-replicate {A = ℕ} 1024 0;
  inside = tt;
  outside = λ u h. ap (λ m. mark m u) e ∙ ap (bit (u % 64)) (zeros 1024 (u / 64)) ∙ zero_bit (u % 64);
}

module _ {r : Range} (on : OnUnits r) where
  -- a range shares a byte with none of these exactly where it shares a unit with none
  share_none : (rs : List Range) → Each OnUnits rs → Each (NoneInBoth r) rs ↔ Each (NoUnitOfBoth r) rs
  share_none [] ons = ((λ h. h), (λ h. h))
  share_none (q ∷ rs) ons =
      let s = share_unit r q on ons.0 in
      let t = share_none rs ons.1 in
      ((λ h. (s.0 h.0, t.0 h.1)), (λ h. (s.1 h.0, t.1 h.1)))

  module _ {m : List ℕ} {rs : List Range} (ons : Each OnUnits rs) (w : Marked m rs) where
    claimed_apart : {after : List ℕ} → Claimed (λ u. InUnit u r) m after → all (apart r) rs ≡ true
    claimed_apart c = (apart_from r rs).1 ((share_none rs ons).1 (each_map (λ q h u i j. clash (sym (c.free u i) ∙ h u j)) rs w.inside))

    claimed_marked : {after : List ℕ} → Claimed (λ u. InUnit u r) m after → Marked after (r ∷ rs)
    claimed_marked c = record {
      words = c.words ∙ w.words;
      inside = (c.inside, each_map (λ q h u i. c.outside u (λ j. clash (sym (c.free u j) ∙ h u i)) ∙ h u i) rs w.inside);
      outside = λ u h. c.outside u h.0 ∙ w.outside u h.1;
    }

    taken_overlaps : (((u : ℕ) → InUnit u r → mark m u ≡ 0) → ⊥) → all (apart r) rs ≡ true → ⊥
    taken_overlaps t e =
        let none = (share_none rs ons).0 ((apart_from r rs).0 e) in
        t (λ u i. w.outside u (each_map (λ q h. h u i) rs none))

-- ---- the walk over the entries in b from the last to the first: those in `rest` are left, and the others have claimed their units, and are apart

pub record Walk (o : Order) (b rest m : List ℕ) : Type 0 where
  pub whole : length rest % 16 ≡ 0
  pub done : List Range
  pub parts : entries_in o rest ++ done ≡ entries_in o b
  pub marked : Marked m done
  pub clear : all_apart done ≡ true

-- where the entries fill b, no bytes are ahead of the first
pub walk_start : {o : Order} {b : List ℕ} (ahead rest : List ℕ) {m : List ℕ} → m ≡ replicate 1024 0 → length b % 16 ≡ 0 → b ≡ ahead ++ rest → length ahead ≡ length b % 16
    → Walk o b rest m
walk_start {o} [] rest e h p l =
    record { whole = rw (← p) h; done = []; parts = append-nil (entries_in o rest) ∙ ap (entries_in o) (sym p); marked = none_marked e; clear = refl }
walk_start (x ∷ ahead) rest e h p l = absurd (omega arith)

module _ {o : Order} {b rest m : List ℕ} (w : Walk o b rest m) where
  module _ (next x : List ℕ) (e : rest ≡ next ++ x) (l : length x ≡ 16) {r : Range} (f : r ≡ entry_at o x 0) where
    length_rest : length rest ≡ length next + 16
    length_rest = ap length e ∙ length-append next x ∙ ap (λ n. length next + n) l

    whole_next : length next % 16 ≡ 0
    whole_next = omega (arith, length_rest, w.whole)

    joined : entries_in o next ++ r ∷ w.done ≡ entries_in o b
    joined =
        ap (λ r. entries_in o next ++ r ∷ w.done) f ∙ sym (append_assoc (entries_in o next) (entry_at o x 0 ∷ []) w.done)
        ∙ ap (λ rs. rs ++ w.done) (sym (ap (entries_in o) e ∙ last_entry o next x whole_next l)) ∙ w.parts

    -- what holds of all entries holds of the next one and those behind it
    from_next : (F : List Range → Type 0) → ((r : Range) (rs : List Range) → F (r ∷ rs) → F rs) → F (entries_in o b) → F (r ∷ w.done)
    from_next F on h = of_end F on (entries_in o next) (r ∷ w.done) (rw joined h)

    module _ (on : Each OnUnits (entries_in o b)) where
      ons : Each OnUnits (r ∷ w.done)
      ons = from_next (Each OnUnits) (λ r rs h. h.1) on

      pub next_on : OnUnits r
      next_on = ons.0

      pub walk_on : (t : Bool) {after : List ℕ} → t ≡ true → ClaimSays t (λ u. InUnit u r) m after → Walk o b next after
      walk_on false g c = clash (cc)
      walk_on true g c = record {
        whole = whole_next;
        done = r ∷ w.done;
        parts = joined;
        marked = claimed_marked next_on ons.1 w.marked c;
        clear = rw (claimed_apart next_on ons.1 w.marked c, w.clear);
      }

      -- where the entries behind overlap, all do
      pub walk_stop : (t : Bool) (after : List ℕ) → t ≡ false → ClaimSays t (λ u. InUnit u r) m after → false ≡ all_apart (entries_in o b)
      walk_stop true after g c = clash (cc)
      walk_stop false after g c = sym (no_true (all_apart (entries_in o b)) (λ a.
          let d = from_next (λ rs. all_apart rs ≡ true) (λ r rs h. (and_inv (all (apart r) rs) (all_apart rs) h).1) a in
          taken_overlaps next_on ons.1 w.marked c (and_inv (all (apart r) w.done) (all_apart w.done) d).0))
