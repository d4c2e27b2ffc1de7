-- An output that is written from the front: bytes w, and after them what stood there.
-- Assumes nothing.
use Rattle.std.specs.Prelude.{◌≡◌, refl, ℕ, ◌+◌, ◌-◌, ◌≤◌, List, ◌++◌, length, take, drop}
use Rattle.std.proofs.Common.{sym, ap, ap₂, ◌∙◌, arith, append_assoc, append-nil, length-append, length-drop, drop_of_length-le, take_at, drop_at, take_all, drop-drop}
use Rattle.std.proofs.Math.Seq.{take-length}
use borrow.Rule.Slice.PartMut.{put_mid}

-- the first bytes c are copied over `before`
module _ (c before out : List ℕ) (r : ℕ) (er : r ≡ length c) (e : out ≡ take (length c) c ++ drop (length c) before) where
  copied : out ≡ c ++ drop (length c) before
  copied = e ∙ ap (λ x. x ++ drop (length c) before) (take-length c)

  pub first_out : out ≡ c ++ drop r out
  first_out = copied ∙ ap (λ x. c ++ x) (sym (ap (drop r) copied ∙ drop_at c (drop (length c) before) r (sym er)))

  pub first-over : out ≡ c ++ drop r before
  first-over = copied ∙ ap (λ m. c ++ drop m before) (sym er)

  pub first_rest : (n : ℕ) → length c ≤ n → drop n out ≡ drop n before
  first_rest n h =
      let s : n ≡ length c + (n - length c) = omega arith in
      ap (λ m. drop m out) s ∙ sym (drop-drop (n - length c) (length c) out)
      ∙ ap (drop (n - length c)) (ap (drop (length c)) copied ∙ drop_at c (drop (length c) before) (length c) refl)
      ∙ drop-drop (n - length c) (length c) before ∙ sym (ap (λ m. drop m before) s)

  pub first-long : length c ≤ length before → length out ≡ length before
  first-long h = ap length copied ∙ omega (arith, length-append c (drop (length c) before), length-drop (length c) before)

module _ (w before out : List ℕ) (len : ℕ) (el : length w ≡ len) (e : out ≡ w ++ drop len before) where
  pub out_long : len ≤ length before → length out ≡ length before
  out_long h = ap length e ∙ omega (arith, length-append w (drop len before), length-drop len before)

  -- w and what is still to come make the whole
  pub lengths : (rest head kept : List ℕ) → w ++ rest ≡ head ++ kept → len + length rest ≡ length head + length kept
  lengths rest head kept s = omega (arith, ap length s, length-append w rest, length-append head kept)

  -- f is copied into what remains of the output
  module _ (f ys : List ℕ) (r : ℕ) (er : r ≡ length f) (ey : ys ≡ take (length f) f ++ drop (length f) (take (length out - len) (drop len out))) where
    pub more_long : length (w ++ f) ≡ len + r
    more_long = omega (arith, length-append w f)

    rest_out : drop len out ≡ drop len before
    rest_out = ap (drop len) e ∙ drop_at w (drop len before) len el

    new : ys ≡ f ++ drop (len + r) before
    new =
        ey
        ∙ ap₂ (λ x z. x ++ drop (length f) z) (take-length f) (take_all (length out - len) (drop len out) (omega (arith, length-drop len out)) ∙ rest_out)
        ∙ ap (λ x. f ++ x) (drop-drop (length f) len before ∙ ap (λ m. drop (len + m) before) (sym er))

    pub more_out : put_mid len (length out - len) out ys ≡ (w ++ f) ++ drop (len + r) before
    more_out =
        ap₂ (λ x z. x ++ (ys ++ z)) (ap (take len) e ∙ take_at w (drop len before) len el)
        (drop_of_length-le (drop len out) {i = length out - len} (omega (arith, length-drop len out)))
        ∙ ap (λ x. w ++ x) (append-nil ys ∙ new) ∙ sym (append_assoc w f (drop (len + r) before))

-- ---- the same as one record

-- w was written over the front of `before`, r bytes of it, and behind it stands what stood there
pub record Overwritten (w before : List ℕ) (r : ℕ) (after : List ℕ) : Type 0 where
  pub long : r ≡ length w
  pub bytes : after ≡ w ++ drop r before

pub copied-over : {c before after : List ℕ} {r : ℕ} → r ≡ length c → after ≡ take (length c) c ++ drop (length c) before → Overwritten c before r after
copied-over {c} {before} {after} {r} er e = record { long = er; bytes = first-over c before after r er e }

module _ {w before out : List ℕ} {len : ℕ} (o : Overwritten w before len out) where
  -- the output is as long as it was
  pub over-long : len ≤ length before → length out ≡ length before
  over-long h = out_long w before out len (sym o.long) o.bytes h

  -- and f behind w
  pub over_more : {f ys : List ℕ} {r : ℕ} → Overwritten f (take (length out - len) (drop len out)) r ys
      → Overwritten (w ++ f) before (len + r) (put_mid len (length out - len) out ys)
  over_more {f} {ys} {r} p =
      let e : ys ≡ take (length f) f ++ drop (length f) (take (length out - len) (drop len out)) =
      p.bytes ∙ ap₂ (λ x n. x ++ drop n (take (length out - len) (drop len out))) (sym (take-length f)) p.long in
      record {
        long = sym (more_long w before out len (sym o.long) o.bytes f ys r p.long e);
        bytes = more_out w before out len (sym o.long) o.bytes f ys r p.long e;
      }
