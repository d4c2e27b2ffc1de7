-- The CPU entries by their places: entry i stands 16 bytes after entry i - 1.
-- Assumes nothing.
use Rattle.std.specs.Prelude.{◌≡◌, refl, ℕ, zero, suc, ◌+◌, ◌-◌, ◌*◌, ◌<◌, ◌≤◌, List, [], ◌∷◌, length, drop}
use Rattle.std.proofs.Common.{ap, ◌∙◌, lt_of_not-le}
use Rattle.std.proofs.Math.Decide.{dec_le}
use native.Mathlib.Omega.{arith}
use Rattle.std.proofs.Math.Logic.{by_cases}
use Rattle.refusals.specs.Refusal.{field_past_file, not_found}
use Rattle.fields.specs.Number.{word_at, word_in_lem}
use Rattle.fields.specs.Answer.{accepted, refused}
use Rattle.fields.specs.At.{num-short, num-at}
use Rattle.fields.specs.declared.Order.{Order}
use Rattle.fields.specs.Element.{nth}
use Rattle.dat_format.specs.Pieces.{times}
use Rattle.dat_format.specs.Header.{Range}
use Rattle.dat_format.specs.Decode.{range}

module _ (o : Order) (s : List ℕ) where
  abbrev pub entry_at : ℕ → Range
  entry_at at = record { offset = word_at o 8 s at; size = word_at o 8 s (at + 8) }

  -- n entries from `at` on
  abbrev pub entries : ℕ → ℕ → List Range
  entries zero at = []
  entries (suc n) at = entry_at at ∷ entries n (at + 16)

  range-here : (at : ℕ) → at + 16 ≤ length s → range o (drop at s) ≡ accepted (entry_at at, drop (at + 16) s)
  unfolding range
  range-here at h =
      let f : at + 8 + 8 ≡ at + 16 = omega arith in
      rw (
        num-at s at o 8 field_past_file (omega arith) (omega arith),
        num-at s (at + 8) o 8 field_past_file (omega arith) (omega arith),
        f,
        word_in_lem o 8 s at (omega arith),
        word_in_lem o 8 s (at + 8) (omega arith),
      )

  range-short : (at : ℕ) → at ≤ length s → length s - at < 16 → range o (drop at s) ≡ refused field_past_file
  unfolding range
  range-short at h l =
      by_cases (dec_le 8 (length s - at)) (λ k. rw (num-at s at o 8 field_past_file h k, num-short s (at + 8) o 8 field_past_file (omega arith)))
      (λ k. rw (num-short s at o 8 field_past_file (lt_of_not-le k)))

  -- they are read where they all stand in the file, and else the first that does not decides
  pub entries-read : (n at : ℕ) → at + 16 * n ≤ length s → times n (range o) (drop at s) ≡ accepted (entries n at, drop (at + 16 * n) s)
  entries-read zero at h = let e : at ≡ at + 16 * 0 = omega arith in ap (λ i. accepted ([], drop i s)) e
  entries-read (suc n) at h =
      let e : at + 16 + 16 * n ≡ at + 16 * suc n = omega arith in
      rw (range-here at (omega arith), entries-read n (at + 16) (omega arith), e)

  pub entries-short : (n at : ℕ) → at ≤ length s → length s - at < 16 * n → times n (range o) (drop at s) ≡ refused field_past_file
  entries-short zero at h l = absurd (omega arith)
  entries-short (suc n) at h l =
      by_cases (dec_le (at + 16) (length s)) (λ k. rw (range-here at k, entries-short n (at + 16) k (omega arith)))
      (λ k. rw (range-short at h (omega (arith, lt_of_not-le k))))

  pub nth-entry : (n i at : ℕ) → i < n → nth (entries n at) i ≡ accepted (entry_at (at + 16 * i))
  nth-entry zero i at l = absurd (omega arith)
  nth-entry (suc n) zero at l = let e : at ≡ at + 16 * 0 = omega arith in ap (λ i. accepted (entry_at i)) e
  nth-entry (suc n) (suc i) at l =
      let e : at + 16 + 16 * i ≡ at + 16 * suc i = omega arith in
      nth-entry n i (at + 16) (omega arith) ∙ ap (λ i. accepted (entry_at i)) e

  pub no-entry : (n i at : ℕ) → n ≤ i → nth (entries n at) i ≡ refused not_found
  no-entry zero i at l = refl
  no-entry (suc n) zero at l = absurd (omega arith)
  no-entry (suc n) (suc i) at l = no-entry n i (at + 16) (omega arith)
