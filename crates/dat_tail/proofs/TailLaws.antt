-- What the steps over a word, over the ending and over the whole tail answer in each case that the code tells apart.
-- Assumes nothing.
use Rattle.std.specs.Prelude.{◌≡◌, ◌≢◌, refl, Bool, true, false, cond, ℕ, ◌+◌, ◌-◌, ◌≤◌, List, [], length, take, drop}
use Rattle.std.proofs.Common.{sym, ap, ap₂, ◌∙◌, arith}
use Rattle.std.proofs.Math.Decide.{dec_le}
use Rattle.std.proofs.Math.Logic.{by_cases}
use Rattle.std.proofs.Math.Option.{none, some}
use Rattle.refusals.specs.Refusal.{field_past_file, bad_constant}
use Rattle.fields.specs.Lists.{Each}
use Rattle.fields.specs.Number.{Bytes}
use Rattle.fields.specs.Answer.{Answer, accepted, refused, never, accepted_inj, next}
use Rattle.fields.specs.Reader.{give, refuse, bytes, seen_to, seen_at, pass_at}
use Rattle.fields.specs.At.{place_of}
use Rattle.fields.specs.Got.{Got, not_read, got, shown_of}
use Rattle.fields.specs.declared.Order.{Order}
use Rattle.dat_format.specs.Pieces.{times}
use Rattle.dat_format.specs.Header.{Range, Ending, latency, flyrecord, Tail, Word, options_word, put_word, put_list}
use Rattle.dat_format.specs.Layout.{OptFits}
use Rattle.dat_format.specs.Decode.{is_word, word_in, word, options, range, ending, tail_after, tail}
use Rattle.dat_format.specs.ExactTail.{exact_word, exact_options, word-length}
use Rattle.dat_read.specs.Summary.{part, part_to, ending_parts, tail_parts_after, tail_parts}
use Rattle.dat_read.specs.Read.{stopped, gone_on, nothing_there, read_inside, bytes_there, bytes_read, part-is}
use Rattle.dat_read.specs.declared.summary.Part.{Part}
use Rattle.dat_read.specs.declared.summary.TailParts.{TailParts}
use Rattle.dat_tail.specs.Steps.{word_meaning, word_told, word_seen}
use Rattle.dat_tail.specs.declared.Word as code
use Rattle.dat_tail.specs.declared.Word.TheVariants.{Options, Latency, Flyrecord}

-- ---- the 10-byte word

module _ (s : List ℕ) (at : ℕ) where
  abbrev Words : Answer (Word × ℕ) → Type 0
  Words x = x ≡ seen_at word_seen word s at

  abbrev Ten_at : Answer (Unit {0} × ℕ) → Type 0
  Ten_at x = x ≡ pass_at (bytes 10 field_past_file) s at

  pub no_word : {n : ℕ} → Ten_at (refused n) → Words (refused n)
  unfolding word
  no_word e = rw (stopped (bytes 10 field_past_file) s at e)

  module _ {m : ℕ} (em : Ten_at (accepted (tt, m))) where
    inside : (at + 10 ≤ length s) × (m ≡ at + 10)
    inside = bytes_there 10 field_past_file s at em (omega arith)

    pub word_there : {x : Answer Word} → x ≡ word_told (take (m - at) (drop at s)) → Words (next x (λ w. accepted (w, m)))
    unfolding word
    word_there {x} e =
        let i : m - at ≡ 10 = omega (arith, inside.1) in
        let j : m - 10 ≡ at = omega (arith, inside.1) in
        rw (e, i, bytes_read 10 field_past_file s at em, j) (by (is_word (take 10 (drop at s))))
      where
        by : (t : Bool) → next (cond t (accepted (word_in (take 10 (drop at s)))) (refused bad_constant)) (λ w. accepted (w, m))
            ≡ seen_to (word_seen at) (length s)
            (next {A = List ℕ × List ℕ} (cond t (give (take 10 (drop at s))) (refuse bad_constant) (drop m s)) (λ r. accepted (word_in r.0, r.1)))
        by true = rw (place_of s m (omega (arith, inside.0, inside.1)))
        by false = refl

-- neither a word nor a list of options is read behind the end
word_inside : (s : List ℕ) (at : ℕ) {v : Word} {m : ℕ} → accepted (v, m) ≡ seen_at word_seen word s at → at ≤ length s
unfolding word
word_inside s at e =
    by_cases (dec_le at (length s)) (λ h. h) (λ l. never (nothing_there word_seen word s at field_past_file (omega arith) refl ∙ sym e))

options_inside : (o : Order) (s : List ℕ) (at : ℕ) {m : ℕ} → accepted (tt, m) ≡ pass_at (options o) s at → at ≤ length s
unfolding options
options_inside o s at e = read_inside (options o) s at refl e

-- a word v that was read, and the place after it
pub record Worded (s : List ℕ) (at : ℕ) (v : Word) (m : ℕ) : Type 0 where
  pub got : Got word (λ w. Unit {0}) put_word s at m
  pub is : got.value ≡ v

worded : {s : List ℕ} {at m : ℕ} {v : Word} → Bytes s → at ≤ length s → accepted (v, m) ≡ seen_at word_seen word s at → Worded s at v m
worded {s} {at} {m} {v} b h e = let g = got exact_word s b at h word_seen v m e in record { got = g.0; is = g.1 }

word_end : {s : List ℕ} {at m : ℕ} {v : Word} → Worded s at v m → m ≡ at + 10
word_end w = omega (arith, w.got.place, word-length w.got.value)

-- ---- the ending

module _ (o : Order) (n : ℕ) (p : Part) (s : List ℕ) (at : ℕ) where
  abbrev Ends : code.Word → Answer (TailParts × ℕ) → Type 0
  Ends v x = x ≡ seen_at (ending_parts p) (ending o n (word_meaning v)) s at

  module _ {v : code.Word} where
    pub again : v ≡ Options → Ends v (refused bad_constant)
    unfolding ending
    again e = rw e

    pub text : at ≤ length s → v ≡ Latency → Ends v (accepted (ending_parts p at latency, at))
    unfolding ending
    text h e = rw (e, place_of s at h)

    module _ (e : v ≡ Flyrecord) where
      pub bad_entries : {k : ℕ} → refused k ≡ pass_at (times n (range o)) s at → Ends v (refused k)
      unfolding ending
      bad_entries f = rw (e, stopped (times n (range o)) s at f)

      entries_shown : (m : ℕ) (x : Answer (List Range × List ℕ)) → ◌≡◌ {A = Answer (Unit {0} × ℕ)} (accepted (tt, m)) (seen_to (λ a. tt) (length s) x)
          → accepted (ending_parts p at (flyrecord []), m)
          ≡ seen_to (ending_parts p at) (length s) (next {B = Ending × List ℕ} x (λ r. accepted (flyrecord r.0, r.1)))
      entries_shown m (accepted r) f = ap (λ i. accepted (ending_parts p at (flyrecord []), i)) (accepted_inj f).1
      entries_shown m (refused k) f = never (sym f)

      pub with_entries : {m : ℕ} → accepted (tt, m) ≡ pass_at (times n (range o)) s at → Ends v (accepted (ending_parts p at (flyrecord []), m))
      unfolding ending
      with_entries {m} f = rw e (entries_shown m (times n (range o) (drop at s)) f)

-- ---- options and the ending

module _ (o : Order) (n : ℕ) (s : List ℕ) (given : Bytes s) (at : ℕ) where
  abbrev After : Answer (TailParts × ℕ) → Type 0
  After x = x ≡ seen_at (tail_parts_after o) (tail_after o n options_word) s at

  pub bad_options : {k : ℕ} → refused k ≡ pass_at (options o) s at → After (refused k)
  unfolding tail_after
  bad_options e = rw (stopped (options o) s at e)

  module _ {m : ℕ} (eo : accepted (tt, m) ≡ pass_at (options o) s at) where
    listed : Got (options o) (Each OptFits) (put_list o) s at m
    listed = gone_on (exact_options o) given (options_inside o s at eo) eo

    pub bad_second : {k : ℕ} → refused k ≡ seen_at word_seen word s m → After (refused k)
    unfolding tail_after
    bad_second {k} e = rw (listed.reads, not_read word_seen word s m k e)

    abbrev size : ℕ
    size = length (put_list o listed.value)

    pub with_options : {v : Word} {e : ℕ} → accepted (v, e) ≡ seen_at word_seen word s m → {p : Part} → p ≡ part_to at m → {x : Answer (TailParts × ℕ)}
        → x ≡ seen_at (ending_parts p) (ending o n v) s e → After x
    unfolding tail_after
    with_options {v} {e} ew {p} ep k =
        let w = worded given listed.inside ew in
        let place : e ≡ at + size + 10 = omega (arith, listed.place, word_end w) in
        let rest = ending o n v (drop e s) in
        k ∙ ap₂ (λ p i. seen_to (ending_parts p i) (length s) rest) (part-is at m size p ep listed.place) place
        ∙ sym (shown_of (tail_parts_after o at) (length s) rest (λ z. record { options = some listed.value; ending = z }))
        ∙ rw (listed.reads, w.got.reads, w.is)

-- ---- the whole tail

module _ (o : Order) (n : ℕ) (s : List ℕ) (at : ℕ) where
  abbrev Tails : Answer (TailParts × ℕ) → Type 0
  Tails x = x ≡ seen_at (tail_parts o) (tail o n) s at

  pub bad_first : {k : ℕ} → refused k ≡ seen_at word_seen word s at → Tails (refused k)
  unfolding tail
  bad_first {k} e = rw (not_read word_seen word s at k e)

  module _ (given : Bytes s) (v : code.Word) {m : ℕ} (ew : accepted (word_meaning v, m) ≡ seen_at word_seen word s at) where
    first : Worded s at (word_meaning v) m
    first = worded given (word_inside s at ew) ew

    abbrev none_before : Answer (Ending × List ℕ) → Answer (Tail × List ℕ)
    none_before y = next y (λ r. accepted (record { options = none; ending = r.0 }, r.1))

    -- no options before the ending
    abbrev Bare : Word → Answer (TailParts × ℕ) → Type 0
    Bare u x = x ≡ seen_at (ending_parts (part 0 0)) (ending o n u) s m

    bare : (u : Word) (x : Answer (TailParts × ℕ)) → Bare u x → x ≡ seen_to (tail_parts o at) (length s) (none_before (ending o n u (drop m s)))
    bare u x k =
        k ∙ ap (λ i. seen_to (ending_parts (part 0 0) i) (length s) (ending o n u (drop m s))) (word_end first)
        ∙ sym (shown_of (tail_parts o at) (length s) (ending o n u (drop m s)) (λ z. record { options = none; ending = z }))

    pub has_options : v ≡ Options → {x : Answer (TailParts × ℕ)} → x ≡ seen_at (tail_parts_after o) (tail_after o n options_word) s m → Tails x
    unfolding tail
    has_options e k =
        k ∙ ap (λ i. seen_to (tail_parts_after o i) (length s) (tail_after o n options_word (drop m s))) (word_end first)
        ∙ rw (first.got.reads, first.is, e)

    -- what a word other than `options` leads
    led : (u : code.Word) → u ≢ Options → seen_to (tail_parts o at) (length s) (none_before (ending o n (word_meaning u) (drop m s)))
        ≡ seen_to (tail_parts o at) (length s) (tail_after o n (word_meaning u) (drop m s))
    unfolding tail_after
    led Options l = absurd (l refl)
    led Latency l = refl
    led Flyrecord l = refl

    pub ending_only : v ≢ Options → {x : Answer (TailParts × ℕ)} → Bare (word_meaning v) x → Tails x
    unfolding tail
    ending_only l {x} k = bare (word_meaning v) x k ∙ led v l ∙ rw (first.got.reads, first.is)
