-- The readers of the options, the CPU entries and the ending are exact.
-- Assumes nothing.
use Rattle.std.specs.Prelude.{◌≡◌, refl, Bool, true, false, cond, ◌||◌, ℕ, zero, suc, ◌^◌, ◌<◌, ◌≤◌, length, eqb}
use Rattle.std.proofs.Common.{sym, ◌∙◌, arith, length-append, eqb-true}
use Rattle.std.proofs.Math.Path.{ap}
use Rattle.std.proofs.Math.Option.{Option, none, some}
use mathlib.Core.List.{List, [], ◌∷◌, ◌++◌, append_assoc, append-nil}
use Rattle.std.proofs.lemmas.Bool.{eqb-false}
use Rattle.refusals.specs.Refusal.{field_past_file, bad_constant}
use Rattle.fields.specs.Lists.{concat_map, Each, clash}
use Rattle.fields.specs.Number.{field, length-field, field-before}
use Rattle.fields.specs.Word.{starts, starts-same}
use Rattle.fields.specs.Reader.{◌>>=◌, give}
use Rattle.fields.specs.Exact.{Exact, exact_give, exact_refuse, exact_bytes, exact_then, exact_as, exact_cond, exact_num}
use Rattle.fields.specs.declared.Order.{Order}
use Rattle.dat_format.specs.Pieces.{sized, put_sized}
use Rattle.dat_format.specs.Header.{Opt, Ending, latency, flyrecord, Tail, Word, options_word, latency_word, fly_word}
use Rattle.dat_format.specs.Header.{put_word, put_opt, put_list, put_options, put_range, put_ending, put_tail}
use Rattle.dat_format.specs.Layout.{DataFits, OptFits, RangeFits, EndingFits, TailFits, ranges}
use Rattle.dat_format.specs.Decode.{is_word, word_in, word, options_f, options, range, ending, tail_after, tail}
use Rattle.dat_format.specs.ExactPieces.{exact_such, exact_times, exact_sized}

-- ---- the 10-byte word

pub word-length : (w : Word) → length (put_word w) ≡ 10
word-length options_word = refl
word-length latency_word = refl
word-length fly_word = refl

is_word_lem : (w : Word) → is_word (put_word w) ≡ true
is_word_lem options_word = refl
is_word_lem latency_word = refl
is_word_lem fly_word = refl

word_in_lem : (w : Word) → w ≡ word_in (put_word w)
word_in_lem options_word = refl
word_in_lem latency_word = refl
word_in_lem fly_word = refl

-- ten bytes that begin with a word are that word
put_in : (b : List ℕ) → length b ≡ 10 → is_word b ≡ true → put_word (word_in b) ≡ b
put_in b l e = by (starts (put_word options_word) b) (starts (put_word latency_word) b) refl refl e
  where
    by : (p q : Bool) → starts (put_word options_word) b ≡ p → starts (put_word latency_word) b ≡ q → p || (q || starts (put_word fly_word) b) ≡ true
        → put_word (cond p options_word (cond q latency_word fly_word)) ≡ b
    by true q ep eq e = starts-same (put_word options_word) b l ep
    by false true ep eq e = starts-same (put_word latency_word) b l eq
    by false false ep eq e = starts-same (put_word fly_word) b l e

pub exact_word : Exact word (λ w. Unit {0}) put_word
unfolding word
exact_word =
    exact_as
    (exact_then (exact_such is_word bad_constant (exact_bytes 10 field_past_file)) (λ b. exact_give (word_in b)) put_word
    (λ b w f e. ap put_word e ∙ put_in b f.0 f.1))
    (λ w f. (((word-length w, is_word_lem w), word_in_lem w), append-nil (put_word w))) (λ w f. (tt, append-nil (put_word w)))

-- ---- options

type_of : List Opt → ℕ
type_of [] = 0
type_of (x ∷ l) = x.type

body_in : List Opt → List ℕ
body_in [] = []
body_in (x ∷ l) = x.body

later_in : List Opt → List Opt
later_in [] = []
later_in (x ∷ l) = l

-- what stands after the first type
rest_list : Order → List Opt → List ℕ
rest_list o [] = []
rest_list o (x ∷ l) = put_sized o 4 x.body ++ put_list o l

-- the list, whose first type is t; that t is small enough is known from its own reading
abbrev Starts : ℕ → ℕ → List Opt → Type 0
Starts f t [] = 0 ≡ t
Starts f t (x ∷ l) = (x.type ≡ t) × (0 < x.type) × DataFits 4 x.body × (length l < f) × Each OptFits l

none_left : (o : Order) (f t : ℕ) → eqb t 0 ≡ true → Exact (give []) (Starts f t) (rest_list o)
unfolding rest_list
none_left o f t e =
    exact_as (exact_give []) (elim [ [] ↦ λ h. (refl, refl) | x ∷ l ↦ λ h. absurd (omega (arith, eqb-true t 0 e, h.0, h.1)) ])
    (elim [ [] ↦ λ h. (sym (eqb-true t 0 e), refl) | x ∷ l ↦ λ h. clash (cc) ])

one_more : (o : Order) (f t : ℕ) → eqb t 0 ≡ false → Exact (options_f f o) (λ l. (length l < f) × Each OptFits l) (put_list o)
    → Exact (sized o 4 >>= (λ d. options_f f o >>= (λ l. give (record { type = t; body = d } ∷ l)))) (Starts f t) (rest_list o)
unfolding type_of rest_list body_in later_in
one_more o f t e later =
    exact_as
    (exact_then (exact_sized o 4) (λ d. exact_then later (λ l. exact_give (record { type = t; body = d } ∷ l))
    later_in (λ l m h e. ap later_in e))
    body_in (λ d m h e. ap body_in e.1))
    (elim [
      | [] ↦ λ h. absurd (eqb-false t 0 e (sym h))
      | x ∷ l ↦ λ h. ((h.2, ((h.3, h.4), ap {B = List Opt} (λ t. record { type = t; body = x.body } ∷ l) h.0)), simp (append-nil, append_assoc))
    ])
    (elim [
      | [] ↦ λ h. clash (cc)
      | x ∷ l ↦ λ h. let q = ap type_of h.1.1 in ((q, omega (arith, eqb-false t 0 e), h.0, h.1.0.0, h.1.0.1), simp (append-nil, append_assoc))
    ])

first_type : (f t : ℕ) (l : List Opt) → t < 256 ^ 2 → Starts f t l → type_of l ≡ t
unfolding type_of
first_type f t [] h e = e
first_type f t (x ∷ l) h e = e.0

list_rest : (o : Order) (x : Opt) (l : List Opt) → field o 2 x.type ++ (put_sized o 4 x.body ++ put_list o l) ≡ put_list o (x ∷ l)
list_rest o x l = simp append_assoc

exact_options_f : (f : ℕ) (o : Order) → Exact (options_f f o) (λ l. (length l < f) × Each OptFits l) (put_list o)
unfolding type_of rest_list
exact_options_f zero o = exact_refuse field_past_file _ _ (λ l h. omega arith)
exact_options_f (suc f) o =
    exact_as
    (exact_then (exact_num o 2 field_past_file) (λ t. exact_cond (eqb t 0) (none_left o f t) (λ e. one_more o f t e (exact_options_f f o)))
    type_of (first_type f))
    (elim [
      | [] ↦ λ h. ((omega arith, refl), append-nil _)
      | x ∷ l ↦ λ h. ((h.1.0.1, (refl, h.1.0.0, h.1.0.2, omega arith, h.1.1)), list_rest o x l)
    ])
    (elim [ [] ↦ λ h. ((omega arith, tt), append-nil _) | x ∷ l ↦ λ h. ((omega arith, ((h.1.1, h.0, h.1.2), h.1.4)), list_rest o x l) ])

option_length : (o : Order) (x : Opt) → 0 < length (put_opt o x)
option_length o x = omega (arith, field-before o 2 x.type (put_sized o 4 x.body))

list_length : (o : Order) (l : List Opt) → length l ≤ length (concat_map (put_opt o) l)
list_length o [] = omega arith
list_length o (x ∷ l) = omega (arith, list_length o l, option_length o x, length-append (put_opt o x) (concat_map (put_opt o) l))

enough : (o : Order) (l : List Opt) (rest : List ℕ) → length l < length (put_list o l ++ rest)
enough o l rest = omega (arith, list_length o l, length-append (put_list o l) rest, length-append (concat_map (put_opt o) l) (field o 2 0), length-field o 2 0)

pub exact_options : (o : Order) → Exact (options o) (Each OptFits) (put_list o)
unfolding options
exact_options o =
    record {
      back = λ l rest f. (exact_options_f (length (put_list o l ++ rest)) o).back l rest (enough o l rest, f);
      forth = λ b l rest h e. let q = (exact_options_f (length b) o).forth b l rest h e in (q.0.1, q.1);
    }

-- ---- the ending

pub exact_range : (o : Order) → Exact (range o) RangeFits (put_range o)
unfolding range
exact_range o =
    exact_as
    (exact_then (exact_num o 8 field_past_file) (λ a. exact_then (exact_num o 8 field_past_file) (λ n. exact_give (record { offset = a; size = n }))
    (λ r. r.size) (λ n r f e. ap (λ r. r.size) e))
    (λ r. r.offset) (λ a r f e. ap (λ r. r.offset) e.1))
    (λ r f. ((f.0, (f.1, refl)), simp append-nil)) (λ r f. ((f.0, f.1.0), simp append-nil))

-- an ending's word, and what follows it
word_of : Ending → Word
word_of latency = latency_word
word_of (flyrecord rs) = fly_word

rest_of : Order → Ending → List ℕ
rest_of o latency = []
rest_of o (flyrecord rs) = concat_map (put_range o) rs

word-rest : (o : Order) (e : Ending) → put_word (word_of e) ++ rest_of o e ≡ put_ending o e
unfolding word_of rest_of
word-rest o latency = refl
word-rest o (flyrecord rs) = refl

abbrev IsEnding : ℕ → Word → Ending → Type 0
IsEnding n w e = (word_of e ≡ w) × EndingFits n e

exact_ending : (o : Order) (n : ℕ) (w : Word) → Exact (ending o n w) (IsEnding n w) (rest_of o)
unfolding ending word_of rest_of
exact_ending o n options_word = exact_refuse bad_constant _ _ (elim [ latency ↦ λ h. clash (cc) | flyrecord rs ↦ λ h. clash (cc) ])
exact_ending o n latency_word =
    exact_as (exact_give latency) (elim [ latency ↦ λ h. (refl, refl) | flyrecord rs ↦ λ h. clash (cc) ])
    (elim [ latency ↦ λ h. ((refl, tt), refl) | flyrecord rs ↦ λ h. clash (cc) ])
exact_ending o n fly_word =
    exact_as (exact_then (exact_times (exact_range o) n) (λ rs. exact_give (flyrecord rs)) ranges (λ rs e h k. ap ranges k))
    (elim [ latency ↦ λ h. clash (cc) | flyrecord rs ↦ λ h. ((h.1, refl), append-nil _) ])
    (elim [ latency ↦ λ h. clash (cc) | flyrecord rs ↦ λ h. ((refl, h.0), append-nil _) ])

-- ---- options and the ending

-- a tail's first word, and what follows it
first_word : Option (List Opt) → Ending → Word
first_word none e = word_of e
first_word (some l) e = options_word

rest_tail : Order → Option (List Opt) → Ending → List ℕ
rest_tail o none e = rest_of o e
rest_tail o (some l) e = put_list o l ++ put_ending o e

first_rest : (o : Order) (x : Option (List Opt)) (e : Ending) → put_word (first_word x e) ++ rest_tail o x e ≡ put_options o x ++ put_ending o e
unfolding first_word rest_tail
first_rest o none e = word-rest o e
first_rest o (some l) e = sym (append_assoc (put_word options_word) (put_list o l) (put_ending o e))

list_in : Option (List Opt) → List Opt
list_in none = []
list_in (some l) = l

abbrev IsTail : ℕ → Word → Tail → Type 0
IsTail n w t = (first_word t.options t.ending ≡ w) × TailFits n t

-- no options: the first word is the ending's
module _ (o : Order) (n : ℕ) (w : Word) (ne : w ≡ options_word → ⊥) where
  abbrev Bare : Option (List Opt) → Ending → Type 0
  Bare x e = IsEnding n w e × (◌≡◌ {A = Tail} (record { options = x; ending = e }) (record { options = none; ending = e }))

  bare_to : (x : Option (List Opt)) (e : Ending) → IsTail n w (record { options = x; ending = e }) → Bare x e × (rest_of o e ++ [] ≡ rest_tail o x e)
  unfolding first_word rest_tail
  bare_to none e h = (((h.0, h.1.1), refl), append-nil _)
  bare_to (some l) e h = absurd (ne (sym h.0))

  bare-from : (x : Option (List Opt)) (e : Ending) → Bare x e → IsTail n w (record { options = x; ending = e }) × (rest_of o e ++ [] ≡ rest_tail o x e)
  unfolding first_word rest_tail
  bare-from none e h = ((h.0.0, (tt, h.0.1)), append-nil _)
  bare-from (some l) e h = let q : some l ≡ none = ap (λ t. t.options) h.1 in clash (cc)

  exact_bare : Exact (ending o n w >>= (λ e. give (record { options = none; ending = e }))) (IsTail n w) (λ t. rest_tail o t.options t.ending)
  exact_bare =
      exact_as (exact_then (exact_ending o n w) (λ e. exact_give (record { options = none; ending = e })) (λ t. t.ending) (λ e t h k. ap (λ t. t.ending) k))
      (λ t. bare_to t.options t.ending) (λ t. bare-from t.options t.ending)

-- options, and then the ending's word
module _ (o : Order) (n : ℕ) where
  abbrev Full : Option (List Opt) → Ending → Type 0
  Full x e =
      let same = ◌≡◌ {A = Tail} (record { options = x; ending = e }) (record { options = some (list_in x); ending = e }) in
      Each OptFits (list_in x) × (Unit {0} × (((word_of e ≡ word_of e) × EndingFits n e) × same))

  abbrev write : Option (List Opt) → Ending → List ℕ
  write x e = put_list o (list_in x) ++ (put_word (word_of e) ++ (rest_of o e ++ []))

  same_bytes_lem : (l : List Opt) (e : Ending) → put_list o l ++ (put_word (word_of e) ++ (rest_of o e ++ [])) ≡ put_list o l ++ put_ending o e
  same_bytes_lem l e = ap (λ t. put_list o l ++ t) (ap (λ t. put_word (word_of e) ++ t) (append-nil _) ∙ word-rest o e)

  full_to : (x : Option (List Opt)) (e : Ending) → IsTail n options_word (record { options = x; ending = e }) → Full x e × (write x e ≡ rest_tail o x e)
  unfolding first_word rest_tail word_of list_in
  full_to none latency h = clash (cc)
  full_to none (flyrecord rs) h = clash (cc)
  full_to (some l) e h = ((h.1.0, (tt, ((refl, h.1.1), refl))), same_bytes_lem l e)

  full_from : (x : Option (List Opt)) (e : Ending) → Full x e → IsTail n options_word (record { options = x; ending = e }) × (write x e ≡ rest_tail o x e)
  unfolding first_word rest_tail list_in
  full_from none e h = let q : none ≡ some (list_in none) = ap (λ t. t.options) h.1.1.1 in clash (cc)
  full_from (some l) e h = ((refl, (h.0, h.1.1.0.1)), same_bytes_lem l e)

  exact_full : Exact (tail_after o n options_word) (IsTail n options_word) (λ t. rest_tail o t.options t.ending)
  unfolding tail_after list_in
  exact_full =
      exact_as
      (exact_then (exact_options o)
      (λ l. exact_then exact_word
      (λ w. exact_then (exact_ending o n w) (λ e. exact_give (record { options = some l; ending = e })) (λ t. t.ending) (λ e t h k. ap (λ t. t.ending) k))
      (λ t. word_of t.ending) (λ w t h k. k.0.0))
      (λ t. list_in t.options) (λ l t h k. ap (λ t. list_in t.options) k.1.1))
      (λ t. full_to t.options t.ending) (λ t. full_from t.options t.ending)

exact_tail_after : (o : Order) (n : ℕ) (w : Word) → Exact (tail_after o n w) (IsTail n w) (λ t. rest_tail o t.options t.ending)
unfolding tail_after
exact_tail_after o n options_word = exact_full o n
exact_tail_after o n latency_word = exact_bare o n latency_word (λ e. clash (cc))
exact_tail_after o n fly_word = exact_bare o n fly_word (λ e. clash (cc))

pub exact_tail : (o : Order) (n : ℕ) → Exact (tail o n) (TailFits n) (put_tail o)
unfolding tail put_tail
exact_tail o n =
    exact_as (exact_then exact_word (exact_tail_after o n) (λ t. first_word t.options t.ending) (λ w t h k. k.0))
    (λ t f. ((tt, (refl, f)), first_rest o t.options t.ending)) (λ t f. (f.1.1, first_rest o t.options t.ending))
