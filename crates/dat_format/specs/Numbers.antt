-- Which numbers a trace.dat file can be refused with: those of each part, and the law that its reader refuses with no other.
-- Assumes nothing.
use Rattle.std.specs.Prelude.{◌≡◌, ◌↔◌, Bool, List, [], ◌∷◌, ◌++◌, length, eqb}
use Prim.Native.Nat.{ℕ, zero, suc, ◌<◌}
use Rattle.std.proofs.Math.Dec.{leb}
use Rattle.refusals.specs.Refusal.{limit, too_long, field_past_file, bad_constant, bad_range, ranges_overlap}
use Rattle.fields.specs.Word.{starts}
use Rattle.fields.specs.Answer.{refused, next}
use Rattle.fields.specs.Reader.{Reader, num}
use Rattle.fields.specs.Refuses.{Refuses, Refusing, OneOf, refuses_never, refuses_with, refuses_cond, refuses_next, refuses_in, refuses_too_long}
use Rattle.fields.specs.Refuses.{refusing_give, refusing_refuse, refusing_bytes, refusing_cond, refusing_then, refusing_num}
use Rattle.fields.specs.declared.Order.{Order}
use Rattle.fields.specs.declared.Order.TheVariants.{Little}
use Rattle.dat_format.specs.Pieces.{such, fixed, after, times, sized, counted, name}
use Rattle.dat_format.specs.Header.{Word, options_word, latency_word, fly_word, Header, magic, tracing, version, page_word, event_word, encode}
use Rattle.dat_format.specs.Layout.{most_cpus, ranges}
use Rattle.dat_format.specs.Tests.{is_long, is_page, in_file, all, all_apart}
use Rattle.dat_format.specs.Decode.{order_in, sizes, flags, opening, system, sections, texts, is_word, word, options_f, options}
use Rattle.dat_format.specs.Decode.{range, ending, tail_after, tail, header, checked, decode}

-- ---- a header's pieces

module _ {P : ℕ → Type 0} where
  refusing_such : {A : Type 0} {p : Reader A} (t : A → Bool) {k : ℕ} → Refusing P p → P k → Refusing P (such p t k)
  refusing_such t h g = refusing_then h (λ a. refusing_cond (t a) refusing_give (refusing_refuse g))

  refusing_times : {A : Type 0} {p : Reader A} (n : ℕ) → Refusing P p → Refusing P (times n p)
  refusing_times zero h = refusing_give
  refusing_times (suc n) h = refusing_then h (λ a. refusing_then (refusing_times n h) (λ l. refusing_give))

  -- 14 where a piece runs past the file
  module _ (past : P field_past_file) where
    refusing_field : (o : Order) (w : ℕ) → Refusing P (num o w field_past_file)
    refusing_field o w = refusing_num o w field_past_file past

    refusing_sized : (o : Order) (w : ℕ) → Refusing P (sized o w)
    refusing_sized o w = refusing_then (refusing_field o w) (λ n. refusing_bytes n field_past_file past)

    refusing_counted : {A : Type 0} (o : Order) {p : Reader A} → Refusing P p → Refusing P (counted o p)
    refusing_counted o h = refusing_then (refusing_field o 4) (λ n. refusing_times n h)

    refusing_name : Refusing P name
    refusing_name = record { reading = by }
      where
        by : (b : List ℕ) → Refuses P (name b)
        by [] = refuses_with past
        by (x ∷ xs) = refuses_cond (eqb x 0) refuses_never (refuses_next (by xs) (λ r. refuses_never))

    -- 15 where one is wholly present and wrong
    module _ (wrong : P bad_constant) where
      refusing_fixed : (w : List ℕ) → Refusing P (fixed w)
      refusing_fixed w = refusing_such (starts w) (refusing_bytes (length w) field_past_file past) wrong

      refusing_after : {A : Type 0} (w : List ℕ) {p : Reader A} → Refusing P p → Refusing P (after w p)
      refusing_after w h = refusing_then (refusing_fixed w) (λ u. h)

-- ---- the parts of a header: 14, 15, and 16 for the CPU count

abbrev pub header_numbers : List ℕ
header_numbers = field_past_file ∷ bad_constant ∷ bad_range ∷ []

-- a reader that refuses with these only
abbrev Part : {A : Type 0} → Reader A → Type 0
Part p = Refusing (OneOf header_numbers) p

order-numbers : (n : ℕ) → Part (order_in n)
order-numbers zero = refusing_give
order-numbers (suc zero) = refusing_give
order-numbers (suc (suc n)) = refusing_refuse tt

opening-numbers : Part opening
unfolding opening flags sizes
opening-numbers =
    refusing_after tt tt magic (refusing_after tt tt tracing (refusing_after tt tt version
    (refusing_then (refusing_field tt Little 1) (λ n.
    refusing_then (order-numbers n) (λ o.
    refusing_then (refusing_such is_long (refusing_field tt Little 1) tt) (λ l.
    refusing_then (refusing_such is_page (refusing_field tt o 4) tt) (λ p. refusing_give)))))))

module _ (o : Order) where
  data_numbers : (w : ℕ) → Part (sized o w)
  data_numbers w = refusing_sized tt o w

  system-numbers : Part (system o)
  unfolding system
  system-numbers = refusing_then (refusing_name tt) (λ n. refusing_then (refusing_counted tt o (data_numbers 8)) (λ fs. refusing_give))

  sections-numbers : Part (sections o)
  unfolding sections
  sections-numbers =
      refusing_then (refusing_after tt tt page_word (data_numbers 8)) (λ p.
      refusing_then (refusing_after tt tt event_word (data_numbers 8)) (λ e.
      refusing_then (refusing_counted tt o (data_numbers 8)) (λ fs.
      refusing_then (refusing_counted tt o system-numbers) (λ ss. refusing_give))))

  texts-numbers : Part (texts o)
  unfolding texts
  texts-numbers =
      refusing_then (data_numbers 4) (λ k. refusing_then (data_numbers 4) (λ f. refusing_then (data_numbers 8) (λ p.
      refusing_then (refusing_such (λ n. leb n most_cpus) (refusing_field tt o 4) tt) (λ n. refusing_give))))

word-numbers : Part word
unfolding word
word-numbers = refusing_then (refusing_such is_word (refusing_bytes 10 field_past_file tt) tt) (λ w. refusing_give)

module _ (o : Order) where
  options-numbers : Part (options o)
  unfolding options
  options-numbers = record { reading = λ b. (by (length b)).reading b }
    where
      by : (n : ℕ) → Part (options_f n o)
      by zero = refusing_refuse tt
      by (suc n) =
          refusing_then (refusing_field tt o 2) (λ t.
          refusing_cond (eqb t 0) refusing_give (refusing_then (data_numbers o 4) (λ d. refusing_then (by n) (λ l. refusing_give))))

  range-numbers : Part (range o)
  unfolding range
  range-numbers = refusing_then (refusing_field tt o 8) (λ a. refusing_then (refusing_field tt o 8) (λ n. refusing_give))

  module _ (n : ℕ) where
    ending-numbers : (w : Word) → Part (ending o n w)
    unfolding ending
    ending-numbers options_word = refusing_refuse tt
    ending-numbers latency_word = refusing_give
    ending-numbers fly_word = refusing_then (refusing_times n range-numbers) (λ rs. refusing_give)

    after-word-numbers : (w : Word) → Part (tail_after o n w)
    unfolding tail_after
    after-word-numbers options_word =
        refusing_then options-numbers (λ l. refusing_then word-numbers (λ w. refusing_then (ending-numbers w) (λ e. refusing_give)))
    after-word-numbers latency_word = refusing_then (ending-numbers latency_word) (λ e. refusing_give)
    after-word-numbers fly_word = refusing_then (ending-numbers fly_word) (λ e. refusing_give)

pub header-numbers : Refusing (OneOf header_numbers) header
unfolding header tail
header-numbers =
    refusing_then opening-numbers (λ h.
    refusing_then (sections-numbers h.order) (λ s.
    refusing_then (texts-numbers h.order) (λ t.
    refusing_then (refusing_then word-numbers (after-word-numbers h.order t.cpus)) (λ e. refusing_give))))

-- ---- a file: 1, 14 to 16, and 17

abbrev pub layout_numbers : List ℕ
layout_numbers = header_numbers ++ ranges_overlap ∷ []

abbrev pub dat_numbers : List ℕ
dat_numbers = too_long ∷ layout_numbers

checked-numbers : (total : ℕ) (h : Header) → Refuses (OneOf layout_numbers) (checked total h)
unfolding checked
checked-numbers total h =
    refuses_cond (all (in_file h.opening.page (length (encode h)) total) (ranges h.tail.ending))
    (refuses_cond (all_apart (ranges h.tail.ending)) refuses_never (refuses_with tt)) (refuses_with tt)

module _ (b : List ℕ) where
  laid-numbers : Refuses (OneOf layout_numbers) (next (header b) (λ r. checked (length b) r.0))
  laid-numbers = refuses_next (refuses_in header_numbers _ (header-numbers.reading b)) (λ r. checked-numbers (length b) r.0)

  pub dat_numbers_lem : Refuses (OneOf dat_numbers) (decode b)
  unfolding decode
  dat_numbers_lem = refuses_cond (leb (length b) limit) (refuses_in layout_numbers _ laid-numbers) (refuses_with tt)

  -- 1 exactly where the file is longer than the limit
  pub dat_too_long : (decode b ≡ refused too_long) ↔ (limit < length b)
  unfolding decode
  dat_too_long = refuses_too_long (length b) laid-numbers (λ e. e)
