-- The readers of the opening, the sections and the texts are exact.
-- Assumes nothing.
use Rattle.std.specs.Prelude.{◌≡◌, refl, ℕ, zero, suc, ◌^◌, ◌<◌, [], ◌++◌, leb}
use Rattle.std.proofs.Common.{ap, inl, inr, arith, append_assoc, append-nil, leb-true, le-leb}
use Rattle.refusals.specs.Refusal.{field_past_file, bad_constant, bad_range}
use Rattle.fields.specs.Lists.{clash}
use Rattle.fields.specs.Number.{field}
use Rattle.fields.specs.Exact.{Exact, exact_give, exact_refuse, exact_then, exact_as, exact_num}
use Rattle.fields.specs.declared.Order.{Order}
use Rattle.fields.specs.declared.Order.TheVariants.{Little, Big}
use Rattle.dat_format.specs.Header.{Opening, magic, tracing, version, page_word, event_word, code_of, put_flags, put_opening, put_system, put_sections, put_texts}
use Rattle.dat_format.specs.Layout.{LongFits, most_cpus, OpeningFits, SystemFits, SectionsFit, TextsFit}
use Rattle.dat_format.specs.Tests.{is_long, is_page}
use Rattle.dat_format.specs.Decode.{order_in, sizes, flags, opening, system, sections, texts}
use Rattle.dat_format.specs.ExactPieces.{exact_such, exact_after, exact_counted, exact_sized, exact_name}
use Rattle.dat_format.specs.Pages.{long-fits, page_fits}

-- ---- the opening

exact_orderIn : (n : ℕ) → Exact (order_in n) (λ o. code_of o ≡ n) (λ o. [])
exact_orderIn zero =
    exact_as (exact_give Little) (elim [ Little ↦ λ h. (refl, refl) | Big ↦ λ h. absurd (omega arith) ])
    (elim [ Little ↦ λ h. (refl, refl) | Big ↦ λ h. clash (cc) ])
exact_orderIn (suc zero) =
    exact_as (exact_give Big) (elim [ Little ↦ λ h. absurd (omega arith) | Big ↦ λ h. (refl, refl) ])
    (elim [ Little ↦ λ h. clash (cc) | Big ↦ λ h. (refl, refl) ])
exact_orderIn (suc (suc n)) = exact_refuse bad_constant _ _ (elim [ Little ↦ λ h. omega arith | Big ↦ λ h. omega arith ])

code_small : (o : Order) → code_of o < 256 ^ 1
code_small Little = omega arith
code_small Big = omega arith

long_small : (n : ℕ) → LongFits n → n < 256 ^ 1
long_small n (inl e) = omega arith
long_small n (inr e) = omega arith

exact_sizes : (o : Order) → Exact (sizes o) (λ h. OpeningFits h × (h.order ≡ o)) (λ h. field Little 1 h.long ++ field o 4 h.page)
unfolding sizes
exact_sizes o =
    exact_as
    (exact_then (exact_such is_long bad_constant (exact_num Little 1 field_past_file))
    (λ l. exact_then (exact_such is_page bad_constant (exact_num o 4 field_past_file)) (λ p. exact_give (record { order = o; long = l; page = p }))
    (λ h. h.page) (λ p h f e. ap (λ h. h.page) e))
    (λ h. h.long) (λ l h f e. ap (λ h. h.long) e.1))
    (λ h f. (
      (
        (long_small h.long f.0.0, (long-fits h.long).1 f.0.0),
        ((omega (arith, f.0.1.1), (page_fits h.page).1 f.0.1), made h f.1),
      ),
      simp append-nil,
    ))
    (λ h f. ((((long-fits h.long).0 f.0.1, (page_fits h.page).0 f.1.0.1), ap (λ h. h.order) f.1.1), simp append-nil))
  where
    made : (h : Opening) → h.order ≡ o → ◌≡◌ {A = Opening} h (record { order = o; long = h.long; page = h.page })
    made h e = ap (λ o. record { order = o; long = h.long; page = h.page }) e

exact_flags : Exact flags OpeningFits put_flags
unfolding flags
exact_flags =
    exact_as
    (exact_then (exact_num Little 1 field_past_file) (λ n. exact_then (exact_orderIn n) exact_sizes (λ h. h.order) (λ o h f e. e.1))
    (λ h. code_of h.order) (λ n h f e. e.0))
    (λ h f. ((code_small h.order, (refl, (f, refl))), refl)) (λ h f. (f.1.1.0, refl))

pub exact_opening : Exact opening OpeningFits put_opening
unfolding opening put_opening
exact_opening = exact_after magic (exact_after tracing (exact_after version exact_flags))

-- ---- the sections

pub exact_system : (o : Order) → Exact (system o) SystemFits (put_system o)
unfolding system
exact_system o =
    exact_as
    (exact_then exact_name (λ n. exact_then (exact_counted (exact_sized o 8) o) (λ fs. exact_give (record { name = n; formats = fs }))
    (λ s. s.formats) (λ fs s f e. ap (λ s. s.formats) e))
    (λ s. s.name) (λ n s f e. ap (λ s. s.name) e.1))
    (λ s f. ((f.0, (f.1, refl)), simp append-nil)) (λ s f. ((f.0, f.1.0), simp append-nil))

pub exact_sections : (o : Order) → Exact (sections o) SectionsFit (put_sections o)
unfolding sections put_sections
exact_sections o =
    exact_as
    (exact_then (exact_after page_word (exact_sized o 8)) (λ p. exact_then (exact_after event_word (exact_sized o 8))
    (λ e. exact_then (exact_counted (exact_sized o 8) o) (λ fs. exact_then (exact_counted (exact_system o) o)
    (λ ss. exact_give (record { header_page = p; header_event = e; formats = fs; systems = ss }))
    (λ h. h.systems) (λ ss h f e. ap (λ h. h.systems) e))
    (λ h. h.formats) (λ fs h f e. ap (λ h. h.formats) e.1))
    (λ h. h.header_event) (λ v h f e. ap (λ h. h.header_event) e.1.1))
    (λ h. h.header_page) (λ p h f e. ap (λ h. h.header_page) e.1.1.1))
    (λ h f. ((f.0, (f.1, (f.2, (f.3, refl)))), simp (append-nil, append_assoc)))
    (λ h f. ((f.0, f.1.0, f.1.1.0, f.1.1.1.0), simp (append-nil, append_assoc)))

-- ---- the texts

pub exact_texts : (o : Order) → Exact (texts o) TextsFit (put_texts o)
unfolding texts put_texts
exact_texts o =
    exact_as
    (exact_then (exact_sized o 4) (λ k. exact_then (exact_sized o 4) (λ f. exact_then (exact_sized o 8)
    (λ p. exact_then (exact_such (λ n. leb n most_cpus) bad_range (exact_num o 4 field_past_file))
    (λ n. exact_give (record { kallsyms = k; printk = f; processes = p; cpus = n }))
    (λ h. h.cpus) (λ n h f e. ap (λ h. h.cpus) e))
    (λ h. h.processes) (λ p h f e. ap (λ h. h.processes) e.1))
    (λ h. h.printk) (λ p h f e. ap (λ h. h.printk) e.1.1))
    (λ h. h.kallsyms) (λ p h f e. ap (λ h. h.kallsyms) e.1.1.1))
    (λ h f. ((f.0, (f.1, (f.2, ((omega (arith, f.3), le-leb h.cpus most_cpus f.3), refl)))), simp (append-nil, append_assoc)))
    (λ h f. ((f.0, f.1.0, f.1.1.0, leb-true h.cpus most_cpus f.1.1.1.0.1), simp (append-nil, append_assoc)))
