-- What the steps of the sections answer in each case that the code tells apart.
-- Assumes nothing.
use Rattle.std.specs.Prelude.{◌≡◌, refl, ℕ, ◌+◌, List, ◌++◌, length, take, drop}
use Rattle.std.proofs.Common.{sym, ap, ◌∙◌, arith, append_assoc, length-append, take_at}
use Rattle.fields.specs.Lists.{concat_map}
use Rattle.fields.specs.Number.{Bytes, number, field, length-field, number-field, word_at, word_in_lem}
use Rattle.fields.specs.Answer.{Answer, accepted, refused}
use Rattle.fields.specs.Reader.{Reader, seen_at, pass_at}
use Rattle.fields.specs.At.{place_of}
use Rattle.fields.specs.Got.{Got, shown_of}
use Rattle.fields.specs.declared.Order.{Order}
use Rattle.dat_format.specs.Pieces.{after, sized, put_sized, counted, put_counted, name}
use Rattle.dat_format.specs.Header.{System, put_system, page_word, event_word}
use Rattle.dat_format.specs.Layout.{DataFits, CountFits, SystemFits}
use Rattle.dat_format.specs.Decode.{system, sections}
use Rattle.dat_format.specs.ExactPieces.{exact_name, exact_after, exact_sized, exact_counted}
use Rattle.dat_format.specs.ExactSections.{exact_system}
use Rattle.dat_read.specs.Summary.{part_to, section_parts}
use Rattle.dat_read.specs.Read.{stopped, gone_on, read_inside, length-sized, length-counted, part-is}
use Rattle.dat_read.specs.declared.summary.Part.{Part}
use Rattle.dat_read.specs.declared.summary.SectionParts.{SectionParts}

-- ---- what was read: data behind a word and a size, elements behind a count

abbrev pub Piece : Order → List ℕ → List ℕ → ℕ → ℕ → Type 0
Piece o w s at m = Got (after w (sized o 8)) (DataFits 8) (λ d. w ++ put_sized o 8 d) s at m

abbrev pub Counted : {A : Type 0} → Order → Reader A → (A → Type 0) → (A → List ℕ) → List ℕ → ℕ → ℕ → Type 0
Counted o p F put s at m = Got (counted o p) (CountFits F) (put_counted o put) s at m

piece-end : (o : Order) (w s : List ℕ) (at m : ℕ) (g : Piece o w s at m) → m ≡ at + (length w + 8) + length g.value
piece-end o w s at m g = omega (arith, g.place, length-append w (put_sized o 8 g.value), length-sized o 8 g.value)

module _ {A : Type 0} (o : Order) (p : Reader A) (F : A → Type 0) (put : A → List ℕ) (s : List ℕ) (at m : ℕ) (g : Counted o p F put s at m) where
  abbrev count : ℕ
  count = length g.value

  abbrev body : List ℕ
  body = concat_map put g.value

  counted-end : m ≡ at + 4 + length body
  counted-end = omega (arith, g.place, length-counted o put g.value)

  -- the count that stands there
  count-is : (n : ℕ) → n ≡ word_at o 4 s at → n ≡ count
  count-is n e =
      let q : field o 4 count ++ (body ++ drop m s) ≡ drop at s = sym (append_assoc (field o 4 count) body (drop m s)) ∙ g.laid in
      e ∙ word_in_lem o 4 s at (omega (arith, counted-end, g.inside)) ∙ ap (λ l. number o (take 4 l)) (sym q)
      ∙ ap (number o) (take_at (field o 4 count) (body ++ drop m s) 4 (length-field o 4 count)) ∙ number-field o 4 count g.fits.0

-- ---- a system

module _ (o : Order) (s : List ℕ) (at : ℕ) where
  pub bad_name : {n : ℕ} → refused n ≡ pass_at name s at → refused n ≡ pass_at (system o) s at
  unfolding system
  bad_name e = rw (stopped name s at e)

  pub named : Bytes s → {m : ℕ} → accepted (tt, m) ≡ pass_at name s at → {x : Answer (Unit {0} × ℕ)}
      → x ≡ pass_at (counted o (sized o 8)) s m → x ≡ pass_at (system o) s at
  unfolding system
  named b {m} e k =
      let g = gone_on exact_name b (read_inside name s at refl e) e in
      k ∙ sym (shown_of {B = System} (λ a. tt) (length s) (counted o (sized o 8) (drop m s)) (λ fs. record { name = g.value; formats = fs }))
      ∙ rw g.reads

-- ---- the sections

abbrev Sections : Order → List ℕ → ℕ → Answer (SectionParts × ℕ) → Type 0
Sections o s at x = x ≡ seen_at (section_parts o) (sections o) s at

-- one stretch after another: the first that is refused refuses the sections
module _ (o : Order) (s : List ℕ) (given : Bytes s) (at : ℕ) where
  abbrev page_piece : Reader (List ℕ)
  page_piece = after page_word (sized o 8)

  abbrev event_piece : Reader (List ℕ)
  event_piece = after event_word (sized o 8)

  abbrev Refused : ℕ → Type 0
  Refused n = Sections o s at (refused n)

  pub bad_page : {n : ℕ} → refused n ≡ pass_at page_piece s at → Refused n
  unfolding sections
  bad_page e = rw (stopped page_piece s at e)

  module _ {a : ℕ} (ea : accepted (tt, a) ≡ pass_at page_piece s at) where
    page : Piece o page_word s at a
    page = gone_on (exact_after page_word (exact_sized o 8)) given (read_inside page_piece s at refl ea) ea

    pub bad_event : {n : ℕ} → refused n ≡ pass_at event_piece s a → Refused n
    unfolding sections
    bad_event e = rw (page.reads, stopped event_piece s a e)

    module _ {b : ℕ} (eb : accepted (tt, b) ≡ pass_at event_piece s a) where
      event : Piece o event_word s a b
      event = gone_on (exact_after event_word (exact_sized o 8)) given page.inside eb

      pub bad_formats : {n : ℕ} → refused n ≡ pass_at (counted o (sized o 8)) s b → Refused n
      unfolding sections
      bad_formats e = rw (page.reads, event.reads, stopped (counted o (sized o 8)) s b e)

      module _ {c : ℕ} (ec : accepted (tt, c) ≡ pass_at (counted o (sized o 8)) s b) where
        formats : Counted o (sized o 8) (DataFits 8) (put_sized o 8) s b c
        formats = gone_on (exact_counted (exact_sized o 8) o) given event.inside ec

        pub bad_systems : {n : ℕ} → refused n ≡ pass_at (counted o (system o)) s c → Refused n
        unfolding sections
        bad_systems e = rw (page.reads, event.reads, formats.reads, stopped (counted o (system o)) s c e)

        module _ {d : ℕ} (ed : accepted (tt, d) ≡ pass_at (counted o (system o)) s c) where
          systems : Counted o (system o) SystemFits (put_system o) s c d
          systems = gone_on (exact_counted (exact_system o) o) given formats.inside ed

          pub sections_read : {p q r t : Part} {m n : ℕ}
              → p ≡ part_to (at + 20) a → q ≡ part_to (a + 21) b → r ≡ part_to (b + 4) c → t ≡ part_to (c + 4) d → m ≡ word_at o 4 s b → n ≡ word_at o 4 s c
              → Sections o s at (accepted (record { header_page = p; header_event = q; formats = r; systems = t; format_count = m; system_count = n }, d))
          unfolding sections
          sections_read {p} {q} {r} {t} {m} {n} ep eq er et em en =
              let fa : a ≡ at + 20 + length page.value = piece-end o page_word s at a page in
              let fb : b ≡ a + 21 + length event.value = piece-end o event_word s a b event in
              let fc = counted-end o (sized o 8) (DataFits 8) (put_sized o 8) s b c formats in
              let fd = counted-end o (system o) SystemFits (put_system o) s c d systems in
              let ga : a + 21 ≡ at + 20 + length page.value + 21 = omega arith in
              let gb : b + 4 ≡ at + 20 + length page.value + 21 + length event.value + 4 = omega arith in
              let gc : c + 4 ≡ at + 20 + length page.value + 21 + length event.value + 4 + length (concat_map (put_sized o 8) formats.value) + 4 = omega arith in
              rw (
                page.reads,
                event.reads,
                formats.reads,
                systems.reads,
                place_of s d systems.inside,
                part-is (at + 20) a (length page.value) p ep fa,
                part-is (a + 21) b (length event.value) q eq fb,
                part-is (b + 4) c (length (concat_map (put_sized o 8) formats.value)) r er fc,
                part-is (c + 4) d (length (concat_map (put_system o) systems.value)) t et fd,
                count-is o (sized o 8) (DataFits 8) (put_sized o 8) s b c formats m em,
                count-is o (system o) SystemFits (put_system o) s c d systems n en,
                ga,
                gb,
                gc,
              )
