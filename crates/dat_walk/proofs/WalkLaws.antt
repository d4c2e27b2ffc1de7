-- What the walk answers in each case that the code tells apart: each part's answer is the whole's.
-- Assumes nothing.
use Rattle.std.specs.Prelude.{◌≡◌, ℕ, ◌+◌, List, length, drop}
use Rattle.std.proofs.Common.{sym, ap, ◌∙◌, subst, arith, length-append, length-drop}
use Rattle.fields.specs.Number.{Bytes}
use Rattle.fields.specs.Answer.{Answer, accepted, refused}
use Rattle.fields.specs.Reader.{seen_at}
use Rattle.fields.specs.Got.{Got, not_read, got, seen}
use Rattle.fields.specs.declared.Order.{Order}
use Rattle.dat_format.specs.Header.{Header, put_opening, put_sections, put_texts, put_tail, encode}
use Rattle.dat_format.specs.Layout.{OpeningFits, SectionsFit, TextsFit, TailFits}
use Rattle.dat_format.specs.Decode.{opening, sections, texts, tail, header}
use Rattle.dat_format.specs.ExactSections.{exact_opening, exact_sections, exact_texts}
use Rattle.dat_format.specs.ExactTail.{exact_tail}
use Rattle.dat_format.specs.Exactness.{exact_header}
use Rattle.dat_read.specs.Summary.{flags_seen, section_parts, text_parts, body_of, tail_parts, summary, summary_seen}
use Rattle.dat_read.specs.declared.summary.Part.{Part}
use Rattle.dat_read.specs.declared.summary.Flags.{Flags}
use Rattle.dat_read.specs.declared.summary.SectionParts.{SectionParts}
use Rattle.dat_read.specs.declared.summary.TextParts.{TextParts}
use Rattle.dat_read.specs.declared.summary.Summary.{Summary}
use Rattle.dat_read.specs.declared.summary.TailParts.{TailParts}

-- what is shown of a header, from what is shown of its parts
module _ (len : ℕ) (h : Header) (f : Flags) (ps : SectionParts) (ts : TextParts) (tp : TailParts) (body : Part) (a b c end : ℕ) where
  abbrev ordered : Order
  ordered = h.opening.order

  summary-is : length (put_opening h.opening) ≡ a → a + length (put_sections ordered h.sections) ≡ b → b + length (put_texts ordered h.texts) ≡ c
      → length (encode h) ≡ end → flags_seen 0 h.opening ≡ f → section_parts ordered a h.sections ≡ ps → text_parts b h.texts ≡ ts
      → tail_parts ordered c h.tail ≡ tp → body ≡ body_of tp.ending tp.place end len
      → record { flags = f; sections = ps; texts = ts; options = tp.options; ending = tp.ending; body = body } ≡ summary len h
  unfolding summary
  summary-is ea eb ec en ef es et el e = rw (e, ← el, ea, eb, ec, en, ef, es, et)

-- ---- the walk: the first stretch that is refused refuses the header

module _ (s : List ℕ) (given : Bytes s) where
  abbrev Walks : Answer (Summary × ℕ) → Type 0
  Walks x = x ≡ seen_at (summary_seen (length s)) header s 0

  pub bad_opening : {n : ℕ} → refused n ≡ seen_at flags_seen opening s 0 → Walks (refused n)
  unfolding header
  bad_opening {n} e = rw (not_read flags_seen opening s 0 n e)

  module _ {f : Flags} {a : ℕ} (eo : accepted (f, a) ≡ seen_at flags_seen opening s 0) where
    opened : (g : Got opening OpeningFits put_opening s 0 a) × (flags_seen 0 g.value ≡ f)
    opened = got exact_opening s given 0 (omega arith) flags_seen f a eo

    abbrev o : Order
    o = opened.0.value.order

    -- the flags' order is the one that was read
    order_is : f.order ≡ o
    order_is = ap (λ f. f.order) (sym opened.1)

    abbrev SeenSections : Order → Answer (SectionParts × ℕ) → Type 0
    SeenSections o x = x ≡ seen_at (section_parts o) (sections o) s a

    by_order : {x : Answer (SectionParts × ℕ)} → SeenSections f.order x → SeenSections o x
    by_order {x} = subst (λ o. SeenSections o x) order_is

    pub bad_sections : {n : ℕ} → refused n ≡ seen_at (section_parts f.order) (sections f.order) s a → Walks (refused n)
    unfolding header
    bad_sections {n} e = rw (opened.0.reads, not_read (section_parts o) (sections o) s a n (by_order e))

    module _ {ps : SectionParts} {b : ℕ} (es : accepted (ps, b) ≡ seen_at (section_parts f.order) (sections f.order) s a) where
      sectioned : (g : Got (sections o) SectionsFit (put_sections o) s a b) × (section_parts o a g.value ≡ ps)
      sectioned = got (exact_sections o) s given a opened.0.inside (section_parts o) ps b (by_order es)

      abbrev SeenTexts : Order → Answer (TextParts × ℕ) → Type 0
      SeenTexts o x = x ≡ seen_at text_parts (texts o) s b

      texts_by_order : {x : Answer (TextParts × ℕ)} → SeenTexts f.order x → SeenTexts o x
      texts_by_order {x} = subst (λ o. SeenTexts o x) order_is

      pub bad_texts : {n : ℕ} → refused n ≡ seen_at text_parts (texts f.order) s b → Walks (refused n)
      unfolding header
      bad_texts {n} e = rw (opened.0.reads, sectioned.0.reads, not_read text_parts (texts o) s b n (texts_by_order e))

      module _ {ts : TextParts} {c : ℕ} (et : accepted (ts, c) ≡ seen_at text_parts (texts f.order) s b) where
        texted : (g : Got (texts o) TextsFit (put_texts o) s b c) × (text_parts b g.value ≡ ts)
        texted = got (exact_texts o) s given b sectioned.0.inside text_parts ts c (texts_by_order et)

        abbrev n : ℕ
        n = texted.0.value.cpus

        -- the count that is shown is the one that was read
        cpus_are : ts.cpus ≡ n
        cpus_are = ap (λ t. t.cpus) (sym texted.1)

        abbrev SeenTail : Order → ℕ → Answer (TailParts × ℕ) → Type 0
        SeenTail o n x = x ≡ seen_at (tail_parts o) (tail o n) s c

        tail_by_both : {x : Answer (TailParts × ℕ)} → SeenTail f.order ts.cpus x → SeenTail o n x
        tail_by_both {x} e = subst (λ n. SeenTail o n x) cpus_are (subst (λ o. SeenTail o ts.cpus x) order_is e)

        pub bad_tail : {k : ℕ} → refused k ≡ seen_at (tail_parts f.order) (tail f.order ts.cpus) s c → Walks (refused k)
        unfolding header
        bad_tail {k} e = rw (opened.0.reads, sectioned.0.reads, texted.0.reads, not_read (tail_parts o) (tail o n) s c k (tail_by_both e))

        module _ {tp : TailParts} {end : ℕ} (el : accepted (tp, end) ≡ seen_at (tail_parts f.order) (tail f.order ts.cpus) s c) where
          tailed : (g : Got (tail o n) (TailFits n) (put_tail o) s c end) × (tail_parts o c g.value ≡ tp)
          tailed = got (exact_tail o n) s given c texted.0.inside (tail_parts o) tp end (tail_by_both el)

          abbrev whole : Header
          whole = record { opening = opened.0.value; sections = sectioned.0.value; texts = texted.0.value; tail = tailed.0.value }

          header_is : header s ≡ accepted (whole, drop end s)
          unfolding header
          header_is = rw (opened.0.reads, sectioned.0.reads, texted.0.reads, tailed.0.reads)

          end_is : length (encode whole) ≡ end
          end_is =
              let laid = (exact_header.forth s whole (drop end s) given header_is).1 in
              omega (arith, tailed.0.inside, length-drop end s, length-append (encode whole) (drop end s), ap length laid)

          pub all_read : {body : Part} → body ≡ body_of tp.ending tp.place end (length s)
              → Walks (accepted (record { flags = f; sections = ps; texts = ts; options = tp.options; ending = tp.ending; body = body }, end))
          all_read {body} e =
              let ea : length (put_opening whole.opening) ≡ a = omega (arith, opened.0.place) in
              let same =
              summary-is (length s) whole f ps ts tp body a b c end ea (sym sectioned.0.place) (sym texted.0.place) end_is opened.1 sectioned.1
              texted.1 tailed.1 e in
              ap (λ v. accepted (v, end)) same ∙ seen (summary_seen (length s)) header s 0 whole end tailed.0.inside header_is
