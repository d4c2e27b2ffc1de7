-- What the steps of the texts answer in each case that the code tells apart.
-- Assumes nothing.
use Rattle.std.specs.Prelude.{◌≡◌, refl, ℕ, ◌+◌, ◌<◌, ◌≤◌, List, length, drop}
use Rattle.std.proofs.Common.{arith, le-leb}
use Rattle.std.proofs.lemmas.Bool.{lt-leb}
use Rattle.refusals.specs.Refusal.{field_past_file, bad_range}
use Rattle.fields.specs.Number.{Bytes, word_at}
use Rattle.fields.specs.Answer.{Answer, accepted, refused}
use Rattle.fields.specs.Reader.{bytes, num, seen_at, pass_at}
use Rattle.fields.specs.At.{place_of}
use Rattle.fields.specs.declared.Order.{Order}
use Rattle.dat_format.specs.Pieces.{sized}
use Rattle.dat_format.specs.Layout.{most_cpus}
use Rattle.dat_format.specs.Decode.{texts}
use Rattle.dat_format.specs.ExactPieces.{exact_sized}
use Rattle.dat_read.specs.Summary.{part_to, text_parts}
use Rattle.dat_read.specs.Read.{stopped, gone_on, read_inside, bytes_there, number_read, Sized, sized-end, part-is}
use Rattle.dat_read.specs.declared.summary.Part.{Part}
use Rattle.dat_read.specs.declared.summary.TextParts.{TextParts}

-- one stretch after another: the first that is refused refuses the texts
module _ (o : Order) (s : List ℕ) (given : Bytes s) (at : ℕ) where
  abbrev Texts : Answer (TextParts × ℕ) → Type 0
  Texts x = x ≡ seen_at text_parts (texts o) s at

  pub bad_kallsyms : {n : ℕ} → refused n ≡ pass_at (sized o 4) s at → Texts (refused n)
  unfolding texts
  bad_kallsyms e = rw (stopped (sized o 4) s at e)

  module _ {a : ℕ} (ea : accepted (tt, a) ≡ pass_at (sized o 4) s at) where
    kallsyms : Sized o 4 s at a
    kallsyms = gone_on (exact_sized o 4) given (read_inside (sized o 4) s at refl ea) ea

    pub bad_printk : {n : ℕ} → refused n ≡ pass_at (sized o 4) s a → Texts (refused n)
    unfolding texts
    bad_printk e = rw (kallsyms.reads, stopped (sized o 4) s a e)

    module _ {b : ℕ} (eb : accepted (tt, b) ≡ pass_at (sized o 4) s a) where
      printk : Sized o 4 s a b
      printk = gone_on (exact_sized o 4) given kallsyms.inside eb

      pub bad_processes : {n : ℕ} → refused n ≡ pass_at (sized o 8) s b → Texts (refused n)
      unfolding texts
      bad_processes e = rw (kallsyms.reads, printk.reads, stopped (sized o 8) s b e)

      module _ {c : ℕ} (ec : accepted (tt, c) ≡ pass_at (sized o 8) s b) where
        processes : Sized o 8 s b c
        processes = gone_on (exact_sized o 8) given printk.inside ec

        pub no_count : {n : ℕ} → refused n ≡ pass_at (bytes 4 field_past_file) s c → Texts (refused n)
        unfolding texts
        no_count e = rw (kallsyms.reads, printk.reads, processes.reads, stopped (bytes 4 field_past_file) s c e)

        module _ {d : ℕ} (ed : accepted (tt, d) ≡ pass_at (bytes 4 field_past_file) s c) {n : ℕ} (e : n ≡ word_at o 4 s c) where
          count_read : num o 4 field_past_file (drop c s) ≡ accepted (n, drop d s)
          count_read = number_read o 4 field_past_file s c (omega arith) ed e

          pub many_cpus : most_cpus < n → Texts (refused bad_range)
          unfolding texts
          many_cpus k = rw (kallsyms.reads, printk.reads, processes.reads, count_read, lt-leb n most_cpus k)

          pub texts_read : n ≤ most_cpus → {p q r : Part} → p ≡ part_to (at + 4) a → q ≡ part_to (a + 4) b → r ≡ part_to (b + 8) c
              → Texts (accepted (record { kallsyms = p; printk = q; processes = r; cpus = n }, d))
          unfolding texts
          texts_read k {p} {q} {r} ep eq er =
              let fa = sized-end o 4 s at a kallsyms in
              let fb = sized-end o 4 s a b printk in
              let fc = sized-end o 8 s b c processes in
              let fd = bytes_there 4 field_past_file s c ed (omega arith) in
              let ga : a + 4 ≡ at + 4 + length kallsyms.value + 4 = omega arith in
              let gb : b + 8 ≡ at + 4 + length kallsyms.value + 4 + length printk.value + 8 = omega arith in
              rw (
                kallsyms.reads,
                printk.reads,
                processes.reads,
                count_read,
                le-leb n most_cpus k,
                place_of s d (omega (arith, fd.0, fd.1)),
                part-is (at + 4) a (length kallsyms.value) p ep fa,
                part-is (a + 4) b (length printk.value) q eq fb,
                part-is (b + 8) c (length processes.value) r er fc,
                ga,
                gb,
              )
