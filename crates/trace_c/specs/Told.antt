-- `refusal` tells a refusal from an answer: where it is 0, there is an answer (and where there is one it is 0, by Flat.antt of gdb_flat and dat_flat).
-- Assumes nothing.
use Rattle.std.specs.Prelude.{◌≡◌, ℕ, List}
use Rattle.std.proofs.Math.Path.{refl}
use Rattle.std.proofs.Common.{sym, ◌∙◌, subst}
use Rattle.fields.specs.Lists.{Each}
use Rattle.fields.specs.Answer.{Answer, accepted, refused}
use Rattle.fields.specs.Output.{answer}
use Rattle.fields.specs.Refuses.{Refuses, OneOf, Listed, refuses_in}
use Rattle.gdb_format.specs.Numbers.{file_numbers}
use Rattle.gdb_format.specs.declared.Settings.{Settings}
use Rattle.gdb_frames.specs.Questions.{asked, frame_count, end_mark, line_at}
use Rattle.gdb_frames.specs.Numbers.{question_numbers, frame-count-numbers, end-mark-numbers, line-place-numbers}
use Rattle.gdb_blocks.specs.Search.{block_at, registers_at, memory_at, variable_at}
use Rattle.gdb_blocks.proofs.Numbers.{block_record_numbers, registers-place-numbers, memory_place-numbers, variable_numbers}
use Rattle.gdb_seek.specs.Found.{frame_found}
use Rattle.gdb_seek.specs.Numbers.{frame-place-numbers}
use Rattle.gdb_table.specs.Records.{frame_table}
use Rattle.gdb_table.specs.declared.FrameRecord.{FrameRecord}
use Rattle.gdb_table.specs.Numbers.{table_numbers, table-numbers}
use Rattle.gdb_cut.specs.Cut.{cut_of}
use Rattle.gdb_join.specs.Join.{join_of}
use Rattle.gdb_cut.specs.Numbers.{cut_numbers, cut-numbers}
use Rattle.gdb_join.specs.Numbers.{join_numbers, join-numbers}
use Rattle.gdb_select.specs.declared.Selection as edit
use Rattle.gdb_pair.specs.Pair.{pair_place, pair_variable}
use Rattle.gdb_pair.specs.Numbers.{pair_numbers, pair-place-numbers, pair_variable-numbers}
use Rattle.dat_format.specs.Numbers.{dat_numbers}
use Rattle.tracedat.specs.Questions.{summed, cpu_range}
use Rattle.tracedat.specs.Numbers.{range_numbers, summary-numbers, cpu-range-numbers}
use Rattle.gdb_flat.specs.Flat.{flat_count, flat_mark, flat_place, flat_frame, flat_line, flat_block, flat_value, flat_length, flat_pair}
use Rattle.dat_flat.specs.Flat.{flat_summary, flat_range}

-- a call with the answer x, which `flat` makes a struct
abbrev pub Told : {A B : Type 0} → (Answer A → B) → (B → ℕ) → Answer A → Type 0
Told {A} flat refusal x = refusal (flat x) ≡ 0 → (a : A) × (x ≡ accepted a)

-- where it refuses with numbers of the table only, of which 0 is none
module _ {A B : Type 0} (flat : Answer A → B) (refusal : B → ℕ) (same : (k : ℕ) → refusal (flat (refused k)) ≡ k) where
  told : (ns : List ℕ) → Each Listed ns → {x : Answer A} → Refuses (OneOf ns) x → Told flat refusal x
  told ns h {x = accepted a} r z = (a, refl)
  told ns h {x = refused k} r z =
      let listed : Refuses {A = A} Listed (refused k) = refuses_in ns h r in
      let none : Listed 0 = subst Listed (sym (same k) ∙ z) (listed.only k refl) in
      absurd none

-- ---- questions about a GDB trace

module _ (s : Settings) (b : List ℕ) where
  pub frame-count-told : Told flat_count (λ r. r.refusal) (asked s b frame_count)
  unfolding flat_count
  frame-count-told = told flat_count (λ r. r.refusal) (λ k. refl) file_numbers _ (frame-count-numbers s b)

  pub end-mark-told : Told flat_mark (λ r. r.refusal) (asked s b end_mark)
  unfolding flat_mark
  end-mark-told = told flat_mark (λ r. r.refusal) (λ k. refl) file_numbers _ (end-mark-numbers s b)

  pub frame-table-told : (out : List FrameRecord) → Told flat_count (λ r. r.refusal) (answer (asked s b frame_table) out)
  unfolding flat_count
  frame-table-told out = told flat_count (λ r. r.refusal) (λ k. refl) table_numbers _ (table-numbers s b out)

  pub line-place-told : (j : ℕ) → Told flat_line (λ r. r.refusal) (asked s b (line_at j))
  unfolding flat_line
  line-place-told j = told flat_line (λ r. r.refusal) (λ k. refl) question_numbers _ (line-place-numbers s b j)

  pub frame-place-told : (n : ℕ) → Told flat_frame (λ r. r.refusal) (frame_found s b n)
  unfolding flat_frame
  frame-place-told n = told flat_frame (λ r. r.refusal) (λ k. refl) question_numbers _ (frame-place-numbers s b n)

  -- and its refusal carries no place, no length and no count
  pub frame-place-bare : (k : ℕ) → flat_frame (refused k) ≡ record { refusal = k; place = 0; length = 0; heads = 0 }
  unfolding flat_frame
  frame-place-bare k = refl

  pub block_record_told : (n k : ℕ) → Told flat_block (λ r. r.refusal) (asked s b (block_at n k))
  unfolding flat_block
  block_record_told n k = told flat_block (λ r. r.refusal) (λ k. refl) question_numbers _ (block_record_numbers s b n k)

  pub registers-place-told : (n : ℕ) → Told flat_place (λ r. r.refusal) (asked s b (registers_at n))
  unfolding flat_place
  registers-place-told n = told flat_place (λ r. r.refusal) (λ k. refl) question_numbers _ (registers-place-numbers s b n)

  pub memory_place-told : (n a : ℕ) → Told flat_place (λ r. r.refusal) (asked s b (memory_at n a))
  unfolding flat_place
  memory_place-told n a = told flat_place (λ r. r.refusal) (λ k. refl) question_numbers _ (memory_place-numbers s b n a)

  pub variable_told : (n v : ℕ) → Told flat_value (λ r. r.refusal) (asked s b (variable_at n v))
  unfolding flat_value
  variable_told n v = told flat_value (λ r. r.refusal) (λ k. refl) question_numbers _ (variable_numbers s b n v)

-- ---- cut, join and pairs

pub cut-told : (s : Settings) (sel : edit.Selection) (b out : List ℕ) → Told flat_length (λ r. r.refusal) (answer (cut_of s sel b) out)
unfolding flat_length
cut-told s sel b out = told flat_length (λ r. r.refusal) (λ k. refl) cut_numbers _ (cut-numbers s sel b out)

module _ (s : Settings) (a b : List ℕ) where
  pub join-told : (out : List ℕ) → Told flat_length (λ r. r.refusal) (answer (join_of s a b) out)
  unfolding flat_length
  join-told out = told flat_length (λ r. r.refusal) (λ k. refl) join_numbers _ (join-numbers s a b out)

  pub pair-place-told : (n : ℕ) → Told flat_pair (λ r. r.refusal) (pair_place s a b n)
  unfolding flat_pair
  pair-place-told n = told flat_pair (λ r. r.refusal) (λ k. refl) pair_numbers _ (pair-place-numbers s a b n)

  pub pair_variable-told : (n v : ℕ) → Told flat_value (λ r. r.refusal) (pair_variable s a b n v)
  unfolding flat_value
  pair_variable-told n v = told flat_value (λ r. r.refusal) (λ k. refl) pair_numbers _ (pair_variable-numbers s a b n v)

-- ---- trace.dat

pub dat_read-told : (b : List ℕ) → Told flat_summary (λ r. r.refusal) (summed b)
unfolding flat_summary
dat_read-told b = told flat_summary (λ r. r.refusal) (λ k. refl) dat_numbers _ (summary-numbers b)

pub dat_cpu-range-told : (i : ℕ) (b : List ℕ) → Told flat_range (λ r. r.refusal) (cpu_range i b)
unfolding flat_range
dat_cpu-range-told i b = told flat_range (λ r. r.refusal) (λ k. refl) range_numbers _ (cpu-range-numbers i b)
