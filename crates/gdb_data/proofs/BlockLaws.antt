-- What a block's step answers in each case that the code tells apart.
-- Assumes nothing.
use mathlib.Core.Path.{◌≡◌, refl, sym, ap, ◌∙◌}
use mathlib.Core.Bool.{Bool, true, false, cond, ◌&&◌, and-false}
use mathlib.Core.Option.{Option, none, some}
use Prim.Native.Nat.{ℕ, ◌+◌, ◌-◌, ◌<◌, ◌≤◌}
use native.Mathlib.Nat.{lt_of_not-le}
use native.Mathlib.Decide.{dec_le}
use native.Mathlib.Omega.{arith}
use mathlib.Core.Logic.{by_cases}
use mathlib.Core.List.{List}
use lib.ListN.{length, drop, get_or}
use lib.Dec.{eqb}
use lib.Seq.{length-take-le}
use borrow.Author.Tests.{ne_eqb, eqb-true, eqb-false}
use Rattle.refusals.specs.Refusal.{bad_letter, block_past_data, no_register_size, second_registers}
use Rattle.fields.specs.Number.{word_at}
use Rattle.fields.specs.Signed.{signed64}
use Rattle.fields.specs.Answer.{Answer, accepted, refused, never, accepted_inj, next, next_inv}
use Rattle.fields.specs.Reader.{Reader, ◌>>=◌, give, refuse, bytes, step_at, seen_to, pass_at}
use Rattle.fields.specs.Takes.{bytes_inv}
use Rattle.fields.specs.At.{bytes-short, bytes-at, nums_short, nums_at}
use Rattle.fields.specs.At.{step_fault, step_read}
use Rattle.fields.specs.Got.{took, not_read, shown_of}
use Rattle.fields.specs.Given.{at_case}
use Rattle.gdb_format.specs.Trace.{Block, is_registers}
use Rattle.gdb_format.specs.Trace as trace
use Rattle.gdb_format.specs.Decode.{register_block, memory_block, variable_block, block_of, block_after, block}
use Rattle.gdb_format.specs.Opening.{size_meaning}
use Rattle.gdb_format.specs.ExactBlock.{takes_blockOf, letter_read}
use Rattle.gdb_format.specs.declared.Format.{Format}
use Rattle.gdb_data.specs.Blocks.{Carried, registers, memory, variable, carried_by, block_seen, kind_at, has_number, number_at, end_meaning, NoOther}
use Rattle.std.specs.Prelude.{Some, None, Result, Ok, Err}
use Rattle.std.specs.Prelude.{Option as Optional}
use Rattle.refusals.specs.Number.{number}
use Rattle.refusals.specs.declared.Refusal.{Refusal}

-- where something ends, as the code tells it
abbrev Ending : Type 0
Ending = Answer (Unit {0} × ℕ)

-- ---- where the content that starts at `at` ends

-- what is made of the bytes does not move the place
end_of : {A B : Type 0} (end : ℕ) (x : Answer (A × List ℕ)) (g : A → B)
    → seen_to (λ a. tt {0}) end x ≡ seen_to (λ a. tt {0}) end (next {B = B × List ℕ} x (λ r. accepted (g r.0, r.1)))
end_of end x g = sym (shown_of (λ b. tt) end x g)

-- what follows a memory block's two numbers, and a variable block's
abbrev memory_rest : ℕ → ℕ → Reader Block
memory_rest a n = do
  b ← bytes n block_past_data
  give (trace.memory a b)

abbrev variable_rest : ℕ → ℕ → Reader Block
variable_rest n v = give (trace.variable n (signed64 v))

module _ (d : List ℕ) (at : ℕ) (h : at ≤ length d) where
  abbrev Ends : {A : Type 0} → Reader A → Ending → Type 0
  Ends p x = x ≡ pass_at p d at

  -- n bytes behind k that are there, counted together
  bytes_with : (k n : ℕ) → k ≤ length d - at → {x : Ending} → Ends (bytes (k + n) block_past_data) x → x ≡ pass_at (bytes n block_past_data) d (at + k)
  bytes_with k n l e =
      let i : at + (k + n) ≡ at + k + n = omega arith in
      e ∙ by_cases (dec_le (k + n) (length d - at))
      (λ j. rw (bytes-at d at (k + n) block_past_data h j, bytes-at d (at + k) n block_past_data (omega arith) (omega arith), i))
      (λ j. rw (bytes-short d at (k + n) block_past_data (lt_of_not-le j), bytes-short d (at + k) n block_past_data (omega arith)))

  pub registers-none : {z : Optional ℕ} → z ≡ None → Ends (register_block (size_meaning z)) (refused no_register_size)
  unfolding register_block
  registers-none e = rw e

  pub registers-some : {z : Optional ℕ} {n : ℕ} {x : Ending} → z ≡ Some n → Ends (bytes n block_past_data) x → Ends (register_block (size_meaning z)) x
  unfolding register_block
  registers-some {n} e g = rw e (g ∙ end_of (length d) (bytes n block_past_data (drop at d)) trace.registers)

  module _ (f : Format) where
    memory_short : length d - at < 10 → memory_block f (drop at d) ≡ refused block_past_data
    unfolding memory_block
    memory_short = nums_short d at h f.order 8 2 block_past_data memory_rest

    memory_head : 10 ≤ length d - at → memory_block f (drop at d) ≡ memory_rest (word_at f.order 8 d at) (word_at f.order 2 d (at + 8)) (drop (at + 10) d)
    unfolding memory_block
    memory_head = nums_at d at h f.order 8 2 block_past_data memory_rest

    memory_none : length d - at < 10 → Ends (memory_block f) (refused block_past_data)
    memory_none l = rw (memory_short l)

    -- its bytes counted together with the two numbers
    memory_body : 10 ≤ length d - at → {n : ℕ} → n ≡ word_at f.order 2 d (at + 8) → {x : Ending}
        → Ends (bytes (10 + n) block_past_data) x → Ends (memory_block f) x
    memory_body l {n} g e =
        let a = word_at f.order 8 d at in
        let m : memory_block f (drop at d) ≡ memory_rest a n (drop (at + 10) d) = rw g (memory_head l) in
        rw m (bytes_with 10 n l e ∙ end_of (length d) (bytes n block_past_data (drop (at + 10) d)) (trace.memory a))

    variable_short : length d - at < 12 → variable_block f (drop at d) ≡ refused block_past_data
    unfolding variable_block
    variable_short = nums_short d at h f.order 4 8 block_past_data variable_rest

    variable_at_lem : 12 ≤ length d - at
        → variable_block f (drop at d) ≡ variable_rest (word_at f.order 4 d at) (word_at f.order 8 d (at + 4)) (drop (at + 12) d)
    unfolding variable_block
    variable_at_lem = nums_at d at h f.order 4 8 block_past_data variable_rest

    variable_bytes : {x : Ending} → Ends (bytes 12 block_past_data) x → Ends (variable_block f) x
    variable_bytes e =
        e ∙ by_cases (dec_le 12 (length d - at)) (λ k. rw (bytes-at d at 12 block_past_data h k, variable_at_lem k))
        (λ k. rw (bytes-short d at 12 block_past_data (lt_of_not-le k), variable_short (lt_of_not-le k)))

    -- ---- what the content carries

    memory_carries : (b : Block) (rest : List ℕ) → memory_block f (drop at d) ≡ accepted (b, rest)
        → carried_by b ≡ memory (word_at f.order 8 d at) (word_at f.order 2 d (at + 8))
    memory_carries b rest e = by_cases (dec_le 10 (length d - at)) long (λ k. never (sym (memory_short (lt_of_not-le k)) ∙ e))
      where
        long : 10 ≤ length d - at → carried_by b ≡ memory (word_at f.order 8 d at) (word_at f.order 2 d (at + 8))
        long k =
            let a : ℕ = word_at f.order 8 d at in
            let n : ℕ = word_at f.order 2 d (at + 8) in
            let q = next_inv (bytes n block_past_data (drop (at + 10) d)) (λ r. accepted (trace.memory a r.0, r.1)) (sym (memory_head k) ∙ e) in
            let i = bytes_inv n block_past_data (drop (at + 10) d) q.0.0 q.0.1 q.1 in
            let l : length q.0.0 ≡ n = ap length (sym i.1) ∙ length-take-le n (drop (at + 10) d) i.0 in
            ap carried_by (sym (accepted_inj q.2).0) ∙ ap (memory a) l

    variable_carries : (b : Block) (rest : List ℕ) → variable_block f (drop at d) ≡ accepted (b, rest)
        → carried_by b ≡ variable (word_at f.order 4 d at) (signed64 (word_at f.order 8 d (at + 4)))
    variable_carries b rest e =
        by_cases (dec_le 12 (length d - at)) (λ k. ap carried_by (sym (accepted_inj (sym (variable_at_lem k) ∙ e)).0))
        (λ k. never (sym (variable_short (lt_of_not-le k)) ∙ e))

registers_carry : (size : Option ℕ) (s : List ℕ) (b : Block) (rest : List ℕ) → register_block size s ≡ accepted (b, rest) → carried_by b ≡ registers
unfolding register_block
registers_carry none s b rest e = never e
registers_carry (some n) s b rest e =
    let q = next_inv (bytes n block_past_data s) (λ r. accepted (trace.registers r.0, r.1)) e in
    ap carried_by (sym (accepted_inj q.2).0)

-- ---- a block by its letter

-- the letter of a block stands at `at`
pub record LetterAt (f : Format) (d : List ℕ) (at : ℕ) : Type 0 where
  pub inside : at < length d

module _ {f : Format} {d : List ℕ} {at : ℕ} (h : LetterAt f d at) where
  pub memory_cut : length d - at < 11 → refused block_past_data ≡ pass_at (memory_block f) d (at + 1)
  memory_cut l = memory_none d (at + 1) (omega (arith, h.inside)) f (omega (arith, l))

  pub memory_long : 11 ≤ length d - at → {n : ℕ} → n ≡ word_at f.order 2 d (at + 9) → {x : Ending}
      → x ≡ pass_at (bytes (10 + n) block_past_data) d (at + 1) → x ≡ pass_at (memory_block f) d (at + 1)
  memory_long l {n} g e =
      let i : at + 1 + 8 ≡ at + 9 = omega arith in
      memory_body d (at + 1) (omega (arith, h.inside)) f (omega (arith, l)) {n = n} (rw i g) e

  abbrev Reads : Option ℕ → Bool → Ending → Type 0
  Reads size seen x = x ≡ pass_at (block_after f size seen) d at

  pub is_memory : {x : Ending} → get_or d at 0 ≡ 77 → x ≡ pass_at (memory_block f) d (at + 1) → (size : Option ℕ) (seen : Bool) → Reads size seen x
  unfolding block_of
  is_memory e g size seen = rw (letter_read f size seen d at h.inside, e, and-false seen) g

  pub is_variable_lem : {x : Ending} → get_or d at 0 ≡ 86 → x ≡ pass_at (bytes 12 block_past_data) d (at + 1) → (size : Option ℕ) (seen : Bool) → Reads size seen x
  unfolding block_of
  is_variable_lem e g size seen = rw (letter_read f size seen d at h.inside, e, and-false seen) (variable_bytes d (at + 1) (omega (arith, h.inside)) f g)

  module _ (size : Option ℕ) (seen : Bool) where
    pub is_none : (get_or d at 0 ≡ 82 → ⊥) → NoOther d at → Reads size seen (refused bad_letter)
    unfolding block_of
    is_none r o =
        let letter = get_or d at 0 in
        rw (letter_read f size seen d at h.inside, ne_eqb letter 82 r, ne_eqb letter 77 o.0, ne_eqb letter 86 o.1, and-false seen)

    pub is-second : get_or d at 0 ≡ 82 → seen ≡ true → Reads size seen (refused second_registers)
    is-second e s = rw (letter_read f size seen d at h.inside, e, s)

    pub is-first : {x : Ending} → get_or d at 0 ≡ 82 → seen ≡ false → x ≡ pass_at (register_block size) d (at + 1) → Reads size seen x
    unfolding block_of
    is-first e s g = rw (letter_read f size seen d at h.inside, e, s) g

-- ---- what a block carries says whether it is one of variable n

abbrev carries_number : ℕ → Carried → Bool
carries_number n registers = false
carries_number n (memory a k) = false
carries_number n (variable m v) = eqb m n

number_carried : (n : ℕ) (b : Block) → has_number n b ≡ carries_number n (carried_by b)
number_carried n (trace.registers b) = refl
number_carried n (trace.memory a b) = refl
number_carried n (trace.variable m v) = refl

-- and whether it is a register block

abbrev carries_registers : Carried → Bool
carries_registers registers = true
carries_registers (memory a k) = false
carries_registers (variable m v) = false

registers_carried : (b : Block) → is_registers b ≡ carries_registers (carried_by b)
registers_carried (trace.registers b) = refl
registers_carried (trace.memory a b) = refl
registers_carried (trace.variable m v) = refl

-- ---- a block that was judged

-- r tells where the block at `at` ends
pub record Ended (f : Format) (size : Option ℕ) (seen : Bool) (d : List ℕ) (at : ℕ) (r : Result ℕ Refusal) : Type 0 where
  pub inside : at < length d
  pub answers : end_meaning r ≡ pass_at (block_after f size seen) d at

-- a block by itself, as `block_end` judges it
pub judged : {f : Format} {size : Option ℕ} {d : List ℕ} {at : ℕ} {r : Result ℕ Refusal} → at < length d → end_meaning r ≡ pass_at (block f size) d at
    → Ended f size false d at r
unfolding block
judged h e = record { inside = h; answers = e }

-- the block that ends at m
pub record BlockRead (f : Format) (size : Option ℕ) (seen : Bool) (d : List ℕ) (at m : ℕ) : Type 0 where
  pub value : Block
  pub reads : block_after f size seen (drop at d) ≡ accepted (value, drop m d)
  pub later : at < m
  pub within : m ≤ length d
  pub carried : carried_by value ≡ kind_at f d at

module _ {f : Format} {size : Option ℕ} {seen : Bool} {d : List ℕ} {at : ℕ} {r : Result ℕ Refusal} (h : Ended f size seen d at r) where
  -- the block that stands there carries what its letter says
  carries : (b : Block) (rest : List ℕ) → block_of f size (get_or d at 0) (drop (at + 1) d) ≡ accepted (b, rest) → carried_by b ≡ kind_at f d at
  unfolding block_of
  carries b rest e = by (eqb (get_or d at 0) 0x52) (eqb (get_or d at 0) 0x4D) (eqb (get_or d at 0) 0x56) e
    where
      i : at + 1 + 8 ≡ at + 9
      i = omega arith

      j : at + 1 + 4 ≡ at + 5
      j = omega arith

      k : at + 1 ≤ length d
      k = omega (arith, h.inside)

      by : (p q r : Bool)
          → cond p (register_block size) (cond q (memory_block f) (cond r (variable_block f) (refuse bad_letter))) (drop (at + 1) d) ≡ accepted (b, rest)
          → carried_by b ≡ cond p registers
          (cond q (memory (word_at f.order 8 d (at + 1)) (word_at f.order 2 d (at + 9)))
          (variable (word_at f.order 4 d (at + 1)) (signed64 (word_at f.order 8 d (at + 5)))))
      by true q r e = registers_carry size (drop (at + 1) d) b rest e
      by false true r e = rw (← i) (memory_carries d (at + 1) k f b rest e)
      by false false true e = rw (← j) (variable_carries d (at + 1) k f b rest e)
      by false false false e = never e

  pub block_refused : {n : Refusal} → r ≡ Err n → block_after f size seen (drop at d) ≡ refused (number n)
  block_refused {n} e = not_read (λ i a. tt {0}) (block_after f size seen) d at (number n) (at_case end_meaning e h.answers)

  pub block_read : {m : ℕ} → r ≡ Ok m → BlockRead f size seen d at m
  block_read {m} e = by (seen && eqb (get_or d at 0) 0x52) (letter_read f size seen d at h.inside) (at_case end_meaning e h.answers)
    where
      by : (second : Bool) → block_after f size seen (drop at d) ≡ cond second (refuse second_registers) (block_of f size (get_or d at 0)) (drop (at + 1) d)
          → accepted (tt, m) ≡ pass_at (block_after f size seen) d at → BlockRead f size seen d at m
      by true q e = let z : ◌≡◌ {A = Ending} (accepted (tt, m)) (refused second_registers) = e ∙ rw q in never (sym z)
      by false q e =
          let t = took (block_of f size (get_or d at 0)) d (at + 1) (takes_blockOf f size (get_or d at 0)) (omega (arith, h.inside)) m (rw (← q) e) in
          record {
            value = t.value;
            reads = q ∙ t.reads;
            later = omega (arith, t.behind);
            within = t.inside;
            carried = carries t.value (drop m d) t.reads;
          }

  -- of the letters that are neither `M` nor `V` only `R` begins a block
  pub registers-read : NoOther d at → {m : ℕ} → r ≡ Ok m → get_or d at 0 ≡ 82
  registers-read o {m} e = by (eqb (get_or d at 0) 82) refl
    where
      letter : LetterAt f d at
      letter = record { inside = h.inside }

      by : (t : Bool) → eqb (get_or d at 0) 82 ≡ t → get_or d at 0 ≡ 82
      by true i = eqb-true (get_or d at 0) 82 i
      by false i = never (is_none letter size seen (eqb-false (get_or d at 0) 82 i) o ∙ sym (at_case end_meaning e h.answers))

  -- a block that is read is one of variable n exactly where its letter and number say so
  pub number_read : (n : ℕ) {m : ℕ} (e : r ≡ Ok m) → has_number n (block_read e).value ≡ number_at f d at n
  number_read n {m} e =
      let b = block_read e in
      number_carried n b.value ∙ ap (carries_number n) b.carried
      ∙ by (eqb (get_or d at 0) 0x52) (eqb (get_or d at 0) 0x4D) (eqb (get_or d at 0) 0x56) refl refl refl
    where
      by : (p q t : Bool) → eqb (get_or d at 0) 0x52 ≡ p → eqb (get_or d at 0) 0x4D ≡ q → eqb (get_or d at 0) 0x56 ≡ t
          → carries_number n (cond p registers
          (cond q (memory (word_at f.order 8 d (at + 1)) (word_at f.order 2 d (at + 9)))
          (variable (word_at f.order 4 d (at + 1)) (signed64 (word_at f.order 8 d (at + 5))))))
          ≡ t && eqb (word_at f.order 4 d (at + 1)) n
      by true q true i j k = absurd (omega (arith, eqb-true (get_or d at 0) 82 i, eqb-true (get_or d at 0) 86 k))
      by false true true i j k = absurd (omega (arith, eqb-true (get_or d at 0) 77 j, eqb-true (get_or d at 0) 86 k))
      by false false true i j k = refl
      by true q false i j k = refl
      by false true false i j k = refl
      by false false false i j k = absurd (eqb-false (get_or d at 0) 82 i (registers-read (eqb-false (get_or d at 0) 77 j, eqb-false (get_or d at 0) 86 k) e))

  -- it is a register block exactly where its letter is `R`
  registers_letter : {m : ℕ} (e : r ≡ Ok m) → is_registers (block_read e).value ≡ eqb (get_or d at 0) 0x52
  registers_letter e =
      let b = block_read e in
      registers_carried b.value ∙ ap carries_registers b.carried ∙ by (eqb (get_or d at 0) 0x52) (eqb (get_or d at 0) 0x4D)
    where
      by : (p q : Bool)
          → carries_registers (cond p registers
          (cond q (memory (word_at f.order 8 d (at + 1)) (word_at f.order 2 d (at + 9)))
          (variable (word_at f.order 4 d (at + 1)) (signed64 (word_at f.order 8 d (at + 5)))))) ≡ p
      by true q = refl
      by false true = refl
      by false false = refl

-- ---- what a step shows

module _ {f : Format} {size : Option ℕ} {d : List ℕ} {at : ℕ} {r : Result ℕ Refusal} (h : Ended f size false d at r) where
  pub shown_refused : {C : Type 0} (view : ℕ → Block → C) {n : Refusal} → r ≡ Err n → refused (number n) ≡ step_at view (block f size) d at
  unfolding block
  shown_refused view {n} e = sym (step_fault view (block f size) d at (number n) h.inside (block_refused h e))

  shown_as : {C : Type 0} (view : ℕ → Block → C) {m : ℕ} (e : r ≡ Ok m) {v : C} → v ≡ view at (block_read h e).value
      → accepted (some (v, m)) ≡ step_at view (block f size) d at
  unfolding block
  shown_as view {m} e g =
      let b = block_read h e in
      ap (λ v. accepted (some (v, m))) g ∙ sym (step_read view (block f size) d at b.value m h.inside b.within b.reads)

  pub shown_block_lem : {m : ℕ} → r ≡ Ok m → {k : Carried} → k ≡ kind_at f d at
      → accepted (some ((at, k), m)) ≡ step_at block_seen (block f size) d at
  shown_block_lem e g = shown_as block_seen e (ap (λ k. (at, k)) (g ∙ sym (block_read h e).carried))

  pub shown_number : (n : ℕ) {m : ℕ} → r ≡ Ok m → {t : Bool} → t ≡ number_at f d at n
      → accepted (some (t, m)) ≡ step_at (λ i b. has_number n b) (block f size) d at
  shown_number n e g = shown_as (λ i b. has_number n b) e (g ∙ sym (number_read h n e))

  pub shown_registers : {m : ℕ} → r ≡ Ok m → {t : Bool} → t ≡ eqb (get_or d at 0) 0x52
      → accepted (some (t, m)) ≡ step_at (λ i b. is_registers b) (block f size) d at
  shown_registers e g = shown_as (λ i b. is_registers b) e (g ∙ sym (registers_letter h e))
