-- A block is read exactly when it is laid out so, kind by kind.
-- Assumes nothing.
use Rattle.std.specs.Prelude.{◌≡◌, refl, Bool, true, false, cond, ◌&&◌, ℕ, ◌+◌, ◌<◌, List, [], ◌++◌, length, drop, get_or, ℤ, pos, eqb}
use Rattle.std.proofs.Common.{sym, ap, subst, arith, append-nil, eqb-true}
use Rattle.std.proofs.Math.Option.{Option, none, some, some-injective}
use Rattle.std.proofs.lemmas.Bool.{eqb-false}
use Rattle.refusals.specs.Refusal.{bad_letter, block_past_data, no_register_size, second_registers}
use Rattle.fields.specs.Lists.{clash}
use Rattle.fields.specs.Number.{field}
use Rattle.fields.specs.Signed.{signed64, unsigned64, signed_unsigned, unsigned_signed, unsigned_lt, signed_fits}
use Rattle.fields.specs.Reader.{Reader, refuse}
use Rattle.fields.specs.Exact.{Exact, exact_give, exact_bytes, exact_then, exact_as, exact_num, exact_refuse, exact_cond}
use Rattle.fields.specs.Takes.{Shorter, Takes, shorter, takes-give, takes-refuse, takes-bytes, takes_then, takes-num, takes-cond, takes-after}
use Rattle.fields.specs.At.{byte_at}
use Rattle.fields.specs.declared.Order.TheVariants.{Little}
use Rattle.gdb_format.specs.Trace.{Block, registers, memory, variable, is_registers, put_block}
use Rattle.gdb_format.specs.Layout.{BlockFits}
use Rattle.gdb_format.specs.Decode.{register_block, memory_block, variable_block, block_of, block_after, block}
use Rattle.gdb_format.specs.declared.Format.{Format}

-- ---- a block is its letter, and then its content

letter_of : Block → ℕ
letter_of (registers b) = 0x52
letter_of (memory a b) = 0x4D
letter_of (variable n v) = 0x56

content : Format → Block → List ℕ
content f (registers b) = b
content f (memory a b) = field f.order 8 a ++ (field f.order 2 (length b) ++ b)
content f (variable n v) = field f.order 4 n ++ field f.order 8 (unsigned64 v)

-- what a block holds; anything where it holds no such thing
bytes_in : Block → List ℕ
bytes_in (registers b) = b
bytes_in (memory a b) = b
bytes_in (variable n v) = []

number_in : Block → ℕ
number_in (registers b) = 0
number_in (memory a b) = a
number_in (variable n v) = n

carried_value : Block → ℤ
carried_value (registers b) = pos 0
carried_value (memory a b) = pos 0
carried_value (variable n v) = v

abbrev IsBlock : ℕ → Option ℕ → Block → Type 0
IsBlock letter size c = (letter_of c ≡ letter) × BlockFits size c

same-value : (n m : ℕ) (v u : ℤ) → variable n v ≡ variable m u → v ≡ u
same-value n m v u e = cc

exact_registers : (f : Format) (size : Option ℕ) → Exact (register_block size) (IsBlock 0x52 size) (content f)
unfolding letter_of content bytes_in register_block
exact_registers f none =
    exact_refuse no_register_size (IsBlock 0x52 none) (content f)
    (elim [ registers b ↦ λ h. clash (cc) | memory a b ↦ λ h. omega arith | variable n v ↦ λ h. omega arith ])
exact_registers f (some n) =
    exact_as (exact_then (exact_bytes n block_past_data) (λ b. exact_give (registers b)) bytes_in (λ b c h e. rw e))
    (elim [
      | registers b ↦ λ h. ((some-injective _ _ (sym h.1), refl), append-nil b)
      | memory a b ↦ λ h. absurd (omega arith)
      | variable n v ↦ λ h. absurd (omega arith)
    ])
    (elim [ registers b ↦ λ h. ((refl, ap some (sym h.0)), append-nil b) | memory a b ↦ λ h. clash (cc) | variable n v ↦ λ h. clash (cc) ])

exact_memory : (f : Format) (size : Option ℕ) → Exact (memory_block f) (IsBlock 0x4D size) (content f)
unfolding letter_of content bytes_in number_in memory_block
exact_memory f size =
    exact_as
    (exact_then (exact_num f.order 8 block_past_data) (λ a.
    exact_then (exact_num f.order 2 block_past_data) (λ n.
    exact_then (exact_bytes n block_past_data) (λ b. exact_give (memory a b))
    bytes_in (λ b c h e. rw e))
    (λ c. length (bytes_in c)) (λ n c h e. e.0))
    number_in (λ a c h e. rw e.1.1))
    (elim [
      | registers b ↦ λ h. absurd (omega arith)
      | memory a b ↦ λ h. ((h.1.0, (h.1.1, (refl, refl))), simp append-nil)
      | variable n v ↦ λ h. absurd (omega arith)
    ])
    (elim [ registers b ↦ λ h. clash (cc) | memory a b ↦ λ h. ((refl, (h.0, h.1.0)), simp append-nil) | variable n v ↦ λ h. clash (cc) ])

exact_variable : (f : Format) (size : Option ℕ) → Exact (variable_block f) (IsBlock 0x56 size) (content f)
unfolding letter_of content number_in carried_value variable_block
exact_variable f size =
    exact_as
    (exact_then (exact_num f.order 4 block_past_data) (λ n. exact_then (exact_num f.order 8 block_past_data) (λ v. exact_give (variable n (signed64 v)))
    (λ c. unsigned64 (carried_value c)) (λ v c h e. rw e (unsigned_signed v h)))
    number_in (λ n c h e. rw e.1))
    (elim [
      | registers b ↦ λ h. absurd (omega arith)
      | memory a b ↦ λ h. absurd (omega arith)
      | variable n v ↦ λ h. ((h.1.0, (unsigned_lt v h.1.1, ap (variable n) (sym (signed_unsigned v h.1.1)))), simp append-nil)
    ])
    (elim [
      | registers b ↦ λ h. clash (cc)
      | memory a b ↦ λ h. clash (cc)
      | variable n v ↦ λ h. ((refl, (h.0, rw (same-value n n v (signed64 (unsigned64 v)) h.1.1) (signed_fits (unsigned64 v) h.1.0))), simp append-nil)
    ])

no_letter : (letter : ℕ) (size : Option ℕ) → eqb letter 0x52 ≡ false → eqb letter 0x4D ≡ false → eqb letter 0x56 ≡ false
    → (c : Block) → IsBlock letter size c → ⊥
unfolding letter_of
no_letter letter size r m v (registers b) h = eqb-false letter 0x52 r (sym h.0)
no_letter letter size r m v (memory a b) h = eqb-false letter 0x4D m (sym h.0)
no_letter letter size r m v (variable n x) h = eqb-false letter 0x56 v (sym h.0)

exact_blockOf : (f : Format) (size : Option ℕ) (letter : ℕ) → Exact (block_of f size letter) (IsBlock letter size) (content f)
unfolding block_of
exact_blockOf f size letter =
    exact_cond (eqb letter 0x52) (λ e. of_letter 0x52 e (exact_registers f size))
    (λ r. exact_cond (eqb letter 0x4D) (λ e. of_letter 0x4D e (exact_memory f size))
    (λ m. exact_cond (eqb letter 0x56) (λ e. of_letter 0x56 e (exact_variable f size))
    (λ v. exact_refuse bad_letter (IsBlock letter size) (content f) (no_letter letter size r m v))))
  where
    of_letter : (l : ℕ) {p : Reader Block} → eqb letter l ≡ true → Exact p (IsBlock l size) (content f) → Exact p (IsBlock letter size) (content f)
    of_letter l {p} e h = subst (λ l. Exact p (IsBlock l size) (content f)) (sym (eqb-true letter l e)) h

-- ---- after other blocks of the frame: a register block is its first

abbrev First : Bool → Block → Type 0
First seen c = is_registers c ≡ true → seen ≡ false

registers_letter : (letter : ℕ) (c : Block) → letter_of c ≡ letter → is_registers c ≡ eqb letter 0x52
unfolding letter_of
registers_letter letter (registers b) e = rw (← e)
registers_letter letter (memory a b) e = rw (← e)
registers_letter letter (variable n v) e = rw (← e)

exact_first : (f : Format) (size : Option ℕ) (seen : Bool) (letter : ℕ)
    → Exact (cond (seen && eqb letter 0x52) (refuse second_registers) (block_of f size letter)) (λ c. IsBlock letter size c × First seen c) (content f)
exact_first f size seen letter =
    exact_cond (seen && eqb letter 0x52)
    (λ e. exact_refuse second_registers _ _ (λ c h. no_second seen (eqb letter 0x52) e (sym (registers_letter letter c h.0.0)) h.1))
    (λ e. exact_as (exact_blockOf f size letter) (λ c h. (h.0, refl))
    (λ c h. ((h, is-first seen (eqb letter 0x52) e (registers_letter letter c h.0)), refl)))
  where
    no_second : (seen t : Bool) {u : Bool} → seen && t ≡ true → t ≡ u → (u ≡ true → seen ≡ false) → ⊥
    no_second true true e i h = let z : true ≡ false = h (sym i) in clash (cc)
    no_second true false e i h = clash (cc)
    no_second false t e i h = clash (cc)

    is-first : (seen t : Bool) {u : Bool} → seen && t ≡ false → u ≡ t → u ≡ true → seen ≡ false
    is-first true true e i h = e
    is-first true false e i h = clash (cc)
    is-first false t e i h = refl

abbrev pub FitsAfter : Option ℕ → Bool → Block → Type 0
FitsAfter size seen c = BlockFits size c × First seen c

pub exact_block-after : (f : Format) (size : Option ℕ) (seen : Bool) → Exact (block_after f size seen) (FitsAfter size seen) (put_block f)
unfolding letter_of content block_after
exact_block-after f size seen =
    exact_as (exact_then (exact_num Little 1 block_past_data) (exact_first f size seen) letter_of (λ a c h e. e.0.0))
    (elim [
      | registers b ↦ λ h. ((omega arith, ((refl, h.0), h.1)), refl)
      | memory a b ↦ λ h. ((omega arith, ((refl, h.0), h.1)), refl)
      | variable n v ↦ λ h. ((omega arith, ((refl, h.0), h.1)), refl)
    ])
    (elim [
      | registers b ↦ λ h. ((h.1.0.1, h.1.1), refl)
      | memory a b ↦ λ h. ((h.1.0.1, h.1.1), refl)
      | variable n v ↦ λ h. ((h.1.0.1, h.1.1), refl)
    ])

pub exact_block : (f : Format) (size : Option ℕ) → Exact (block f size) (BlockFits size) (put_block f)
unfolding block
exact_block f size = exact_as (exact_block-after f size false) (λ c h. ((h, λ e. refl), refl)) (λ c h. (h.0, refl))

-- ---- a block takes at least its letter

takes-registers : (size : Option ℕ) → Takes 0 (register_block size)
unfolding register_block
takes-registers none = takes-refuse no_register_size 0
takes-registers (some n) = takes-after n (takes-bytes n block_past_data) (λ b. takes-give (registers b))

takes_memory : (f : Format) → Takes 0 (memory_block f)
unfolding memory_block
takes_memory f =
    takes-after 8 (takes-num f.order 8 block_past_data) (λ a.
    takes-after 2 (takes-num f.order 2 block_past_data) (λ n.
    takes-after n (takes-bytes n block_past_data) (λ b. takes-give (memory a b))))

takes_variable : (f : Format) → Takes 0 (variable_block f)
unfolding variable_block
takes_variable f =
    takes-after 4 (takes-num f.order 4 block_past_data) (λ n.
    takes-after 8 (takes-num f.order 8 block_past_data) (λ v. takes-give (variable n (signed64 v))))

pub takes_blockOf : (f : Format) (size : Option ℕ) (letter : ℕ) → Takes 0 (block_of f size letter)
unfolding block_of
takes_blockOf f size letter =
    takes-cond (eqb letter 0x52) (takes-registers size)
    (takes-cond (eqb letter 0x4D) (takes_memory f) (takes-cond (eqb letter 0x56) (takes_variable f) (takes-refuse bad_letter 0)))

takes-block-after : (f : Format) (size : Option ℕ) (seen : Bool) → Takes 1 (block_after f size seen)
unfolding block_after
takes-block-after f size seen =
    takes_then 1 (takes-num Little 1 block_past_data) (λ letter.
    takes-cond (seen && eqb letter 0x52) (takes-refuse second_registers 0) (takes_blockOf f size letter))

pub shorter-block-after : (f : Format) (size : Option ℕ) (seen : Bool) → Shorter (block_after f size seen)
shorter-block-after f size seen = shorter 1 (block_after f size seen) (omega arith) (takes-block-after f size seen)

pub takes-block : (f : Format) (size : Option ℕ) → Takes 1 (block f size)
unfolding block
takes-block f size = takes-block-after f size false

pub shorter-block : (f : Format) (size : Option ℕ) → Shorter (block f size)
unfolding block
shorter-block f size = shorter-block-after f size false

-- ---- a block that stands at a place, by its letter

pub letter_read : (f : Format) (size : Option ℕ) (seen : Bool) (d : List ℕ) (at : ℕ) → at < length d
    → block_after f size seen (drop at d) ≡ cond (seen && eqb (get_or d at 0) 0x52) (refuse second_registers) (block_of f size (get_or d at 0)) (drop (at + 1) d)
unfolding block_after
letter_read f size seen d at h = rw (byte_at d at block_past_data h)
