-- Which numbers a GDB file can be refused with: those of each part, and the law that its reader refuses with no other.
-- Assumes nothing.
use Rattle.std.specs.Prelude.{◌≡◌, ◌↔◌, Bool, ◌&&◌, ℕ, zero, suc, ◌<◌, leb}
use Rattle.std.proofs.Math.Path.{refl}
use Rattle.std.proofs.Common.{sym, ◌∙◌}
use Rattle.std.proofs.Math.Bool.{false}
use Rattle.std.proofs.Math.Option.{Option, none, some}
use mathlib.Core.List.{List, [], ◌∷◌, ◌++◌}
use Rattle.std.proofs.Math.ListN.{length}
use Rattle.std.proofs.Math.Dec.{eqb}
use Rattle.refusals.specs.Refusal.{limit, too_long, bad_argument, bad_head, no_empty_line, bad_line, short_head, data_past_file}
use Rattle.refusals.specs.Refusal.{bad_letter, block_past_data, no_register_size, bad_mark, second_registers}
use Rattle.fields.specs.Word.{starts}
use Rattle.fields.specs.Answer.{Answer, accepted, refused, next, never, refused_inv}
use Rattle.fields.specs.Refuses.{Refuses, Refusing, OneOf, refuses_never, refuses_with, refuses_cond, refuses_next, refuses_in, refuses_too_long}
use Rattle.fields.specs.Refuses.{refuses_until, refusing_give, refusing_refuse, refusing_bytes, refusing_cond, refusing_then, refusing_num}
use Rattle.fields.specs.Refuses.{refusing_filling, refusing_in}
use Rattle.fields.specs.declared.Order.TheVariants.{Little}
use Rattle.gdb_format.specs.Trace.{Trace, head}
use Rattle.gdb_format.specs.Lines.{may_follow, register_size}
use Rattle.gdb_format.specs.Settings.{order_of, base_of, settings_of}
use Rattle.gdb_format.specs.SettingsLaws.{Names, settings-name}
use Rattle.gdb_format.specs.Decode.{register_block, memory_block, variable_block, block_of, block_after, seen_after, numbered, frame_head, blocks, frame}
use Rattle.gdb_format.specs.Decode.{ending, frames, description, opening_lines, trace, decode, read}
use Rattle.gdb_format.specs.ExactFrame.{shorter-frame}
use Rattle.gdb_format.specs.declared.Settings.{Settings}
use Rattle.gdb_format.specs.declared.Format.{Format}

-- ---- blocks: 8, 9, 10 and 24

abbrev pub content_numbers : List ℕ
content_numbers = bad_letter ∷ block_past_data ∷ no_register_size ∷ []

abbrev pub block_numbers : List ℕ
block_numbers = content_numbers ++ second_registers ∷ []

register_numbers : (size : Option ℕ) → Refusing (OneOf content_numbers) (register_block size)
unfolding register_block
register_numbers none = refusing_refuse tt
register_numbers (some n) = refusing_then (refusing_bytes n block_past_data tt) (λ b. refusing_give)

module _ (f : Format) where
  memory_numbers : Refusing (OneOf content_numbers) (memory_block f)
  unfolding memory_block
  memory_numbers =
      refusing_then (refusing_num f.order 8 block_past_data tt) (λ a.
      refusing_then (refusing_num f.order 2 block_past_data tt) (λ n.
      refusing_then (refusing_bytes n block_past_data tt) (λ b. refusing_give)))

  variable_numbers : Refusing (OneOf content_numbers) (variable_block f)
  unfolding variable_block
  variable_numbers =
      refusing_then (refusing_num f.order 4 block_past_data tt) (λ n.
      refusing_then (refusing_num f.order 8 block_past_data tt) (λ v. refusing_give))

  pub content_numbers_lem : (size : Option ℕ) (letter : ℕ) → Refusing (OneOf content_numbers) (block_of f size letter)
  unfolding block_of
  content_numbers_lem size letter =
      refusing_cond (eqb letter 0x52) (register_numbers size)
      (refusing_cond (eqb letter 0x4D) memory_numbers
      (refusing_cond (eqb letter 0x56) variable_numbers (refusing_refuse tt)))

  block-numbers : (size : Option ℕ) (seen : Bool) → Refusing (OneOf block_numbers) (block_after f size seen)
  unfolding block_after
  block-numbers size seen =
      refusing_then (refusing_num Little 1 block_past_data tt) (λ letter.
      refusing_cond (seen && eqb letter 0x52) (refusing_refuse tt) (refusing_in content_numbers _ (content_numbers_lem size letter)))

-- ---- frames: 6, 7 and 18, and their blocks'

abbrev pub numbered_numbers : List ℕ
numbered_numbers = short_head ∷ data_past_file ∷ []

abbrev pub head_numbers : List ℕ
head_numbers = numbered_numbers ++ bad_mark ∷ []

abbrev pub frame_numbers : List ℕ
frame_numbers = head_numbers ++ block_numbers

module _ (f : Format) where
  pub numbered-numbers : (n : ℕ) → Refusing (OneOf numbered_numbers) (numbered f n)
  unfolding numbered
  numbered-numbers n =
      refusing_then (refusing_num f.order 4 short_head tt) (λ k.
      refusing_then (refusing_bytes k data_past_file tt) (λ d. refusing_give))

  pub head-numbers : Refusing (OneOf head_numbers) (frame_head f)
  unfolding frame_head
  head-numbers =
      refusing_then (refusing_num f.order 2 short_head tt) (λ n.
      refusing_cond (eqb n 0) (refusing_refuse tt) (refusing_in numbered_numbers _ (numbered-numbers n)))

  pub blocks-numbers : (size : Option ℕ) (d : List ℕ) → Refusing (OneOf block_numbers) (blocks f size d)
  unfolding blocks
  blocks-numbers size d = refusing_filling seen_after d (block-numbers f size) false

  pub frame-numbers : (size : Option ℕ) → Refusing (OneOf frame_numbers) (frame f size)
  unfolding frame
  frame-numbers size =
      refusing_then (refusing_in head_numbers _ head-numbers) (λ h.
      refusing_then (refusing_in block_numbers _ (blocks-numbers size h.1)) (λ bs. refusing_give))

-- ---- the opening: 3, 4, 5

abbrev pub opening_numbers : List ℕ
opening_numbers = bad_head ∷ no_empty_line ∷ bad_line ∷ []

module _ (f : Format) where
  lines-numbers : (before : List (List ℕ)) (line b : List ℕ) → Refuses (OneOf opening_numbers) (description f before line b)
  unfolding description
  lines-numbers before line [] = refuses_with tt
  lines-numbers before line (x ∷ xs) =
      refuses_cond (eqb x 0x0A)
      (refuses_cond (eqb (length line) 0) refuses_never (refuses_cond (may_follow f before line) (lines-numbers (before ++ line ∷ []) [] xs) (refuses_with tt)))
      (lines-numbers before (line ++ x ∷ []) xs)

  pub opening-numbers : Refusing (OneOf opening_numbers) (opening_lines f)
  unfolding opening_lines
  opening-numbers =
      refusing_then (refusing_bytes 8 bad_head tt) (λ h.
      refusing_cond (starts head h) (record { reading = lines-numbers [] [] }) (refusing_refuse tt))

-- ---- a file: 2 for the settings, then 1, then front to back

abbrev pub trace_numbers : List ℕ
trace_numbers = opening_numbers ++ frame_numbers

abbrev pub decode_numbers : List ℕ
decode_numbers = too_long ∷ trace_numbers

abbrev pub settings_numbers : List ℕ
settings_numbers = bad_argument ∷ []

abbrev pub file_numbers : List ℕ
file_numbers = settings_numbers ++ decode_numbers

module _ (f : Format) (b : List ℕ) where
  pub trace-numbers : Refuses (OneOf trace_numbers) (trace f b)
  unfolding trace frames
  trace-numbers =
      refuses_next (refuses_in opening_numbers _ ((opening-numbers f).reading b)) (λ r.
      refuses_next
      (refuses_until ending (shorter-frame f (register_size f r.0)) (refusing_in frame_numbers _ (frame-numbers f (register_size f r.0))) r.1)
      (λ q. refuses_never))

  pub decode-numbers : Refuses (OneOf decode_numbers) (decode f b)
  unfolding decode
  decode-numbers = refuses_cond (leb (length b) limit) (refuses_in trace_numbers _ trace-numbers) (refuses_with tt)

  -- 1 exactly where the file is longer than the limit
  pub trace-too_long : (decode f b ≡ refused too_long) ↔ (limit < length b)
  unfolding decode
  trace-too_long = refuses_too_long (length b) trace-numbers (λ e. e)

order-numbers : (n : ℕ) → Refuses (OneOf settings_numbers) (order_of n)
order-numbers zero = refuses_never
order-numbers (suc zero) = refuses_never
order-numbers (suc (suc n)) = refuses_with tt

base_numbers : (n : ℕ) → Refuses (OneOf settings_numbers) (base_of n)
base_numbers n = refuses_cond (eqb n 16) refuses_never (refuses_cond (eqb n 10) refuses_never (refuses_with tt))

pub settings-numbers : (s : Settings) → Refuses (OneOf settings_numbers) (settings_of s)
settings-numbers s = refuses_next (order-numbers s.order) (λ o. refuses_next (base_numbers s.base) (λ b. refuses_never))

-- 2 exactly where they are the numbers of no format
pub settings_wrong : (s : Settings) → (settings_of s ≡ refused bad_argument) ↔ ((f : Format) → Names s f → ⊥)
settings_wrong s = (
  (λ e f h. never (sym e ∙ (settings-name s f).1 h)),
  (λ h. by (settings_of s) refl (settings-numbers s) (λ f e. h f ((settings-name s f).0 e))),
)
  where
    by : (x : Answer Format) → settings_of s ≡ x → Refuses (OneOf settings_numbers) x → ((f : Format) → settings_of s ≡ accepted f → ⊥) → x ≡ refused bad_argument
    by (accepted f) e r h = absurd (h f e)
    by (refused k) e r h = (refuses_in {P = λ k. ◌≡◌ {A = Answer Format} (refused k) (refused bad_argument)} settings_numbers (refl, tt) r).only k refl

-- `read`, by what the settings name
abbrev read_as : List ℕ → Answer Format → Answer (Format × Trace)
read_as b x = next x (λ f. next (decode f b) (λ t. accepted (f, t)))

module _ (s : Settings) (b : List ℕ) where
  pub file-numbers : Refuses (OneOf file_numbers) (read s b)
  unfolding read
  file-numbers =
      refuses_next (refuses_in settings_numbers _ (settings-numbers s)) (λ f.
      refuses_next (refuses_in decode_numbers _ (decode-numbers f b)) (λ t. refuses_never))

  -- 2 exactly where the settings are wrong
  pub file_argument : (read s b ≡ refused bad_argument) ↔ (settings_of s ≡ refused bad_argument)
  unfolding read
  file_argument = by (settings_of s)
    where
      by : (x : Answer Format) → (read_as b x ≡ refused bad_argument) ↔ (x ≡ refused bad_argument)
      by (accepted f) = ((λ e. absurd ((decode-numbers f b).only bad_argument (refused_inv bad_argument (decode f b) _ (sym e)))), (λ e. never (sym e)))
      by (refused k) = ((λ e. cc), (λ e. cc))

  -- 1 exactly where they are right and the file is longer than the limit
  pub file-too_long : (read s b ≡ refused too_long) ↔ ((f : Format) × (settings_of s ≡ accepted f) × (limit < length b))
  unfolding read
  file-too_long = by (settings_of s) (settings-numbers s)
    where
      by : (x : Answer Format) → Refuses (OneOf settings_numbers) x
          → (read_as b x ≡ refused too_long) ↔ ((f : Format) × (x ≡ accepted f) × (limit < length b))
      by (accepted f) h = (
        (λ e. (f, refl, (trace-too_long f b).0 (refused_inv too_long (decode f b) _ (sym e)))),
        (λ w. rw ((trace-too_long f b).1 w.2)),
      )
      by (refused k) h = ((λ e. absurd (h.only too_long (cc))), (λ w. never w.1))
