-- From blocks at their places to the blocks of the trace: what is found at a place in the file is what the block holds.
-- Assumes nothing.
use Rattle.std.specs.Prelude.{◌≡◌, ℕ, ◌+◌, ◌-◌, Bool, true, false, cond, ◌↔◌, List, [], ◌∷◌, ◌++◌, length, take, drop, nat_lt, refl}
use Rattle.std.proofs.Common.{sym, ap, ap₂, ◌∙◌, arith, append_assoc, length-drop, take_all, ltb-true}
use Rattle.std.proofs.Math.Option.{Option, none, some, map}
use Rattle.refusals.specs.Refusal.{not_found}
use Rattle.fields.specs.Lists.{concat_map, Each, regroup, part-behind, part-there, piece-there}
use Rattle.fields.specs.Number.{Bytes, field, length-field, field-before}
use Rattle.fields.specs.Answer.{Answer, accepted, refused, next, never, next_cong, next_assoc, refused_inv, accepted_inj}
use Rattle.fields.specs.Element.{nth, nth-refused}
use Rattle.gdb_format.specs.Trace.{Block, registers, memory, variable, Frame, Trace, opening, put_block, put_frame}
use Rattle.gdb_format.specs.Decode.{read}
use Rattle.gdb_format.specs.declared.Settings.{Settings}
use Rattle.gdb_format.specs.declared.Format.{Format}
use Rattle.gdb_data.specs.Blocks.{carried_by, block_seen}
use Rattle.gdb_frames.specs.Places.{placed, frames_at, blocks_at, part}
use Rattle.gdb_frames.specs.Questions.{asked}
use Rattle.gdb_frames.specs.File.{File, file_of_lem}
use Rattle.gdb_frames.specs.PlaceLaws.{placed_then, data_behind}
use Rattle.gdb_blocks.specs.Search.{registers_in, memory_in, in_frame, block_at}
use Rattle.gdb_blocks.specs.Held.{offset, registers_of, memory_of, held_in, Missing, block_held, mapped, named, with_length, or_empty}
use Rattle.gdb_blocks.specs.Earliest.{or_later, earliest, earliest-map}

-- ---- one block

-- what `place` finds in a block that stands in b is what `g` finds in the block
abbrev Agrees : {B : Type 0} → Format → List ℕ → (ℕ × Block → Option B) → (Block → Option B) → Type 0
Agrees f b place g = (at : ℕ) (x : Block) (rest : List ℕ) → drop at b ≡ put_block f x ++ rest → place (at, x) ≡ g x

-- the bytes that `place` names there are those that the block holds
abbrev Names : Format → List ℕ → (ℕ × Block → Option (ℕ × ℕ)) → (Block → Option (List ℕ)) → Type 0
Names f b place g = Agrees f b (λ r. map (named b) (place r)) (λ x. map with_length (g x))

-- register bytes stand behind the letter
pub registers-there : (f : Format) (b : List ℕ) (at : ℕ) (d rest : List ℕ) → drop at b ≡ put_block f (registers d) ++ rest
    → take (length d) (drop (at + 1) b) ≡ d
registers-there f b at d rest e = part-there b at (0x52 ∷ []) d rest (sym e)

pub registers-named : (f : Format) (b : List ℕ) → Names f b registers_in registers_of
registers-named f b at (registers d) rest e = ap (λ l. some (length d, l)) (registers-there f b at d rest e)
registers-named f b at (memory a d) rest e = refl
registers-named f b at (variable m x) rest e = refl

-- the bytes of memory stand behind the letter, the address and the length
pub memory_there : (f : Format) (b : List ℕ) (at a : ℕ) (d rest : List ℕ) → drop at b ≡ put_block f (memory a d) ++ rest
    → take (length d) (drop (at + 11) b) ≡ d
memory_there f b at a d rest e =
    let x : List ℕ = field f.order 8 a in
    let y : List ℕ = field f.order 2 (length d) in
    let n : length (0x4D ∷ x ++ y) ≡ 11 = omega (arith, field-before f.order 8 a y, length-field f.order 2 (length d)) in
    let i : (0x4D ∷ x ++ y) ++ (d ++ rest) ≡ drop at b = ap (λ l. 0x4D ∷ l) (regroup x y d rest) ∙ sym e in
    rw n at (part-there b at (0x4D ∷ x ++ y) d rest i)

-- and from the offset o on, where that is less than their length
offset-named : (b d : List ℕ) (at o : ℕ) → take (length d) (drop at b) ≡ d → (t : Bool) → nat_lt o (length d) ≡ t
    → map (named b) (cond t (some (at + o, length d - o)) none) ≡ map with_length (cond t (some (drop o d)) none)
offset-named b d at o e false l = refl
offset-named b d at o e true l =
    let k = ltb-true o (length d) l in
    ap₂ (λ n l. some (n, l)) (sym (length-drop o d))
    (piece-there b d at o (length d - o) e (omega arith) ∙ take_all (length d - o) (drop o d) (omega (arith, length-drop o d)))

pub memory_named : (f : Format) (b : List ℕ) (a : ℕ) → Names f b (memory_in a) (memory_of a)
memory_named f b a at (registers d) rest e = refl
memory_named f b a at (memory c d) rest e = offset-named b d (at + 11) (offset a c) (memory_there f b at c d rest e) (nat_lt (offset a c) (length d)) refl
memory_named f b a at (variable m x) rest e = refl

-- ---- the blocks of a frame

module _ {B : Type 0} (f : Format) (b : List ℕ) (place : ℕ × Block → Option B) (g : Block → Option B) (same : Agrees f b place g) where
  earliest-placed : (xs : List Block) (at : ℕ) (rest : List ℕ) → drop at b ≡ concat_map (put_block f) xs ++ rest
      → earliest place (placed (put_block f) at xs) ≡ earliest g xs
  earliest-placed [] at rest e = refl
  earliest-placed (x ∷ xs) at rest e =
      let i : drop at b ≡ put_block f x ++ (concat_map (put_block f) xs ++ rest) = e ∙ append_assoc (put_block f x) (concat_map (put_block f) xs) rest in
      let j : drop (at + length (put_block f x)) b ≡ concat_map (put_block f) xs ++ rest =
      part-behind b at (put_block f x) (concat_map (put_block f) xs) rest (sym i) in
      ap₂ or_later (same at x (concat_map (put_block f) xs ++ rest) i) (earliest-placed xs (at + length (put_block f x)) rest j)

  found-held : (t : Trace) (n : ℕ) → File f b t → in_frame n (earliest place) f t ≡ held_in n g f t
  found-held t n i =
      next_cong (nth (frames_at f t) n) _ (λ r. earliest g r.1.blocks)
      (λ r e. let q = data_behind f b t i n r.0 r.1 e in earliest-placed r.1.blocks (r.0 + 6) q.0 q.1)
      ∙ placed_then (put_frame f) t.frames (length (opening t.lines)) n (λ r. earliest g r.blocks)

module _ (f : Format) (b : List ℕ) (t : Trace) (n : ℕ) (i : File f b t) where
  pub named-held : (place : ℕ × Block → Option (ℕ × ℕ)) (g : Block → Option (List ℕ)) → Names f b place g
      → mapped (named b) (in_frame n (earliest place) f t) ≡ mapped with_length (held_in n g f t)
  named-held place g same =
      mapped-earliest (nth (frames_at f t) n) (λ r. blocks_at f r.0 r.1) place (named b)
      ∙ found-held f b (λ r. map (named b) (place r)) (λ x. map with_length (g x)) same t n i
      ∙ sym (mapped-earliest (nth t.frames n) (λ r. r.blocks) g with_length)
    where
      -- to map what is found is to map what each element gives
      mapped-earliest : {A C D E : Type 0} (x : Answer A) (bs : A → List C) (g : C → Option D) (h : D → E)
          → mapped h (next x (λ r. earliest g (bs r))) ≡ next x (λ r. earliest (λ y. map h (g y)) (bs r))
      mapped-earliest x bs g h = next_assoc x (λ r. earliest g (bs r)) (λ y. accepted (h y)) ∙ next_cong x _ _ (λ r i. earliest-map g h (bs r))

-- block k of frame n
pub block_held_lem : (f : Format) (t : Trace) (n k : ℕ) → mapped (λ r. r.1) (block_at n k f t) ≡ mapped carried_by (block_held n k f t)
block_held_lem f t n k =
    next_assoc (nth (frames_at f t) n) _ (λ r. accepted r.1)
    ∙ next_cong (nth (frames_at f t) n) _ (λ r. mapped carried_by (nth r.1.blocks k))
    (λ r e.
    next_assoc (nth (blocks_at f r.0 r.1) k) (λ r. accepted (block_seen r.0 r.1)) (λ r. accepted r.1)
    ∙ placed_then (put_block f) r.1.blocks (r.0 + 6) k (λ x. accepted (carried_by x)))
    ∙ placed_then (put_frame f) t.frames (length (opening t.lines)) n (λ r. mapped carried_by (nth r.blocks k))
    ∙ sym (next_assoc (nth t.frames n) (λ r. nth r.blocks k) (λ x. accepted (carried_by x)))

-- q gives 12 exactly where `g` finds nothing
abbrev pub Misses : {B : Type 0} → (Block → Option B) → (List Block → Answer B) → Type 0
Misses g q = (xs : List Block) → (q xs ≡ refused not_found) ↔ Each (λ x. g x ≡ none) xs

-- 12 exactly where the frame has none, or is not there
pub frame-missing : {B : Type 0} (g : Block → Option B) (q : List Block → Answer B) → Misses g q → (n : ℕ) (t : Trace)
    → (next (nth t.frames n) (λ r. q r.blocks) ≡ refused not_found) ↔ Missing n g t
frame-missing g q misses n t = (forth, λ m. back (nth t.frames n) refl m)
  where
    forth : next (nth t.frames n) (λ r. q r.blocks) ≡ refused not_found → Missing n g t
    forth e r i = (misses r.blocks).0 (ap (λ x. next x (λ r. q r.blocks)) (sym i) ∙ e)

    back : (x : Answer Frame) → nth t.frames n ≡ x → Missing n g t → next x (λ r. q r.blocks) ≡ refused not_found
    back (accepted r) i m = (misses r.blocks).1 (m r i)
    back (refused k) i m = ap refused (nth-refused t.frames n k i)

-- ---- what holds of every file and its trace holds of what is asked

module _ (s : Settings) (b : List ℕ) (h : Bytes b) where
  pub asked-same : {B : Type 0} (p q : Format → Trace → Answer B) → ((f : Format) (t : Trace) → File f b t → p f t ≡ q f t) → asked s b p ≡ asked s b q
  asked-same p q e = next_cong (read s b) _ _ (λ r i. e r.0 r.1 (file_of_lem s b r.0 r.1 h i))

  pub asked-mapped : {B C D : Type 0} (p : Format → Trace → Answer B) (q : Format → Trace → Answer C) (j : B → D) (k : C → D)
      → ((f : Format) (t : Trace) → File f b t → mapped j (p f t) ≡ mapped k (q f t)) → mapped j (asked s b p) ≡ mapped k (asked s b q)
  asked-mapped p q j k e =
      next_assoc (read s b) (λ r. p r.0 r.1) (λ y. accepted (j y))
      ∙ asked-same (λ f t. mapped j (p f t)) (λ f t. mapped k (q f t)) e
      ∙ sym (next_assoc (read s b) (λ r. q r.0 r.1) (λ y. accepted (k y)))

-- ---- answers that map to the same

pub refused_alike : {A B C : Type 0} (h : A → C) (k : B → C) (x : Answer A) (y : Answer B) (n : ℕ) → mapped h x ≡ mapped k y → (x ≡ refused n) ↔ (y ≡ refused n)
refused_alike h k x y n e = (
  (λ i. refused_inv n y k (sym (ap (mapped h) i) ∙ e)),
  (λ i. refused_inv n x h (sym (ap (mapped k) i) ∙ sym e)),
)

pub part_same : (b : List ℕ) (x : Answer (ℕ × ℕ)) (y : Answer (List ℕ)) → mapped (named b) x ≡ mapped with_length y → part b x ≡ or_empty y
part_same b (accepted r) (accepted d) e = (accepted_inj e).1
part_same b (accepted r) (refused n) e = never (sym e)
part_same b (refused n) (accepted d) e = never e
part_same b (refused n) (refused m) e = refl
