-- What stands at the place that an answer names: the element's own bytes, within the file.
-- Assumes nothing.
use Rattle.std.specs.Prelude.{◌≡◌, refl, ℕ, zero, suc, ◌+◌, ◌≤◌, List, [], ◌∷◌, ◌++◌, length, take, drop}
use Rattle.std.proofs.Common.{sym, ap, ◌∙◌, arith, append_assoc, length-append, length-drop, take_at, le-leb}
use Rattle.fields.specs.Lists.{concat_map, length_part, part-front, part-behind, part-there, part-lengths}
use Rattle.fields.specs.Number.{Bytes}
use Rattle.fields.specs.Answer.{Answer, accepted, refused, next, never, next_inv, next_assoc, accepted-one, accepted_inj}
use Rattle.fields.specs.Element.{nth}
use Rattle.gdb_format.specs.FrameBytes.{head_bytes, head-long, head_first}
use Rattle.gdb_format.specs.Trace.{Frame, Trace, put_line, head_in, put_frame, put_mark, data_of, opening}
use Rattle.gdb_format.specs.Decode.{read}
use Rattle.gdb_format.specs.declared.Settings.{Settings}
use Rattle.gdb_format.specs.declared.Format.{Format}
use Rattle.gdb_format.specs.declared.LineKind.{LineKind}
use Rattle.gdb_frames.specs.Places.{placed, frames_at, lines_at, part, part_named}
use Rattle.gdb_frames.specs.Questions.{asked, line_at, line_place, Handed}
use Rattle.gdb_frames.specs.File.{File, file_of_lem, frames-behind, lines-behind}

-- ---- an element among those laid out

-- the bytes from its place on begin with its own
pub placed-there : {A : Type 0} (put : A → List ℕ) (s : List ℕ) (n : ℕ) (xs : List A) (rest : List ℕ) (at a : ℕ) (x : A) → drop at s ≡ concat_map put xs ++ rest
    → nth (placed put at xs) n ≡ accepted (a, x) → (r : List ℕ) × (drop a s ≡ put x ++ r) × (at ≤ a)
placed-there put s n [] rest at a x e g = never g
placed-there put s zero (y ∷ xs) rest at a x e g =
    let i = accepted_inj g in
    (concat_map put xs ++ rest, rw (← i.0, ← i.1) (e ∙ append_assoc (put y) (concat_map put xs) rest), omega (arith, i.0))
placed-there put s (suc n) (y ∷ xs) rest at a x e g =
    let f = part-behind s at (put y) (concat_map put xs) rest (sym (e ∙ append_assoc (put y) (concat_map put xs) rest)) in
    let q = placed-there put s n xs rest (at + length (put y)) a x f g in
    (q.0, q.1, omega (arith, q.2))

-- its place aside, it is element n of the list
pub placed-nth : {A : Type 0} (put : A → List ℕ) (xs : List A) (at n : ℕ) → next (nth (placed put at xs) n) (λ r. accepted r.1) ≡ nth xs n
placed-nth put [] at n = refl
placed-nth put (x ∷ xs) at zero = refl
placed-nth put (x ∷ xs) at (suc n) = placed-nth put xs (at + length (put x)) n

pub placed-is : {A : Type 0} (put : A → List ℕ) (xs : List A) (at n a : ℕ) (x : A) → nth (placed put at xs) n ≡ accepted (a, x) → nth xs n ≡ accepted x
placed-is put xs at n a x e = sym (placed-nth put xs at n) ∙ ap (λ y. next y (λ r. accepted r.1)) e

pub placed_then : {A B : Type 0} (put : A → List ℕ) (xs : List A) (at n : ℕ) (q : A → Answer B)
    → next (nth (placed put at xs) n) (λ r. q r.1) ≡ next (nth xs n) q
placed_then put xs at n q = sym (next_assoc (nth (placed put at xs) n) (λ r. accepted r.1) q) ∙ ap (λ x. next x q) (placed-nth put xs at n)

-- ---- parts that lie in the file

-- the part that an answer names lies in the file
abbrev pub InFile : List ℕ → Answer (ℕ × ℕ) → Type 0
InFile b x = (r : ℕ × ℕ) → x ≡ accepted r → r.0 + r.1 ≤ length b

-- such a part is handed back
pub handed : (b r : List ℕ) (x : Answer (ℕ × ℕ)) → InFile b x → r ≡ part_named b x → Handed b x r
handed b r (refused n) i e = record { is-part = e; is-long = ap length e }
handed b r (accepted q) i e =
    let k : q.0 + q.1 ≤ length b = i q refl in
    let w : r ≡ part b (accepted q) = e ∙ rw (le-leb (q.0 + q.1) (length b) k) in
    record { is-part = w; is-long = ap length w ∙ length_part b q.0 q.1 k }

-- ---- the data of frame n

module _ (f : Format) (b : List ℕ) (t : Trace) (i : File f b t) (n a : ℕ) (r : Frame) (g : nth (frames_at f t) n ≡ accepted (a, r)) where
  frame-there : (rest : List ℕ) × (head_bytes f (head_in f r) ++ (data_of f r ++ rest) ≡ drop a b)
  frame-there =
      let q = placed-there (put_frame f) b n t.frames (put_mark t.marked) (length (opening t.lines)) a r (frames-behind f b t i) g in
      (q.0, head_first f (head_in f r) q.0 ∙ sym q.1)

  -- the data, and what follows them
  pub data_behind : (rest : List ℕ) × (drop (a + 6) b ≡ data_of f r ++ rest)
  data_behind = (frame-there.0, rw (head-long f (head_in f r)) at (part-behind b a (head_bytes f (head_in f r)) (data_of f r) frame-there.0 frame-there.1))

  pub frame-within : a + 6 + length (data_of f r) ≤ length b
  frame-within = omega (arith, part-lengths b a (head_bytes f (head_in f r)) (data_of f r) frame-there.0 frame-there.1, head-long f (head_in f r))

  -- the data, as the end of the file up to there
  pub data_there : drop (a + 6) (take (a + 6 + length (data_of f r)) b) ≡ data_of f r
  data_there =
      part-front b (a + 6) (length (data_of f r)) frame-within
      ∙ rw (head-long f (head_in f r)) at (part-there b a (head_bytes f (head_in f r)) (data_of f r) frame-there.0 frame-there.1)

-- ---- answers of questions lie in the file

pub in_file_lem : (s : Settings) (b : List ℕ) (q : Format → Trace → Answer (ℕ × ℕ)) → Bytes b → ((f : Format) (t : Trace) → File f b t → InFile b (q f t))
    → InFile b (asked s b q)
in_file_lem s b q h g r e =
    let u = next_inv (read s b) (λ r. q r.0 r.1) e in
    g u.0.0 u.0.1 (file_of_lem s b u.0.0 u.0.1 h u.1) r u.2

module _ (f : Format) (b : List ℕ) (t : Trace) (i : File f b t) (j a : ℕ) (l : List ℕ) (g : nth (lines_at t) j ≡ accepted (a, l)) where
  line-there : (rest : List ℕ) × (drop a b ≡ l ++ 0x0A ∷ rest)
  line-there =
      let q = placed-there put_line b j t.lines (0x0A ∷ (concat_map (put_frame f) t.frames ++ put_mark t.marked)) 8 a l (lines-behind f b t i) g in
      (q.0, q.1 ∙ append_assoc l (0x0A ∷ []) q.0)

  pub line-within : a + length l ≤ length b
  line-within = omega (arith, ap length line-there.1, length-append l (0x0A ∷ line-there.0), length-drop a b)

  pub line-is : take (length l) (drop a b) ≡ l
  line-is = rw line-there.1 (take_at l (0x0A ∷ line-there.0) (length l) refl)

pub line-in_file : (s : Settings) (b : List ℕ) (j : ℕ) → Bytes b → InFile b (asked s b (line_place j))
line-in_file s b j h =
    in_file_lem s b (line_place j) h (λ f t i r e.
    let u = next_inv (line_at j f t) (λ r. accepted r.1) e in
    let v = next_inv (nth (lines_at t) j) _ u.1 in
    let p : (v.0.0, length v.0.1) ≡ r = ap (λ (z : LineKind × (ℕ × ℕ)). z.1) (accepted-one v.2) ∙ accepted-one u.2 in
    omega (arith, line-within f b t i j v.0.0 v.0.1 v.1, ap (λ (z : ℕ × ℕ). z.0) p, ap (λ (z : ℕ × ℕ). z.1) p))
