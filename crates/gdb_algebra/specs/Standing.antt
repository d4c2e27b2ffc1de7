-- Where a trace's frames stand in the cut by a selection and in the cut by its opposite.
-- Assumes nothing.
use Rattle.std.specs.Prelude.{◌≡◌, refl, Bool, true, false, cond, not, ◌⊎◌, ℕ, zero, suc, ◌^◌, ◌<◌, List, [], ◌∷◌, map, length, take}
use Rattle.std.proofs.Common.{sym, ap, ap₂, ◌∙◌, subst, inl, inr, arith, take_at}
use Rattle.fields.specs.Lists.{clash}
use Rattle.fields.specs.Number.{field, number, number-field, length-field}
use Rattle.fields.specs.Answer.{Answer, accepted, refused, never, accepted-one}
use Rattle.fields.specs.Element.{nth, each-nth}
use Rattle.gdb_format.specs.Trace.{Frame, Trace, put_frame}
use Rattle.gdb_format.specs.Lines.{register_size}
use Rattle.gdb_format.specs.Layout.{FrameFits}
use Rattle.gdb_format.specs.Decode.{decode}
use Rattle.gdb_format.specs.declared.Format.{Format}
use Rattle.gdb_frames.specs.File.{File, decode-file}
use Rattle.gdb_select.specs.Selection.{Selection, selects, opposite}
use Rattle.gdb_cut.specs.Cut.{picks}
use Rattle.gdb_cut.specs.Cut.{filter, cut}
use Rattle.gdb_cut.specs.CutLaws.{picks-other}

-- ---- definitions

-- the bytes of each frame of a file, head and data
abbrev pub frames_of : Format → Answer Trace → List (List ℕ)
frames_of f (accepted t) = map (put_frame f) t.frames
frames_of f (refused n) = []

-- how many frames before n a selection selects
abbrev pub count_of : Selection → ℕ → Answer Trace → ℕ
count_of c n (accepted t) = length (filter (picks c) (take n t.frames))
count_of c n (refused m) = 0

-- the same of a file
abbrev pub before : Format → Selection → List ℕ → ℕ → ℕ
before f c b n = count_of c n (decode f b)

module _ (f : Format) (c : Selection) (b d : List ℕ) where
  -- frame n of the file b stands in d, a cut of b by c: the cut's frame k has the same bytes, head and data,
  -- k being the number of frames before n that c selects
  pub record StandsIn (n : ℕ) : Type 0 where
    pub bytes : List ℕ
    pub there : nth (frames_of f (decode f b)) n ≡ accepted bytes
    pub here : nth (frames_of f (decode f d)) (before f c b n) ≡ accepted bytes

  -- d holds the frames that stand in it once and in file order, and no other
  pub record HoldsFrames : Type 0 where
    pub ordered : (n m : ℕ) → n < m → StandsIn n → before f c b n < before f c b m
    pub nothing_else : (k : ℕ) → k < length (frames_of f (decode f d)) → (n : ℕ) × StandsIn n × (before f c b n ≡ k)

-- exactly one of two
abbrev pub ExactlyOne : Type 0 → Type 0 → Type 0
ExactlyOne X Y = (X × (Y → ⊥)) ⊎ ((X → ⊥) × Y)

-- ---- lists

module _ {A B : Type 0} (g : A → B) where
  nth-map : (l : List A) (n : ℕ) (x : A) → nth l n ≡ accepted x → nth (map g l) n ≡ accepted (g x)
  nth-map [] n x e = never e
  nth-map (y ∷ l) zero x e = ap (λ z. accepted (g z)) (accepted-one e)
  nth-map (y ∷ l) (suc n) x e = nth-map l n x e

  nth_unmap : (l : List A) (n : ℕ) (y : B) → nth (map g l) n ≡ accepted y → (x : A) × (nth l n ≡ accepted x) × (g x ≡ y)
  nth_unmap [] n y e = never e
  nth_unmap (x ∷ l) zero y e = (x, refl, accepted-one e)
  nth_unmap (x ∷ l) (suc n) y e = nth_unmap l n y e

  nth-some : (l : List A) (n : ℕ) → n < length (map g l) → (x : A) × (nth l n ≡ accepted x)
  nth-some [] n h = absurd (omega arith)
  nth-some (x ∷ l) zero h = (x, refl)
  nth-some (x ∷ l) (suc n) h = nth-some l n (omega arith)

module _ {A : Type 0} (p : A → Bool) where
  -- element n, where it is kept, is element k of what is kept, k being the number kept before it
  stands : (l : List A) (n : ℕ) (x : A) → nth l n ≡ accepted x → p x ≡ true → nth (filter p l) (length (filter p (take n l))) ≡ accepted x
  stands [] n x e h = never e
  stands (y ∷ l) zero x e h = let q : y ≡ x = accepted-one e in rw (q, h)
  stands (y ∷ l) (suc n) x e h = by (p y) (stands l n x e h)
    where
      by : (t : Bool) → nth (filter p l) (length (filter p (take n l))) ≡ accepted x
          → nth (cond t (y ∷ filter p l) (filter p l)) (length (cond t (y ∷ filter p (take n l)) (filter p (take n l)))) ≡ accepted x
      by true e = e
      by false e = e

  -- what is kept is element n, n being preceded by as many that are kept
  filter-from : (l : List A) (k : ℕ) (g : A) → nth (filter p l) k ≡ accepted g
      → (n : ℕ) × (nth l n ≡ accepted g) × (p g ≡ true) × (length (filter p (take n l)) ≡ k)
  filter-from [] k g e = never e
  filter-from (x ∷ l) k g e = by (p x) refl k (λ k e. filter-from l k g e) e
    where
      by : (t : Bool) → p x ≡ t → (k : ℕ)
          → ((k : ℕ) → nth (filter p l) k ≡ accepted g → (n : ℕ) × (nth l n ≡ accepted g) × (p g ≡ true) × (length (filter p (take n l)) ≡ k))
          → nth (cond t (x ∷ filter p l) (filter p l)) k ≡ accepted g
          → (n : ℕ) × (nth (x ∷ l) n ≡ accepted g) × (p g ≡ true) × (length (filter p (take n (x ∷ l))) ≡ k)
      by true h zero ih e = (0, e, subst (λ z. p z ≡ true) (accepted-one e) h, refl)
      by true h (suc k) ih e = let q = ih k e in (suc q.0, q.1, q.2, rw h (ap suc q.3))
      by false h k ih e = let q = ih k e in (suc q.0, q.1, q.2, rw h q.3)

  -- of two that are kept, the later has more before it
  before_grows : (l : List A) (n m : ℕ) (x : A) → nth l n ≡ accepted x → p x ≡ true → n < m → length (filter p (take n l)) < length (filter p (take m l))
  before_grows [] n m x e h k = never e
  before_grows (y ∷ l) n zero x e h k = absurd (omega arith)
  before_grows (y ∷ l) zero (suc m) x e h k = let q : p y ≡ true = ap p (accepted-one e) ∙ h in rw q (omega arith)
  before_grows (y ∷ l) (suc n) (suc m) x e h k = by (p y) (before_grows l n m x e h (omega arith))
    where
      by : (t : Bool) → length (filter p (take n l)) < length (filter p (take m l))
          → length (cond t (y ∷ filter p (take n l)) (filter p (take n l))) < length (cond t (y ∷ filter p (take m l)) (filter p (take m l)))
      by true q = omega arith
      by false q = q

-- ---- traces

-- frames of the same bytes have the same number
same_number : (f : Format) (r g : Frame) → r.tracepoint < 2 ^ 16 → g.tracepoint < 2 ^ 16 → put_frame f r ≡ put_frame f g → r.tracepoint ≡ g.tracepoint
same_number f r g hr hg e =
    let o = f.order in
    let q : field o 2 r.tracepoint ≡ field o 2 g.tracepoint =
    sym (take_at (field o 2 r.tracepoint) _ 2 (length-field o 2 r.tracepoint)) ∙ ap (take 2) e
    ∙ take_at (field o 2 g.tracepoint) _ 2 (length-field o 2 g.tracepoint) in
    sym (number-field o 2 r.tracepoint hr) ∙ ap (number o) q ∙ number-field o 2 g.tracepoint hg

module _ (f : Format) (c : Selection) (b d : List ℕ) (t : Trace) (i : File f b t) (j : File f d (cut c t)) where
  db : decode f b ≡ accepted t
  db = decode-file f b t i

  dd : decode f d ≡ accepted (cut c t)
  dd = decode-file f d (cut c t) j

  made : (n : ℕ) (x : Frame) → nth t.frames n ≡ accepted x → picks c x ≡ true → StandsIn f c b d n
  made n x e h =
      record {
        bytes = put_frame f x;
        there = ap (λ z. nth (frames_of f z) n) db ∙ nth-map (put_frame f) t.frames n x e;
        here =
            ap₂ (λ z w. nth (frames_of f z) (count_of c n w)) dd db
            ∙ nth-map (put_frame f) (filter (picks c) t.frames) _ x (stands (picks c) t.frames n x e h);
      }

  -- what stands is selected
  chosen : (n : ℕ) (x : Frame) → nth t.frames n ≡ accepted x → StandsIn f c b d n → picks c x ≡ true
  chosen n x e w =
      let u = nth_unmap (put_frame f) t.frames n w.bytes (sym (ap (λ z. nth (frames_of f z) n) db) ∙ w.there) in
      let v = nth_unmap (put_frame f) (filter (picks c) t.frames) _ w.bytes (sym (ap₂ (λ z w. nth (frames_of f z) (count_of c n w)) dd db) ∙ w.here) in
      let k = filter-from (picks c) t.frames _ v.0 v.1 in
      let fits = i.fits.frames_fit in
      let q : x.tracepoint ≡ v.0.tracepoint =
      same_number f x v.0 (each-nth (FrameFits f (register_size f t.lines)) t.frames n x fits e).0
      (each-nth (FrameFits f (register_size f t.lines)) t.frames k.0 v.0 fits k.1).0
      (ap (put_frame f) (accepted-one (sym e ∙ u.1)) ∙ u.2 ∙ sym v.2) in
      ap (selects c) q ∙ k.2

  -- in file order, and so once: of two frames that stand there, the later stands later
  in_order_lem : (n m : ℕ) → n < m → StandsIn f c b d n → before f c b n < before f c b m
  in_order_lem n m h w =
      let u = nth_unmap (put_frame f) t.frames n w.bytes (sym (ap (λ z. nth (frames_of f z) n) db) ∙ w.there) in
      subst (λ z. count_of c n z < count_of c m z) (sym db) (before_grows (picks c) t.frames n m u.0 u.1 (chosen n u.0 u.1 w) h)

  -- no other frame: each frame of the cut is one that stands there
  no_other : (k : ℕ) → k < length (frames_of f (decode f d)) → (n : ℕ) × StandsIn f c b d n × (before f c b n ≡ k)
  no_other k h =
      let x = nth-some (put_frame f) (filter (picks c) t.frames) k (subst (λ z. k < length (frames_of f z)) dd h) in
      let q = filter-from (picks c) t.frames k x.0 x.1 in
      (q.0, made q.0 x.0 q.1 q.2, ap (count_of c q.0) db ∙ q.3)

  pub holds-frames : HoldsFrames f c b d
  holds-frames = record { ordered = in_order_lem; nothing_else = no_other }

-- each frame stands in exactly one of the cut by a selection and the cut by its opposite
module _ (f : Format) (c : Selection) (b d x : List ℕ) (t : Trace) (i : File f b t) (j : File f d (cut c t)) (k : File f x (cut (opposite c) t)) where
  pub in_one : (n : ℕ) → n < length (frames_of f (decode f b)) → ExactlyOne (StandsIn f c b d n) (StandsIn f (opposite c) b x n)
  in_one n l =
      let y = nth-some (put_frame f) t.frames n (subst (λ z. n < length (frames_of f z)) (decode-file f b t i) l) in
      by y.0 y.1 (picks c y.0) refl
    where
      other : (r : Frame) (w : Bool) → picks c r ≡ w → picks (opposite c) r ≡ not w
      other r w e = picks-other c r ∙ ap not e

      by : (r : Frame) → nth t.frames n ≡ accepted r → (w : Bool) → picks c r ≡ w → ExactlyOne (StandsIn f c b d n) (StandsIn f (opposite c) b x n)
      by r e true p =
          inl (
            made f c b d t i j n r e p,
            λ y. let z : ◌≡◌ {A = Bool} true false = sym (chosen f (opposite c) b x t i k n r e y)
                ∙ other r true p in clash (cc),
          )
      by r e false p =
          inr (
            (λ y. let z : ◌≡◌ {A = Bool} true false = sym (chosen f c b d t i j n r e y) ∙ p in clash (cc)),
            made f (opposite c) b x t i k n r e (other r false p),
          )
