-- The walk over heads that are laid out from its start on, and what is laid out where a walk has gone.
-- Assumes nothing.
use Rattle.std.specs.Prelude.{◌≡◌, refl, Bool, true, false, cond, ℕ, zero, suc, ◌+◌, ◌≤◌, List, [], ◌∷◌, ◌++◌, length, drop}
use Rattle.std.proofs.Common.{sym, ap, ◌∙◌, add-zero, arith, append_assoc, length-append, length-drop, drop_of_length-le, drop-drop, drop_at}
use Rattle.std.proofs.Math.Option.{Option, none, some}
use Rattle.refusals.specs.Refusal.{not_found}
use Rattle.fields.specs.Lists.{concat_map, Each, clash, part-there}
use Rattle.fields.specs.Number.{Bytes, bytes_drop}
use Rattle.fields.specs.Word.{same_bytes, same_bytes_lem}
use Rattle.fields.specs.Answer.{Answer, accepted, refused, next, refused-one, never}
use Rattle.fields.specs.Reader.{step_at}
use Rattle.fields.specs.At.{step_read, step_end}
use Rattle.fields.specs.Element.{nth}
use Rattle.gdb_format.specs.Trace.{mark, put_mark, put_data}
use Rattle.gdb_format.specs.Decode.{frame_head, ending}
use Rattle.gdb_format.specs.FrameBytes.{head_bytes, head-long, head_first, frame-long}
use Rattle.gdb_format.specs.ExactFrame.{HeadFits, exact_head, takes-head}
use Rattle.gdb_format.specs.declared.Format.{Format}
use Rattle.gdb_read.specs.Steps.{Row, head_seen}
use Rattle.gdb_frames.specs.Nth.{found_by}
use Rattle.gdb_frames.specs.Places.{placed, part}
use Rattle.gdb_frames.specs.Questions.{data_in}
use Rattle.gdb_seek.specs.Walk.{before_end, head_or_end, Walk, ends_at, goes_on, past, walk_to}
use Rattle.gdb_seek.specs.Turns.{no-mark, head-turn, reached_here}
use Rattle.gdb_seek.specs.Numbers.{place-numbers}

-- ---- what stands at a place

laid_end : (d : List ℕ) (m : Bool) → ending d ≡ some m → d ≡ put_mark m
laid_end [] m e = let k : m ≡ false = cc in rw k
laid_end (x ∷ xs) m e = by (same_bytes (x ∷ xs) mark) refl e
  where
    by : (t : Bool) → same_bytes (x ∷ xs) mark ≡ t → cond t (some true) none ≡ some m → x ∷ xs ≡ put_mark m
    by true i e = let k : m ≡ true = cc in rw k (same_bytes_lem (x ∷ xs) mark i)
    by false i e = clash (cc)

module _ (f : Format) (b : List ℕ) (at : ℕ) where
  -- the end, with the mark or without
  pub end-here : (m : Bool) → drop at b ≡ put_mark m → head_or_end f b at ≡ accepted none
  end-here true e = rw e
  end-here false e = rw e

  pub here_end : head_or_end f b at ≡ accepted none → (m : Bool) × (drop at b ≡ put_mark m)
  here_end e = by (ending (drop at b)) refl e
    where
      by : (x : Option Bool) → ending (drop at b) ≡ x → before_end x (step_at head_seen (frame_head f) b at) ≡ accepted none → (m : Bool) × (drop at b ≡ put_mark m)
      by (some m) i e = (m, laid_end (drop at b) m i)
      by none i e = (false, drop_of_length-le b (step_end head_seen (frame_head f) (takes-head f) b at e))

  -- a head with its data
  module _ (h : ℕ × List ℕ) (rest : List ℕ) (e : drop at b ≡ put_data f h ++ rest) where
    fills : at + length (put_data f h) + length rest ≡ length b
    fills = omega (arith, ap length e, length-append (put_data f h) rest, length-drop at b, frame-long f h)

    pub rest-here : drop (at + length (put_data f h)) b ≡ rest
    rest-here = sym (drop-drop (length (put_data f h)) at b) ∙ ap (drop (length (put_data f h))) e ∙ drop_at (put_data f h) rest (length (put_data f h)) refl

    -- the data that it shows are its own
    pub data_here : part b (accepted (data_in (head_seen at h))) ≡ h.1
    data_here = rw (head-long f h) at (part-there b at (head_bytes f h) h.1 rest (head_first f h rest ∙ sym e))

    no-mark-here : same_bytes (drop at b) mark ≡ false
    no-mark-here = by (same_bytes (drop at b) mark) refl
      where
        by : (t : Bool) → same_bytes (drop at b) mark ≡ t → t ≡ false
        by true i = absurd (omega (arith, ap length (same_bytes_lem (drop at b) mark i), length-drop at b, fills, frame-long f h))
        by false i = refl

    pub head-here : HeadFits h → head_or_end f b at ≡ accepted (some (head_seen at h, at + length (put_data f h)))
    head-here g =
        sym (no-mark f b at no-mark-here refl)
        ∙ step_read head_seen (frame_head f) b at h (at + length (put_data f h)) (omega (arith, fills, frame-long f h)) (omega (arith, fills))
        (ap (frame_head f) e ∙ (exact_head f).back h rest g ∙ ap (λ r. accepted (h, r)) (sym rest-here))

  -- what was met there
  pub here-head : Bytes b → (r : Row) (m : ℕ) → head_or_end f b at ≡ accepted (some (r, m))
      → (h : ℕ × List ℕ) × HeadFits h × (drop at b ≡ put_data f h ++ drop m b) × (head_seen at h ≡ r) × (m ≡ at + length (put_data f h))
  here-head w r m e =
      let t = head-turn f b at (sym e) in
      let q = (exact_head f).forth (drop at b) t.element (drop m b) (bytes_drop at b w) t.read in (
        t.element,
        q.0,
        sym q.1,
        t.shown,
        omega (
          arith,
          ap length q.1,
          length-append (put_data f t.element) (drop m b),
          length-drop at b,
          length-drop m b,
          t.within,
          t.later,
        ),
      )

-- ---- laid out, and then walked

module _ (f : Format) (b : List ℕ) {A : Type 0} (to : A → ℕ × List ℕ) where
  abbrev put : A → List ℕ
  put x = put_data f (to x)

  -- a walk past them must meet an end
  pub walk_laid : (n : ℕ) (xs : List A) (at : ℕ) (rest : List ℕ) → (length xs ≤ n → (m : Bool) × (rest ≡ put_mark m)) → Each (λ x. HeadFits (to x)) xs
      → drop at b ≡ concat_map put xs ++ rest
      → (walk_to f b n at).reached ≡ next (nth (placed put at xs) n) (λ r. accepted (head_seen r.0 (to r.1)))
  walk_laid zero [] at rest z g e = let m = z (omega arith) in rw (end-here f b at m.0 (e ∙ m.1))
  walk_laid (suc n) [] at rest z g e = let m = z (omega arith) in rw (end-here f b at m.0 (e ∙ m.1))
  walk_laid zero (x ∷ xs) at rest z g e =
      rw (head-here f b at (to x) (concat_map put xs ++ rest) (e ∙ append_assoc (put x) (concat_map put xs) rest) g.0)
  walk_laid (suc n) (x ∷ xs) at rest z g e =
      let i : drop at b ≡ put x ++ (concat_map put xs ++ rest) = e ∙ append_assoc (put x) (concat_map put xs) rest in
      rw (head-here f b at (to x) (concat_map put xs ++ rest) i g.0)
      (walk_laid n xs (at + length (put x)) rest (λ k. z (omega (arith, k))) g.1 (rest-here f b at (to x) (concat_map put xs ++ rest) i))

-- a walk over these heads, the first of which stands at `at`; and what it does where they end
abbrev pub over : Format → ℕ → List (ℕ × List ℕ) → (ℕ → Walk) → Walk
over f at [] last = last at
over f at (h ∷ hs) last = goes_on at (over f (at + length (put_data f h)) hs last)

pub over_reached : (f : Format) (at : ℕ) (hs : List (ℕ × List ℕ)) (last : ℕ → Walk)
    → (over f at hs last).reached ≡ (last (at + length (concat_map (put_data f) hs))).reached
over_reached f at [] last = ap (λ m. (last m).reached) (sym (add-zero at))
over_reached f at (h ∷ hs) last =
    let i : at + length (put_data f h) + length (concat_map (put_data f) hs) ≡ at + length (concat_map (put_data f) (h ∷ hs)) =
    omega (arith, length-append (put_data f h) (concat_map (put_data f) hs)) in
    over_reached f (at + length (put_data f h)) hs last ∙ ap (λ m. (last m).reached) i

module _ (f : Format) (b : List ℕ) where
  -- no head stands at a place: the walk ends there
  stops : (n at k : ℕ) → next (head_or_end f b at) (found_by (λ v. v)) ≡ refused k → walk_to f b n at ≡ ends_at at (refused k)
  stops zero at k e = ap (ends_at at) e
  stops (suc n) at k e = by (head_or_end f b at) e
    where
      by : (x : Answer (Option (Row × ℕ))) → next x (found_by (λ v. v)) ≡ refused k → past at (walk_to f b n) x ≡ ends_at at (refused k)
      by (refused j) e = ap (λ j. ends_at at (refused j)) (refused-one e)
      by (accepted none) e = ap (λ j. ends_at at (refused j)) (refused-one e)
      by (accepted (some v)) e = never (sym e)

  -- at most n heads, and then none
  pub walk_stops : (n k : ℕ) (hs : List (ℕ × List ℕ)) (at : ℕ) (rest : List ℕ) → length hs ≤ n → Each HeadFits hs → drop at b ≡ concat_map (put_data f) hs ++ rest
      → ((m : ℕ) → drop m b ≡ rest → next (head_or_end f b m) (found_by (λ v. v)) ≡ refused k)
      → walk_to f b n at ≡ over f at hs (λ m. ends_at m (refused k))
  walk_stops n k [] at rest l g e s = stops n at k (s at e)
  walk_stops zero k (h ∷ hs) at rest l g e s = absurd (omega (arith, l))
  walk_stops (suc n) k (h ∷ hs) at rest l g e s =
      let more = concat_map (put_data f) hs ++ rest in
      let there : drop at b ≡ put_data f h ++ more = e ∙ append_assoc (put_data f h) (concat_map (put_data f) hs) rest in
      rw (head-here f b at h more there g.0)
      (ap (goes_on at) (walk_stops n k hs (at + length (put_data f h)) rest (omega (arith, l)) g.1 (rest-here f b at h more there) s))

  -- n heads, and then one more
  pub walk_meets : (hs : List (ℕ × List ℕ)) (h : ℕ × List ℕ) (at : ℕ) (rest : List ℕ) → Each HeadFits hs → HeadFits h
      → drop at b ≡ concat_map (put_data f) hs ++ (put_data f h ++ rest)
      → walk_to f b (length hs) at ≡ over f at hs (λ m. ends_at m (accepted (head_seen m h)))
  walk_meets [] h at rest g fit e = rw (head-here f b at h rest e fit)
  walk_meets (x ∷ hs) h at rest g fit e =
      let more = concat_map (put_data f) hs ++ (put_data f h ++ rest) in
      let there : drop at b ≡ put_data f x ++ more = e ∙ append_assoc (put_data f x) (concat_map (put_data f) hs) (put_data f h ++ rest) in
      rw (head-here f b at x more there g.0) (ap (goes_on at) (walk_meets hs h (at + length (put_data f x)) rest g.1 fit (rest-here f b at x more there)))

-- ---- walked, and so laid out

-- `more` stands behind heads of these
abbrev pub Laid : Format → List ℕ → ℕ → List (ℕ × List ℕ) → List ℕ → Type 0
Laid f b at hs more = Each HeadFits hs × (drop at b ≡ concat_map (put_data f) hs ++ more)

module _ (f : Format) (b : List ℕ) (w : Bytes b) where
  one_more : (at m : ℕ) (h : ℕ × List ℕ) (hs : List (ℕ × List ℕ)) (more : List ℕ) → HeadFits h → drop at b ≡ put_data f h ++ drop m b → Laid f b m hs more
      → Laid f b at (h ∷ hs) more
  one_more at m h hs more g e l =
      ((g, l.0), e ∙ ap (λ d. put_data f h ++ d) l.1 ∙ sym (append_assoc (put_data f h) (concat_map (put_data f) hs) more))

  -- n heads and then one more, which shows r
  abbrev pub Passed : ℕ → ℕ → Row → Type 0
  Passed n at r =
      (hs : List (ℕ × List ℕ)) × (h : ℕ × List ℕ) × (rest : List ℕ)
      × (length hs ≡ n) × HeadFits h × Laid f b at hs (put_data f h ++ rest) × (head_seen (at + length (concat_map (put_data f) hs)) h ≡ r)

  pub walked-past : (n at : ℕ) (r : Row) → (walk_to f b n at).reached ≡ accepted r → Passed n at r
  walked-past zero at r e =
      let q = reached_here f b at r e in
      let h = here-head f b at w r q.0 (sym q.1) in
      ([], h.0, drop q.0 b, refl, h.1, (tt, h.2), ap (λ a. head_seen a h.0) (add-zero at) ∙ h.3)
  walked-past (suc n) at r e = by (head_or_end f b at) refl e (λ m. walked-past n m r)
    where
      by : (x : Answer (Option (Row × ℕ))) → head_or_end f b at ≡ x → (past at (walk_to f b n) x).reached ≡ accepted r
          → ((m : ℕ) → (walk_to f b n m).reached ≡ accepted r → Passed n m r) → Passed (suc n) at r
      by (refused k) i e g = never e
      by (accepted none) i e g = never e
      by (accepted (some v)) i e g =
          let h = here-head f b at w v.0 v.1 i in
          let p = g v.1 e in
          let long : at + length (concat_map (put_data f) (h.0 ∷ p.0)) ≡ v.1 + length (concat_map (put_data f) p.0) =
          omega (arith, h.4, length-append (put_data f h.0) (concat_map (put_data f) p.0)) in (
            h.0 ∷ p.0,
            p.1,
            p.2,
            ap suc p.3,
            p.4,
            one_more at v.1 h.0 p.0 (put_data f p.1 ++ p.2) h.1 h.2 p.5,
            ap (λ a. head_seen a p.1) long ∙ p.6,
          )

  -- the last of them, where it stands, and its data
  module _ (n at : ℕ) (r : Row) (p : Passed n at r) where
    pub passed-there : drop (at + length (concat_map (put_data f) p.0)) b ≡ put_data f p.1 ++ p.2
    passed-there =
        let hs = concat_map (put_data f) p.0 in
        sym (drop-drop (length hs) at b) ∙ ap (drop (length hs)) p.5.1 ∙ drop_at hs (put_data f p.1 ++ p.2) (length hs) refl

    pub own_data : part b (accepted (data_in r)) ≡ p.1.1
    own_data =
        ap (λ v. part b (accepted (data_in v))) (sym p.6)
        ∙ data_here f b (at + length (concat_map (put_data f) p.0)) p.1 p.2 passed-there

  -- at most n heads, and then the end
  abbrev pub Short : ℕ → ℕ → Type 0
  Short n at = (hs : List (ℕ × List ℕ)) × (m : Bool) × (length hs ≤ n) × Laid f b at hs (put_mark m)

  ended : (n at : ℕ) → head_or_end f b at ≡ accepted none → Short n at
  ended n at e = let q = here_end f b at e in ([], q.0, omega arith, (tt, q.1))

  pub walked-short : (n at : ℕ) → (walk_to f b n at).reached ≡ refused not_found → Short n at
  walked-short zero at e = by (head_or_end f b at) refl e
    where
      by : (x : Answer (Option (Row × ℕ))) → head_or_end f b at ≡ x → next x (found_by (λ r. r)) ≡ refused not_found → Short 0 at
      by (refused k) i e = let j : k ≡ not_found = refused-one e in absurd ((place-numbers f b at).only not_found (i ∙ ap refused j))
      by (accepted none) i e = ended 0 at i
      by (accepted (some v)) i e = never (sym e)
  walked-short (suc n) at e = by (head_or_end f b at) refl e (walked-short n)
    where
      by : (x : Answer (Option (Row × ℕ))) → head_or_end f b at ≡ x → (past at (walk_to f b n) x).reached ≡ refused not_found
          → ((m : ℕ) → (walk_to f b n m).reached ≡ refused not_found → Short n m) → Short (suc n) at
      by (refused k) i e g = let j : k ≡ not_found = refused-one e in absurd ((place-numbers f b at).only not_found (i ∙ ap refused j))
      by (accepted none) i e g = ended (suc n) at i
      by (accepted (some v)) i e g =
          let h = here-head f b at w v.0 v.1 i in
          let p = g v.1 e in
          (h.0 ∷ p.0, p.1, omega (arith, p.2), one_more at v.1 h.0 p.0 (put_mark p.1) h.1 h.2 p.3)
