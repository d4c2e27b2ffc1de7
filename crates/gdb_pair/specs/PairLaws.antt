-- A pair answers as the join does: the part of frame n, and the value of a variable in it.
-- Assumes nothing.
use Rattle.std.specs.Prelude.{◌≡◌, refl, Bool, true, false, cond, ℕ, zero, suc, ◌+◌, ◌-◌, ◌<◌, ◌≤◌, List, [], ◌∷◌, ◌++◌, length, take, drop, ltb}
use Rattle.std.proofs.Common.{sym, ap, ◌∙◌, subst, arith, ltb-true, ltb-false, lt-ltb, le-ltb}
use Rattle.fields.specs.Lists.{part-front}
use Rattle.fields.specs.Number.{Bytes}
use Rattle.fields.specs.Answer.{Answer, accepted, refused, next, next_inv, next_assoc, never, accepted-one}
use Rattle.gdb_format.specs.Trace.{Frame, Trace, opening, put_frame, data_of}
use Rattle.gdb_format.specs.Settings.{settings_of}
use Rattle.gdb_format.specs.Decode.{read}
use Rattle.gdb_format.specs.Exactness.{read_exactness}
use Rattle.gdb_format.specs.declared.Settings.{Settings}
use Rattle.gdb_format.specs.declared.Format.{Format}
use Rattle.gdb_read.specs.Steps.{frames_end, Summary, summary_of, frame_seen}
use Rattle.gdb_frames.specs.Places.{frames_at, part, part_named}
use Rattle.gdb_frames.specs.Questions.{asked, data_in, frame_data}
use Rattle.gdb_frames.specs.Nth.{nth_head, nth-found}
use Rattle.gdb_frames.specs.File.{File}
use Rattle.gdb_frames.specs.PlaceLaws.{placed-nth, placed-is, InFile, handed, frame-within, data_there}
use Rattle.gdb_frames.specs.Located.{head-front}
use Rattle.gdb_blocks.specs.Search.{variable_at}
use Rattle.gdb_join.specs.Join.{join, join_of}
use Rattle.gdb_join.specs.JoinTraces.{layout_join}
use Rattle.gdb_frames.specs.File.{read-file, same_lines}
use Rattle.fields.specs.Word.{same_bytes_lem}
use Rattle.fields.specs.Element.{nth}
use Rattle.gdb_join.specs.JoinLaws.{Both, Paired, join_inv, pair-gives}
use Rattle.gdb_pair.specs.Pair.{Side, first, second, on_side, sided, pair_place, pair_part, HandedPair, pair_variable, found_place}

-- ---- a pair that can be joined

-- both files, their join, and that it is read as the joined trace
pub record Joined (s : Settings) (a b c : List ℕ) (f : Format) (t u : Trace) : Type 0 where
  pub both : Both s a b f t u
  pub gives : join_of s a b ≡ accepted c
  pub join-file : File f c (join t u)
  pub join-read : read s c ≡ accepted (f, join t u)

pub joined : (s : Settings) (a b c : List ℕ) → Bytes a → Bytes b → join_of s a b ≡ accepted c → (f : Format) × (t : Trace) × (u : Trace) × Joined s a b c f t u
joined s a b c ha hb e =
    let q = join_inv s a b c ha hb e in
    let f = q.0 in
    let t = q.1 in
    let u = q.2 in
    let i = q.3 in
    let l : t.lines ≡ u.lines = same_lines f t.lines u.lines i.first-file.fits.lines_fit i.second-file.fits.lines_fit (same_bytes_lem _ _ q.4)
    in
    let j : File f c (join t u) = record { fits = layout_join f t u i.first-file.fits i.second-file.fits l q.5; laid_out = q.6 } in
    let ok : settings_of s ≡ accepted f = ((read_exactness s a f t ha).0 i.first_read).0 in
    (f, t, u, record { both = i; gives = e; join-file = j; join-read = read-file s f c (join t u) ok j })

-- a fact of a pair that can be joined, told of what the pair's answer says
pair-told : {s : Settings} {a b : List ℕ} {m k : Summary} → Paired s a b m k → (P : Summary → Summary → Type 0)
    → ((c : List ℕ) (f : Format) (t u : Trace) → Joined s a b c f t u → P (summary_of f t) (summary_of f u)) → P m k
pair-told {s} {a} {b} {m} {k} w P base =
    let p = next_inv (join_of s a b) _ (sym w.seen) in
    let q = joined s a b p.0 w.first-bytes w.second-bytes p.1 in
    let i : ◌≡◌ {A = Summary × Summary} (summary_of q.0 q.1, summary_of q.0 q.2) (m, k) =
    accepted-one (pair-gives q.3.both p.0 p.1 ∙ sym w.seen) in
    subst (λ (z : Summary × Summary). P z.0 z.1) i (base p.0 q.0 q.1 q.2 q.3)

-- ---- frame n

found_data : (f : Format) (b : List ℕ) (t : Trace) (n : ℕ) → File f b t
    → found_place (nth_head f (take (frames_end f t) b) n (length (opening t.lines))) ≡ frame_data n f t
found_data f b t n i =
    ap found_place (head-front f b t n i) ∙ nth-found (frame_seen f) (put_frame f) data_in (frames_at f t) n
    ∙ sym (next_assoc (nth (frames_at f t) n) (λ r. accepted (frame_seen f r.0 r.1)) (λ v. accepted (data_in v)))

module _ (s : Settings) (a b c : List ℕ) (f : Format) (t u : Trace) (i : Joined s a b c f t u) (n : ℕ) where
  pub place_is : pair_place s a b n ≡ sided f n t u
  unfolding pair_place
  place_is = rw (i.gives, i.both.first_read, i.both.second-read)

  place-first : n < length t.frames → (x : Answer (ℕ × ℕ)) → x ≡ found_place (nth_head f (take (frames_end f t) a) n (length (opening t.lines)))
      → on_side first x ≡ pair_place s a b n
  place-first h x e = sym (place_is ∙ rw (lt-ltb n (length t.frames) h, ← found_data f a t n i.both.first-file, ← e))

  place-second : length t.frames ≤ n → (x : Answer (ℕ × ℕ))
      → x ≡ found_place (nth_head f (take (frames_end f u) b) (n - length t.frames) (length (opening u.lines))) → on_side second x ≡ pair_place s a b n
  place-second h x e = sym (place_is ∙ rw (le-ltb n (length t.frames) h, ← found_data f b u (n - length t.frames) i.both.second-file, ← e))

-- ---- the part is frame n's of the join

-- a frame's data, where the frame is there
abbrev frame_bytes : Format → Answer Frame → List ℕ
frame_bytes f (accepted r) = data_of f r
frame_bytes f (refused n) = []

abbrev pub place_of : Format → Answer (ℕ × Frame) → Answer (ℕ × ℕ)
place_of f x = next (next x (λ r. accepted (frame_seen f r.0 r.1))) (λ v. accepted (data_in v))

pub frame-part : (f : Format) (b : List ℕ) (t : Trace) (n : ℕ) → File f b t
    → (part b (frame_data n f t) ≡ frame_bytes f (nth t.frames n)) × InFile b (frame_data n f t)
frame-part f b t n i = by (nth (frames_at f t) n) refl
  where
    by : (x : Answer (ℕ × Frame)) → nth (frames_at f t) n ≡ x → (part b (place_of f x) ≡ frame_bytes f (nth t.frames n)) × InFile b (place_of f x)
    by (accepted r) e =
        let w = frame-within f b t i n r.0 r.1 e in
        let d : take (length (data_of f r.1)) (drop (r.0 + 6) b) ≡ data_of f r.1 = sym (part-front b (r.0 + 6) (length (data_of f r.1)) w)
        ∙ data_there f b t i n r.0 r.1 e in
        let x = placed-is (put_frame f) t.frames (length (opening t.lines)) n r.0 r.1 e in
        (d ∙ sym (ap (frame_bytes f) x), λ y z. let q = accepted-one z in omega (arith, w, ap (λ (z : ℕ × ℕ). z.0) q, ap (λ (z : ℕ × ℕ). z.1) q))
    by (refused j) e =
        let i = placed-nth (put_frame f) t.frames (length (opening t.lines)) n in
        let x : nth t.frames n ≡ refused j = sym i ∙ ap (λ y. next y (λ r. accepted r.1)) e in
        (sym (ap (frame_bytes f) x), λ y z. never z)

module _ {A : Type 0} where
  pub nth-first : (l m : List A) (n : ℕ) → n < length l → nth (l ++ m) n ≡ nth l n
  nth-first [] m n h = absurd (omega arith)
  nth-first (x ∷ l) m zero h = refl
  nth-first (x ∷ l) m (suc n) h = nth-first l m n (omega arith)

  pub nth-second : (l m : List A) (n : ℕ) → length l ≤ n → nth (l ++ m) n ≡ nth m (n - length l)
  nth-second [] m n h = ap (nth m) (omega arith)
  nth-second (x ∷ l) m zero h = absurd (omega arith)
  nth-second (x ∷ l) m (suc n) h = nth-second l m n (omega arith) ∙ ap (nth m) (omega arith)

part-first : (a b : List ℕ) (x : Answer (ℕ × ℕ)) → pair_part a b (on_side first x) ≡ part a x
part-first a b (accepted r) = refl
part-first a b (refused m) = refl

part-second : (a b : List ℕ) (x : Answer (ℕ × ℕ)) → pair_part a b (on_side second x) ≡ part b x
part-second a b (accepted r) = refl
part-second a b (refused m) = refl

module _ (s : Settings) (a b c : List ℕ) (f : Format) (t u : Trace) (i : Joined s a b c f t u) (n : ℕ) where
  by_side : (w : Bool) → ltb n (length t.frames) ≡ w
      → pair_part a b (cond w (on_side first (frame_data n f t)) (on_side second (frame_data (n - length t.frames) f u)))
      ≡ frame_bytes f (nth (t.frames ++ u.frames) n)
  by_side true e =
      part-first a b (frame_data n f t) ∙ (frame-part f a t n i.both.first-file).0
      ∙ ap (frame_bytes f) (sym (nth-first t.frames u.frames n (ltb-true n (length t.frames) e)))
  by_side false e =
      part-second a b (frame_data (n - length t.frames) f u) ∙ (frame-part f b u (n - length t.frames) i.both.second-file).0
      ∙ ap (frame_bytes f) (sym (nth-second t.frames u.frames n (ltb-false n (length t.frames) e)))

  pub asked-join : asked s c (frame_data n) ≡ frame_data n f (join t u)
  asked-join = rw i.join-read

  part-is : pair_part a b (pair_place s a b n) ≡ part c (asked s c (frame_data n))
  part-is =
      ap (pair_part a b) (place_is s a b c f t u i n) ∙ by_side (ltb n (length t.frames)) refl
      ∙ sym (frame-part f c (join t u) n i.join-file).0 ∙ ap (part c) (sym asked-join)

-- "It equals frame n of the join."
pub pair-is-join : (s : Settings) (a b c : List ℕ) (n : ℕ) → Bytes a → Bytes b → join_of s a b ≡ accepted c
    → pair_part a b (pair_place s a b n) ≡ part c (asked s c (frame_data n))
pair-is-join s a b c n ha hb e = let q = joined s a b c ha hb e in part-is s a b c q.0 q.1 q.2 q.3 n

-- ---- the part that is handed back

-- a place lies in the trace that it names
SideIn : List ℕ → List ℕ → Side → ℕ × ℕ → Type 0
SideIn a b first r = r.0 + r.1 ≤ length a
SideIn a b second r = r.0 + r.1 ≤ length b

side_in : (s : Settings) (a b : List ℕ) (n : ℕ) (x : Side) (r : ℕ × ℕ) → Bytes a → Bytes b → accepted (x, r) ≡ pair_place s a b n → SideIn a b x r
unfolding SideIn pair_place
side_in s a b n x r ha hb e =
    let p = next_inv (join_of s a b) _ (sym e) in
    let q = joined s a b p.0 ha hb p.1 in
    let i = q.3 in
    by q.0 q.1 q.2 i (ltb n (length q.1.frames)) (sym (e ∙ place_is s a b p.0 q.0 q.1 q.2 i n))
  where
    one : (f : Format) (t : Trace) (d : List ℕ) (k : ℕ) (y z : Side) → File f d t → on_side y (frame_data k f t) ≡ accepted (z, r)
        → (y ≡ z) × (r.0 + r.1 ≤ length d)
    one f t d k y z i e =
        let q = next_inv (frame_data k f t) (λ r. accepted (y, r)) e in
        let w : ◌≡◌ {A = Side × (ℕ × ℕ)} (y, q.0) (z, r) = accepted-one q.2 in
        let v = (frame-part f d t k i).1 q.0 q.1 in
        (ap (λ (u : Side × (ℕ × ℕ)). u.0) w, omega (arith, v, ap (λ (u : Side × (ℕ × ℕ)). u.1.0) w, ap (λ (u : Side × (ℕ × ℕ)). u.1.1) w))

    by : {c : List ℕ} (f : Format) (t u : Trace) → Joined s a b c f t u → (w : Bool)
        → cond w (on_side first (frame_data n f t)) (on_side second (frame_data (n - length t.frames) f u)) ≡ accepted (x, r) → SideIn a b x r
    by f t u i true e = let q = one f t a n first x i.both.first-file e in subst (λ y. SideIn a b y r) q.0 q.1
    by f t u i false e = let q = one f u b (n - length t.frames) second x i.both.second-file e in subst (λ y. SideIn a b y r) q.0 q.1

pub handed_none : (a b r : List ℕ) (x : Answer (Side × (ℕ × ℕ))) (n : ℕ) → refused n ≡ x → r ≡ [] → HandedPair a b x r
handed_none a b r x n e g = rw (← e, g) (record { is-part = refl; is-long = refl })

pub handed_first : (s : Settings) (a b r : List ℕ) (n : ℕ) (q : ℕ × ℕ) → Bytes a → Bytes b → accepted (first, q) ≡ pair_place s a b n
    → r ≡ part_named a (accepted q) → HandedPair a b (pair_place s a b n) r
unfolding SideIn
handed_first s a b r n q ha hb e g =
    let k = side_in s a b n first q ha hb e in
    let w = handed a r (accepted q) (λ y z. let i = accepted-one z in omega (arith, k, ap (λ (z : ℕ × ℕ). z.0) i, ap (λ (z : ℕ × ℕ). z.1) i)) g in
    rw (← e) (record { is-part = w.is-part; is-long = w.is-long })

pub handed_second : (s : Settings) (a b r : List ℕ) (n : ℕ) (q : ℕ × ℕ) → Bytes a → Bytes b → accepted (second, q) ≡ pair_place s a b n
    → r ≡ part_named b (accepted q) → HandedPair a b (pair_place s a b n) r
unfolding SideIn
handed_second s a b r n q ha hb e g =
    let k = side_in s a b n second q ha hb e in
    let w = handed b r (accepted q) (λ y z. let i = accepted-one z in omega (arith, k, ap (λ (z : ℕ × ℕ). z.0) i, ap (λ (z : ℕ × ℕ). z.1) i)) g in
    rw (← e) (record { is-part = w.is-part; is-long = w.is-long })

-- ---- variables

module _ (s : Settings) (a b c : List ℕ) (f : Format) (t u : Trace) (i : Joined s a b c f t u) (n v : ℕ) where
  variable_join : pair_variable s a b n v ≡ variable_at n v f (join t u)
  unfolding pair_variable
  variable_join = rw (i.gives, i.join-read)

  variable_first : n < length t.frames → asked s a (variable_at n v) ≡ pair_variable s a b n v
  variable_first h = rw (i.both.first_read, ← nth-first t.frames u.frames n h) (sym variable_join)

  variable_second : length t.frames ≤ n → asked s b (variable_at (n - length t.frames) v) ≡ pair_variable s a b n v
  variable_second h = rw (i.both.second-read, ← nth-second t.frames u.frames n h) (sym variable_join)

pub variable_refused : (s : Settings) (a b : List ℕ) (n v k : ℕ) → join_of s a b ≡ refused k → refused k ≡ pair_variable s a b n v
unfolding pair_variable
variable_refused s a b n v k e = rw e

pub place-refused : (s : Settings) (a b : List ℕ) (n k : ℕ) → join_of s a b ≡ refused k → refused k ≡ pair_place s a b n
unfolding pair_place
place-refused s a b n k e = rw e

-- ---- the same by what the pair's answer says, as the code tests it

module _ {s : Settings} {a b : List ℕ} {m k : Summary} (w : Paired s a b m k) (n : ℕ) where
  pub first-told : n < m.frames → (x : Answer (ℕ × ℕ)) → x ≡ found_place (nth_head m.format (take m.end a) n m.start)
      → on_side first x ≡ pair_place s a b n
  first-told =
      pair-told w
      (λ m k. n < m.frames → (x : Answer (ℕ × ℕ)) → x ≡ found_place (nth_head m.format (take m.end a) n m.start) → on_side first x ≡ pair_place s a b n)
      (λ c f t u i. place-first s a b c f t u i n)

  pub second-told : m.frames ≤ n → (x : Answer (ℕ × ℕ)) → x ≡ found_place (nth_head k.format (take k.end b) (n - m.frames) k.start)
      → on_side second x ≡ pair_place s a b n
  second-told =
      pair-told w
      (λ m k. m.frames ≤ n → (x : Answer (ℕ × ℕ)) → x ≡ found_place (nth_head k.format (take k.end b) (n - m.frames) k.start)
      → on_side second x ≡ pair_place s a b n)
      (λ c f t u i. place-second s a b c f t u i n)

  pub value-first : (v : ℕ) → n < m.frames → asked s a (variable_at n v) ≡ pair_variable s a b n v
  value-first v =
      pair-told w (λ m k. n < m.frames → asked s a (variable_at n v) ≡ pair_variable s a b n v) (λ c f t u i. variable_first s a b c f t u i n v)

  pub value-second : (v : ℕ) → m.frames ≤ n → asked s b (variable_at (n - m.frames) v) ≡ pair_variable s a b n v
  value-second v =
      pair-told w (λ m k. m.frames ≤ n → asked s b (variable_at (n - m.frames) v) ≡ pair_variable s a b n v) (λ c f t u i. variable_second s a b c f t u i n v)
