-- What `join_of` gives in each case that the code tells apart, and what an accepted join tells of its two files.
-- Assumes nothing.
use Rattle.std.specs.Prelude.{◌≡◌, refl, Bool, true, false, cond, ◌||◌, ℕ, ◌+◌, ◌-◌, ◌*◌, ◌<◌, ◌≤◌, List, ◌++◌, length, take, drop, get_or, leb, Result, Ok}
use Rattle.std.proofs.Math.Path.{sym, ap, ap₂}
use Rattle.std.proofs.Common.{◌∙◌, subst, arith, append_assoc, Fits, le-leb, leb-true}
use Rattle.std.specs.Int.{w8}
use Rattle.std.proofs.lemmas.Bool.{lt-leb}
use Rattle.refusals.specs.declared.Refusal.{Refusal}
use Rattle.refusals.specs.Refusal.{limit, too_long, openings_differ}
use Rattle.fields.specs.Lists.{concat_map, concat_map-append}
use Rattle.fields.specs.Given.{bytes-given, at_case}
use Rattle.fields.specs.Word.{same_bytes, same_bytes_lem, bytes_same}
use Rattle.fields.specs.Number.{Bytes}
use Rattle.fields.specs.Answer.{Answer, accepted, refused, next_inv, refused_inv, cond_inv, never, accepted-one, refused-one}
use Rattle.gdb_format.specs.Trace.{Trace, opening, put_frame, put_mark, encode}
use Rattle.gdb_format.specs.Settings.{settings_of}
use Rattle.gdb_format.specs.Decode.{read}
use Rattle.gdb_format.specs.Exactness.{read_exactness}
use Rattle.gdb_format.specs.declared.Settings.{Settings}
use Rattle.gdb_format.specs.declared.Format.{Format}
use Rattle.gdb_read.specs.Steps.{length-encode, Summary, summary_of, read_seen, opened_meaning}
use Rattle.gdb_frames.specs.File.{File, WasRead, file_of_lem, frames-front, frames-part, frames_last, start-within, opening-front, summary_inv}
use Rattle.gdb_join.specs.Join.{join, within_limit, join_of}
use Rattle.gdb_join.specs.JoinTraces.{length-join}
use Rattle.gdb_join.specs.Joined.{pair_seen, pair_meaning}
use Rattle.gdb_join.specs.declared.Pair.{Pair}

-- ---- refusals of the files

module _ (s : Settings) (a b : List ℕ) where
  pub join_first : (n : ℕ) → refused n ≡ read_seen (read s a) → join_of s a b ≡ refused n
  unfolding join_of
  join_first n e = rw (refused_inv n (read s a) (λ r. summary_of r.0 r.1) e)

  join-next : (f : Format) (t : Trace) (n : ℕ) → read s a ≡ accepted (f, t) → read s b ≡ refused n → join_of s a b ≡ refused n
  unfolding join_of
  join-next f t n e g = rw (e, g)

  pub join-second : (m : Summary) (n : ℕ) → accepted m ≡ read_seen (read s a) → refused n ≡ read_seen (read s b) → join_of s a b ≡ refused n
  join-second m n e g =
      let q = summary_inv m (read s a) e in
      join-next q.0.0 q.0.1 n q.1 (refused_inv n (read s b) (λ r. summary_of r.0 r.1) g)

  -- the pair's refusal is the join's
  pub pair_of_refused : (n : ℕ) → join_of s a b ≡ refused n → refused n ≡ pair_seen s a b
  pair_of_refused n e = rw e

-- ---- both files were read

-- their traces, which have one format
pub record Both (s : Settings) (a b : List ℕ) (f : Format) (t u : Trace) : Type 0 where
  pub first_read : read s a ≡ accepted (f, t)
  pub second-read : read s b ≡ accepted (f, u)
  pub first-file : File f a t
  pub second-file : File f b u

one_format : (s : Settings) (b : List ℕ) (f g : Format) (u : Trace) → Bytes b → settings_of s ≡ accepted f → read s b ≡ accepted (g, u) → g ≡ f
one_format s b f g u h ok e = accepted-one (sym ((read_exactness s b g u h).0 e).0 ∙ ok)

both_read : (s : Settings) (a b : List ℕ) (f g : Format) (t u : Trace) → Bytes a → Bytes b → read s a ≡ accepted (f, t) → read s b ≡ accepted (g, u)
    → (g ≡ f) × Both s a b f t u
both_read s a b f g t u ha hb p q =
    let i : g ≡ f = one_format s b f g u hb ((read_exactness s a f t ha).0 p).0 q in
    let r : read s b ≡ accepted (f, u) = q ∙ ap (λ x. accepted (x, u)) i in
    (i, record { first_read = p; second-read = r; first-file = file_of_lem s a f t ha p; second-file = file_of_lem s b f u hb r })

-- a fact of both traces, told of what the two readings answer
pub both_told : {s : Settings} {a b : List ℕ} {m k : Summary} → WasRead s a m → WasRead s b k → (P : Summary → Summary → Type 0)
    → ((f : Format) (t u : Trace) → Both s a b f t u → P (summary_of f t) (summary_of f u)) → P m k
both_told {s} {a} {b} {m} {k} v w P base =
    let p = summary_inv m (read s a) v.summed in
    let q = summary_inv k (read s b) w.summed in
    let r = both_read s a b p.0.0 q.0.0 p.0.1 q.0.1 v.bytes w.bytes p.1 q.1 in
    let e : summary_of p.0.0 q.0.1 ≡ k = ap (λ f. summary_of f q.0.1) (sym r.0) ∙ q.2 in
    subst (λ x. P x k) p.2 (subst (P (summary_of p.0.0 p.0.1)) e (base p.0.0 p.0.1 q.0.1 r.1))

-- ---- the join of two such files

mark-short : (m : Bool) → length (put_mark m) ≤ 4
mark-short true = omega arith
mark-short false = omega arith

differ : (x y : List ℕ) (w : Bool) → (x ≡ y → ⊥) → same_bytes x y ≡ w → w ≡ false
differ x y true h e = absurd (h (same_bytes_lem x y e))
differ x y false h e = refl

-- the first file up to where its frames end, then the second's frames, then the mark, if either has one
abbrev pub joined_mark : Summary → Summary → List ℕ
joined_mark m k = put_mark (m.marked || k.marked)

abbrev pub joined_bytes : List ℕ → List ℕ → Summary → Summary → List ℕ
joined_bytes a b m k = (take m.end a ++ take (k.end - k.start) (drop k.start b)) ++ joined_mark m k

abbrev pub joined_length : Summary → Summary → ℕ
joined_length m k = m.end + (k.end - k.start) + length (joined_mark m k)

-- what two readings tell can be added up, and no sum runs over
abbrev pub Countable : Summary → Summary → Type 0
Countable m k = (k.start ≤ k.end) × (joined_length m k ≤ 2 * limit + 4)

module _ {s : Settings} {a b : List ℕ} {f : Format} {t u : Trace} (i : Both s a b f t u) where
  pub joined_bytes_lem : encode f (join t u) ≡ joined_bytes a b (summary_of f t) (summary_of f u)
  unfolding encode
  joined_bytes_lem =
      let o = opening t.lines in
      let x = concat_map (put_frame f) t.frames in
      let y = concat_map (put_frame f) u.frames in
      let m = put_mark (t.marked || u.marked) in
      ap (λ z. o ++ (z ++ m)) (concat_map-append (put_frame f) t.frames u.frames) ∙ sym (append_assoc o (x ++ y) m)
      ∙ ap (λ z. z ++ m)
      (sym (append_assoc o x y) ∙ ap₂ (λ v w. v ++ w) (sym (frames-front f a t i.first-file)) (sym (frames-part f b u i.second-file)))

  pub joined_long : length (encode f (join t u)) ≡ joined_length (summary_of f t) (summary_of f u)
  joined_long = omega (arith, length-join f t u)

  open_join : join_of s a b ≡ cond (same_bytes (opening t.lines) (opening u.lines)) (within_limit (encode f (join t u))) (refused openings_differ)
  unfolding join_of
  open_join = rw (i.first_read, i.second-read)

  join_differs : (take (length (opening t.lines)) a ≡ take (length (opening u.lines)) b → ⊥) → join_of s a b ≡ refused openings_differ
  join_differs h =
      let n : opening t.lines ≡ opening u.lines → ⊥ = λ e. h (opening-front f a t i.first-file ∙ e ∙ sym (opening-front f b u i.second-file)) in
      open_join ∙ rw (differ (opening t.lines) (opening u.lines) _ n refl)

  module _ (e : take (length (opening t.lines)) a ≡ take (length (opening u.lines)) b) where
    same_openings : same_bytes (opening t.lines) (opening u.lines) ≡ true
    same_openings =
        let o : opening t.lines ≡ opening u.lines = sym (opening-front f a t i.first-file) ∙ e ∙ opening-front f b u i.second-file in
        ap (λ x. same_bytes x (opening u.lines)) o ∙ bytes_same (opening u.lines)

    join-long : limit < joined_length (summary_of f t) (summary_of f u) → join_of s a b ≡ refused too_long
    join-long h = open_join ∙ rw (same_openings, lt-leb (length (encode f (join t u))) limit (omega (arith, joined_long)))

    join-gives : joined_length (summary_of f t) (summary_of f u) ≤ limit → join_of s a b ≡ accepted (encode f (join t u))
    join-gives h = open_join ∙ rw (same_openings, le-leb (length (encode f (join t u))) limit (omega (arith, joined_long)))

  pub pair-gives : (c : List ℕ) → join_of s a b ≡ accepted c → accepted (summary_of f t, summary_of f u) ≡ pair_seen s a b
  pair-gives c e = rw (e, i.first_read, i.second-read)

-- ---- the same by what the readings answer, as the code tests it

module _ {s : Settings} {a b : List ℕ} {m k : Summary} (v : WasRead s a m) (w : WasRead s b k) where
  pub countable : Countable m k
  countable =
      both_told v w Countable (λ f t u i. (
        omega arith,
        omega (
          arith,
          i.first-file.fits.length-fits,
          i.second-file.fits.length-fits,
          length-encode f t,
          length-encode f u,
          mark-short (t.marked || u.marked),
        ),
      ))

  pub first-start : m.start ≤ length a
  first-start = both_told v w (λ m k. m.start ≤ length a) (λ f t u i. start-within f a t i.first-file)

  pub second-start : k.start ≤ length b
  second-start = both_told v w (λ m k. k.start ≤ length b) (λ f t u i. start-within f b u i.second-file)

  pub pair_differs : (take m.start a ≡ take k.start b → ⊥) → refused openings_differ ≡ pair_seen s a b
  pair_differs =
      both_told v w (λ m k. (take m.start a ≡ take k.start b → ⊥) → refused openings_differ ≡ pair_seen s a b)
      (λ f t u i h. pair_of_refused s a b openings_differ (join_differs i h))

  pub pair-long : take m.start a ≡ take k.start b → limit < joined_length m k → refused too_long ≡ pair_seen s a b
  pair-long =
      both_told v w (λ m k. take m.start a ≡ take k.start b → limit < joined_length m k → refused too_long ≡ pair_seen s a b)
      (λ f t u i h l. pair_of_refused s a b too_long (join-long i h l))

  pub pair-sound : take m.start a ≡ take k.start b → joined_length m k ≤ limit → accepted (m, k) ≡ pair_seen s a b
  pair-sound =
      both_told v w (λ m k. take m.start a ≡ take k.start b → joined_length m k ≤ limit → accepted (m, k) ≡ pair_seen s a b)
      (λ f t u i h l. pair-gives i _ (join-gives i h l))

-- ---- from the pair's answer to the join's

-- an accepted join tells its files
pub join_inv : (s : Settings) (a b c : List ℕ) → Bytes a → Bytes b → join_of s a b ≡ accepted c
    → (f : Format) × (t : Trace) × (u : Trace) × Both s a b f t u × (same_bytes (opening t.lines) (opening u.lines) ≡ true)
    × (length (encode f (join t u)) ≤ limit) × (encode f (join t u) ≡ c)
unfolding join_of
join_inv s a b c ha hb e =
    let p = next_inv (read s a) _ e in
    let q = next_inv (read s b) _ p.2 in
    let r = both_read s a b p.0.0 q.0.0 p.0.1 q.0.1 ha hb p.1 q.1 in
    let v = cond_inv (same_bytes (opening p.0.1.lines) (opening q.0.1.lines)) (within_limit (encode p.0.0 (join p.0.1 q.0.1)))
    openings_differ q.2 in
    let w = cond_inv (leb (length (encode p.0.0 (join p.0.1 q.0.1))) limit) (accepted (encode p.0.0 (join p.0.1 q.0.1))) too_long v.1
    in
    (p.0.0, p.0.1, q.0.1, r.1, v.0, leb-true _ limit w.0, accepted-one w.1)

pair-refused : (s : Settings) (a b : List ℕ) (n : ℕ) → Bytes a → Bytes b → refused n ≡ pair_seen s a b → join_of s a b ≡ refused n
pair-refused s a b n ha hb e = by (join_of s a b) refl
  where
    by : (x : Answer (List ℕ)) → join_of s a b ≡ x → x ≡ refused n
    by (accepted c) g = let q = join_inv s a b c ha hb g in never (e ∙ sym (pair-gives q.3 c g))
    by (refused k) g = ap refused (refused-one (pair_of_refused s a b k g ∙ sym e))

-- as a place of a proof hands it over: the lent bytes, the case that the answer is, and what its contract says
pub refused-given : (s : Settings) (a b : List ℕ) (n : ℕ) → ((i : ℕ) → Fits w8 (get_or a i 0)) → ((i : ℕ) → Fits w8 (get_or b i 0))
    → refused n ≡ pair_seen s a b → join_of s a b ≡ refused n
refused-given s a b n f h e = pair-refused s a b n (bytes-given a f) (bytes-given b h) e

-- two files whose pair is sound, with what each reading told
pub record Paired (s : Settings) (a b : List ℕ) (m k : Summary) : Type 0 where
  pub first-bytes : Bytes a
  pub second-bytes : Bytes b
  pub seen : accepted (m, k) ≡ pair_seen s a b

pub paired_given : {s : Settings} {a b : List ℕ} {p : Pair} {r : Result Pair Refusal} → ((i : ℕ) → Fits w8 (get_or a i 0))
    → ((i : ℕ) → Fits w8 (get_or b i 0)) → r ≡ Ok p → pair_meaning r ≡ pair_seen s a b
    → Paired s a b (opened_meaning p.first) (opened_meaning p.second)
paired_given {a = a} {b = b} f h e k = record { first-bytes = bytes-given a f; second-bytes = bytes-given b h; seen = at_case pair_meaning e k }

-- the join is the first file's frames behind its opening, the second's frames, and the mark of either
pub record Joins (s : Settings) (a b : List ℕ) (m k : Summary) : Type 0 where
  pub gives : join_of s a b ≡ accepted (joined_bytes a b m k)
  pub long : length (joined_bytes a b m k) ≡ joined_length m k
  pub short : joined_length m k ≤ limit
  pub first-end : m.end ≤ length a
  pub second-start : k.start ≤ k.end
  pub second-end : k.end ≤ length b

joins_both : {s : Settings} {a b : List ℕ} {f : Format} {t u : Trace} → Both s a b f t u → join_of s a b ≡ accepted (encode f (join t u))
    → length (encode f (join t u)) ≤ limit → Joins s a b (summary_of f t) (summary_of f u)
joins_both {f = f} {t = t} {u = u} i e l =
    record {
      gives = e ∙ ap accepted (joined_bytes_lem i);
      long = ap length (sym (joined_bytes_lem i)) ∙ joined_long i;
      short = omega (arith, l, joined_long i);
      first-end = omega (arith, frames_last f _ t i.first-file);
      second-start = omega arith;
      second-end = omega (arith, frames_last f _ u i.second-file);
    }

pub pair_joins : {s : Settings} {a b : List ℕ} {m k : Summary} → Paired s a b m k → Joins s a b m k
pair_joins {s} {a} {b} {m} {k} w =
    let p = next_inv (join_of s a b) _ (sym w.seen) in
    let q = join_inv s a b p.0 w.first-bytes w.second-bytes p.1 in
    let i : ◌≡◌ {A = Summary × Summary} (summary_of q.0 q.1, summary_of q.0 q.2) (m, k) =
    accepted-one (pair-gives q.3 p.0 p.1 ∙ sym w.seen) in
    subst (λ (z : Summary × Summary). Joins s a b z.0 z.1) i (joins_both q.3 (p.1 ∙ ap accepted (sym q.6)) q.5)
