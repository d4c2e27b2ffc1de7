-- Two files of one length that agree on the parts read get the same answer and the same number of heads, refusals too, and the same bytes are handed
-- back: what stands elsewhere is not seen.
-- Assumes nothing.
use Rattle.std.specs.Prelude.{◌≡◌, Bool, ℕ, zero, suc, ◌+◌, ◌-◌, ◌<◌, ◌≤◌, drop, leb, eqb}
use Rattle.std.proofs.Math.Path.{refl, ap}
use Rattle.std.proofs.Common.{sym, ◌∙◌, arith, length-drop, take_all, take-take, take-add, drop_at, length-take-le}
use Rattle.std.proofs.Math.Bool.{true, false, cond}
use Rattle.std.proofs.Math.Option.{Option, none, some}
use Rattle.std.proofs.Math.Logic.{by_cases}
use Rattle.std.proofs.Math.Nat.{lt_of_not-le}
use Rattle.std.proofs.Math.Decide.{dec_le}
use mathlib.Core.List.{List, [], ◌∷◌, ◌++◌, map}
use Rattle.std.proofs.Math.ListN.{length, take, get_or}
use borrow.Author.Tests.{le-leb, lt-leb}
use Rattle.refusals.specs.Refusal.{limit, too_long, data_past_file, bad_head, bad_line, bad_mark}
use Rattle.fields.specs.Number.{number}
use Rattle.fields.specs.Word.{starts, same_bytes, same_bytes_lem}
use Rattle.fields.specs.Answer.{Answer, accepted, refused, next, never, accepted-one, refused-one}
use Rattle.fields.specs.Reader.{refuse, bytes, step_at}
use Rattle.fields.specs.At.{step_none, step_of}
use Rattle.gdb_format.specs.Settings.{settings_of}
use Rattle.gdb_format.specs.Trace.{Block, head, mark, opening}
use Rattle.gdb_format.specs.Lines.{may_follow, register_size}
use Rattle.gdb_format.specs.Decode.{blocks, numbered, frame_head, ending, description, opening_lines}
use Rattle.gdb_format.specs.declared.Settings.{Settings}
use Rattle.gdb_format.specs.declared.Format.{Format}
use Rattle.gdb_read.specs.Steps.{Row, head_seen}
use Rattle.gdb_frames.specs.Places.{part}
use Rattle.gdb_frames.specs.Questions.{data_in}
use Rattle.gdb_seek.specs.Walk.{head_or_end, Walk, goes_on, past, walk_to}
use Rattle.gdb_seek.specs.Found.{judged, found_behind, found_in, frame_found, data_found, described, opening_read, head_part, data_part, walk_parts, parts_on, parts_in, parts_read, AgreeOn}

-- ---- lists of one length that agree on a front

module _ (b c : List ℕ) where
  front_less : (k m : ℕ) → k ≤ m → take m b ≡ take m c → take k b ≡ take k c
  front_less k m h e = sym (take-take k m b h) ∙ ap (take k) e ∙ take-take k m c h

  behind : (j k : ℕ) → length b ≡ length c → j ≤ length b → take (j + k) b ≡ take (j + k) c → take k (drop j b) ≡ take k (drop j c)
  behind j k l h e =
      sym (drop_at (take j b) (take k (drop j b)) j (length-take-le j b h)) ∙ ap (drop j) (sym (take-add j k b) ∙ e ∙ take-add j k c)
      ∙ drop_at (take j c) (take k (drop j c)) j (length-take-le j c (omega (arith, h, l)))

drop-long : (b c : List ℕ) (k : ℕ) → length b ≡ length c → length (drop k b) ≡ length (drop k c)
drop-long b c k l = length-drop k b ∙ ap (λ n. n - k) l ∙ sym (length-drop k c)

-- ---- a head by its six bytes

-- what a head shows, and how much is left behind its data
abbrev shape : Answer ((ℕ × List ℕ) × List ℕ) → Answer (ℕ × (ℕ × ℕ))
shape x = next x (λ r. accepted (r.0.0, (length r.0.1, length r.1)))

data_alike : (n k : ℕ) (b c : List ℕ) → length b ≡ length c
    → shape (next (bytes k data_past_file b) (λ r. accepted ((n, r.0), r.1))) ≡ shape (next (bytes k data_past_file c) (λ r. accepted ((n, r.0), r.1)))
data_alike n k b c l =
    by_cases (dec_le k (length b))
    (λ h. let i : k ≤ length c = omega (arith, h, l) in
    rw (le-leb k (length b) h, le-leb k (length c) i, length-take-le k b h, length-take-le k c i, drop-long b c k l))
    (λ h. rw (lt-leb k (length b) (lt_of_not-le h), lt-leb k (length c) (omega (arith, lt_of_not-le h, l))))

numbered_alike : (f : Format) (n : ℕ) (b c : List ℕ) → length b ≡ length c → take 4 b ≡ take 4 c → shape (numbered f n b) ≡ shape (numbered f n c)
unfolding numbered
numbered_alike f n b c l e =
    by_cases (dec_le 4 (length b))
    (λ h. rw (le-leb 4 (length b) h, le-leb 4 (length c) (omega (arith, h, l)), e) (data_alike n (number f.order (take 4 c)) (drop 4 b) (drop 4 c) (drop-long b c 4 l)))
    (λ h. rw (lt-leb 4 (length b) (lt_of_not-le h), lt-leb 4 (length c) (omega (arith, lt_of_not-le h, l))))

head_alike : (f : Format) (b c : List ℕ) → length b ≡ length c → take 6 b ≡ take 6 c → shape (frame_head f b) ≡ shape (frame_head f c)
unfolding frame_head
head_alike f b c l e =
    by_cases (dec_le 2 (length b))
    (λ h. rw (le-leb 2 (length b) h, le-leb 2 (length c) (omega (arith, h, l)), front_less b c 2 6 (omega arith) e)
    (by (number f.order (take 2 c)) (eqb (number f.order (take 2 c)) 0) (behind b c 2 4 l h e)))
    (λ h. rw (lt-leb 2 (length b) (lt_of_not-le h), lt-leb 2 (length c) (omega (arith, lt_of_not-le h, l))))
  where
    by : (n : ℕ) (t : Bool) → take 4 (drop 2 b) ≡ take 4 (drop 2 c)
        → shape (cond t (refuse bad_mark) (numbered f n) (drop 2 b)) ≡ shape (cond t (refuse bad_mark) (numbered f n) (drop 2 c))
    by n true i = refl
    by n false i = numbered_alike f n (drop 2 b) (drop 2 c) (drop-long b c 2 l) i

-- ---- what stands where a head should start

shape-seen : (at end : ℕ) (x : Answer ((ℕ × List ℕ) × List ℕ))
    → next {B = Option (Row × ℕ)} x (λ r. accepted (some (head_seen at r.0, end - length r.1)))
    ≡ next (shape x) (λ q. accepted (some (record { tracepoint = q.0; place = at + 6; size = q.1.0 }, end - q.1.1)))
shape-seen at end (accepted r) = refl
shape-seen at end (refused k) = refl

long-no-end : (d : List ℕ) → 4 < length d → ending d ≡ none
long-no-end [] h = absurd (omega arith)
long-no-end (x ∷ xs) h = by (same_bytes (x ∷ xs) mark) refl
  where
    by : (t : Bool) → same_bytes (x ∷ xs) mark ≡ t → cond t (some true) none ≡ none
    by true e = absurd (omega (arith, h, ap length (same_bytes_lem (x ∷ xs) mark e)))
    by false e = refl

ending_alike : (b c : List ℕ) → length b ≡ length c → take 6 b ≡ take 6 c → ending b ≡ ending c
ending_alike b c l e =
    by_cases (dec_le (length b) 6)
    (λ h. ap ending (sym (take_all 6 b h) ∙ e ∙ take_all 6 c (omega (arith, h, l))))
    (λ h. let k = lt_of_not-le h in long-no-end b (omega (arith, k)) ∙ sym (long-no-end c (omega (arith, k, l))))

module _ (f : Format) (b c : List ℕ) (l : length b ≡ length c) where
  step_alike : (at : ℕ) → take 6 (drop at b) ≡ take 6 (drop at c) → step_at head_seen (frame_head f) b at ≡ step_at head_seen (frame_head f) c at
  step_alike at e =
      by_cases (dec_le (length b) at)
      (λ h. step_none head_seen (frame_head f) b at h ∙ sym (step_none head_seen (frame_head f) c at (omega (arith, h, l))))
      (λ h. let k = lt_of_not-le h in
      step_of head_seen (frame_head f) b at k
      ∙ shape-seen at (length b) (frame_head f (drop at b))
      ∙ rw (head_alike f (drop at b) (drop at c) (drop-long b c at l) e, l) (sym (shape-seen at (length c) (frame_head f (drop at c))))
      ∙ sym (step_of head_seen (frame_head f) c at (omega (arith, k, l))))

  place_alike : (at : ℕ) → take 6 (drop at b) ≡ take 6 (drop at c) → head_or_end f b at ≡ head_or_end f c at
  place_alike at e = rw (ending_alike (drop at b) (drop at c) (drop-long b c at l) e, step_alike at e)

  -- ---- the walk

  abbrev HeadsAgree : List ℕ → Type 0
  HeadsAgree ats = AgreeOn (map head_part ats) b c

  walk_alike : (n at : ℕ) → HeadsAgree (walk_to f b n at).visited → walk_to f b n at ≡ walk_to f c n at
  walk_alike zero at h = rw (place_alike at h.0)
  walk_alike (suc n) at h = by (head_or_end f b at) refl h (walk_alike n)
    where
      by : (x : Answer (Option (Row × ℕ))) → head_or_end f b at ≡ x → HeadsAgree (past at (walk_to f b n) x).visited
          → ((m : ℕ) → HeadsAgree (walk_to f b n m).visited → walk_to f b n m ≡ walk_to f c n m)
          → past at (walk_to f b n) x ≡ past at (walk_to f c n) (head_or_end f c at)
      by (refused k) e h g = rw (← place_alike at h.0, e)
      by (accepted none) e h g = rw (← place_alike at h.0, e)
      by (accepted (some r)) e h g = rw (← place_alike at h.0, e) (ap (goes_on at) (g r.1 h.1))

  -- ---- the frame that it reaches

  both : (ps qs : List (ℕ × ℕ)) → AgreeOn (ps ++ qs) b c → AgreeOn ps b c × AgreeOn qs b c
  both [] qs h = (tt, h)
  both (p ∷ ps) qs h = let q = both ps qs h.1 in ((h.0, q.0), q.1)

  judged_alike : (size : Option ℕ) (w : Walk) → AgreeOn (data_part w.reached) b c → judged f size b w ≡ judged f size c w
  judged_alike size w h = by w.reached h
    where
      by : (x : Answer Row) → AgreeOn (data_part x) b c
          → next {B = (ℕ × ℕ) × ℕ} x (λ r. next {B = (ℕ × ℕ) × ℕ} (blocks f size (part b (accepted (data_in r))) []) (λ q. accepted (data_in r, length w.visited)))
          ≡ next x (λ r. next (blocks f size (part c (accepted (data_in r))) []) (λ q. accepted (data_in r, length w.visited)))
      by (accepted r) h = ap (λ d. next (blocks f size d []) (λ q. accepted (data_in r, length w.visited))) h.0
      by (refused k) h = refl

  -- the bytes of the data that are answered
  bytes_alike : (size : Option ℕ) (w : Walk) → AgreeOn (data_part w.reached) b c
      → part b (next (judged f size b w) (λ r. accepted r.0)) ≡ part c (next (judged f size b w) (λ r. accepted r.0))
  bytes_alike size w h = by w.reached h
    where
      by_blocks : (r : Row) (y : Answer (List Block × List ℕ)) → part b (accepted (data_in r)) ≡ part c (accepted (data_in r))
          → let x = next {B = (ℕ × ℕ) × ℕ} y (λ q. accepted (data_in r, length w.visited)) in
          part b (next x (λ r. accepted r.0)) ≡ part c (next x (λ r. accepted r.0))
      by_blocks r (accepted q) e = e
      by_blocks r (refused k) e = refl

      by : (x : Answer Row) → AgreeOn (data_part x) b c
          → let y = next {B = (ℕ × ℕ) × ℕ} x (λ r. next {B = (ℕ × ℕ) × ℕ} (blocks f size (part b (accepted (data_in r))) []) (λ q. accepted (data_in r, length w.visited))) in
          part b (next y (λ r. accepted r.0)) ≡ part c (next y (λ r. accepted r.0))
      by (accepted r) h = by_blocks r (blocks f size (part b (accepted (data_in r))) []) h.0
      by (refused k) h = refl

  behind_alike : (n : ℕ) (ls : List (List ℕ)) → AgreeOn (walk_parts (walk_to f b n (length (opening ls)))) b c → found_behind f b n ls ≡ found_behind f c n ls
  behind_alike n ls h =
      let w = walk_to f b n (length (opening ls)) in
      let q = both (map head_part w.visited) (data_part w.reached) h in
      judged_alike (register_size f ls) w q.1 ∙ ap (judged f (register_size f ls) c) (walk_alike n (length (opening ls)) q.0)

-- ---- the opening

-- the lines alone
abbrev lines_in : Answer (List (List ℕ) × List ℕ) → Answer (List (List ℕ))
lines_in x = next x (λ o. accepted o.0)

module _ (f : Format) where
  -- one byte more: a line goes on, ends the description, is ended, or is refused
  byte_alike : (before : List (List ℕ)) (xs ys : List ℕ) (a m : ℕ) (d e p q : Answer (List (List ℕ) × List ℕ)) (t u v : Bool)
      → take (cond t (cond u 0 (cond v a 0)) m) xs ≡ take (cond t (cond u 0 (cond v a 0)) m) ys
      → (take a xs ≡ take a ys → lines_in d ≡ lines_in e) → (take m xs ≡ take m ys → lines_in p ≡ lines_in q)
      → lines_in (cond t (cond u (accepted (before, xs)) (cond v d (refused bad_line))) p)
      ≡ lines_in (cond t (cond u (accepted (before, ys)) (cond v e (refused bad_line))) q)
  byte_alike before xs ys a m d e p q true true v h after more = refl
  byte_alike before xs ys a m d e p q true false true h after more = after h
  byte_alike before xs ys a m d e p q true false false h after more = refl
  byte_alike before xs ys a m d e p q false u v h after more = more h

  described_alike : (b c : List ℕ) (before : List (List ℕ)) (line : List ℕ) → length b ≡ length c
      → take (described f before line b) b ≡ take (described f before line b) c
      → lines_in (description f before line b) ≡ lines_in (description f before line c)
  unfolding description described
  described_alike [] [] before line l e = refl
  described_alike [] (y ∷ ys) before line l e = absurd (omega (arith, l))
  described_alike (x ∷ xs) [] before line l e = absurd (omega (arith, l))
  described_alike (x ∷ xs) (y ∷ ys) before line l e =
      let i : x ≡ y = ap (λ z. get_or z 0 0) e in
      let k : length xs ≡ length ys = omega (arith, l) in
      rw (← i)
      (byte_alike before xs ys _ _ _ _ _ _ (eqb x 0x0A) (eqb (length line) 0) (may_follow f before line) (ap (drop 1) e)
      (described_alike xs ys (before ++ line ∷ []) [] k) (described_alike xs ys before (line ++ x ∷ []) k))

  opening_alike : (b c : List ℕ) → length b ≡ length c → take (opening_read f b) b ≡ take (opening_read f b) c
      → lines_in (opening_lines f b) ≡ lines_in (opening_lines f c)
  unfolding opening_lines
  opening_alike b c l e =
      by_cases (dec_le 8 (length b))
      (λ h. rw (le-leb 8 (length b) h, le-leb 8 (length c) (omega (arith, h, l)), ← front_less b c 8 (opening_read f b) (omega arith) e)
      (by h (starts head (take 8 b)) e))
      (λ h. rw (lt-leb 8 (length b) (lt_of_not-le h), lt-leb 8 (length c) (omega (arith, lt_of_not-le h, l))))
    where
      by : 8 ≤ length b → (t : Bool)
          → take (8 + cond t (described f [] [] (drop 8 b)) 0) b ≡ take (8 + cond t (described f [] [] (drop 8 b)) 0) c
          → lines_in (cond t (description f [] []) (refuse bad_head) (drop 8 b)) ≡ lines_in (cond t (description f [] []) (refuse bad_head) (drop 8 c))
      by h true e = described_alike (drop 8 b) (drop 8 c) [] [] (drop-long b c 8 l) (behind b c 8 (described f [] [] (drop 8 b)) l h e)
      by h false e = refl

  found_alike : (b c : List ℕ) (n : ℕ) → length b ≡ length c → AgreeOn (parts_in f b n) b c
      → next (opening_lines f b) (λ o. found_behind f b n o.0) ≡ next (opening_lines f c) (λ o. found_behind f c n o.0)
  found_alike b c n l h = by (opening_lines f b) (opening_lines f c) (opening_alike b c l h.0) h.1
    where
      by : (x y : Answer (List (List ℕ) × List ℕ)) → lines_in x ≡ lines_in y
          → AgreeOn (parts_on x (λ o. walk_parts (walk_to f b n (length (opening o.0))))) b c
          → next x (λ o. found_behind f b n o.0) ≡ next y (λ o. found_behind f c n o.0)
      by (accepted o) (accepted p) e h =
          let i : o.0 ≡ p.0 = accepted-one e in
          behind_alike f b c l n o.0 h ∙ ap (found_behind f c n) i
      by (accepted o) (refused k) e h = never (sym e)
      by (refused k) (accepted o) e h = never e
      by (refused j) (refused k) e h = let i : j ≡ k = refused-one e in ap refused i

-- two files of one length that agree on the parts that are read of the one get the same answer and the same number of heads
pub unread_unseen : (s : Settings) (b c : List ℕ) (n : ℕ) → length b ≡ length c → AgreeOn (parts_read s b n) b c → frame_found s b n ≡ frame_found s c n
unfolding frame_found parts_read
unread_unseen s b c n l h = by (settings_of s) h
  where
    short : (f : Format) (t : Bool) → AgreeOn (cond t (parts_in f b n) []) b c
        → cond t (next (opening_lines f b) (λ o. found_behind f b n o.0)) (refused too_long)
        ≡ cond t (next (opening_lines f c) (λ o. found_behind f c n o.0)) (refused too_long)
    short f true h = found_alike f b c n l h
    short f false h = refl

    by : (x : Answer Format) → AgreeOn (parts_on x (λ f. cond (leb (length b) limit) (parts_in f b n) [])) b c
        → next x (λ f. found_in f b n) ≡ next x (λ f. found_in f c n)
    by (accepted f) h = rw (← l) (short f (leb (length b) limit) h)
    by (refused k) h = refl

-- and the same bytes of the file, or none
pub unread_data : (s : Settings) (b c : List ℕ) (n : ℕ) → length b ≡ length c → AgreeOn (parts_read s b n) b c
    → part b (data_found s b n) ≡ part c (data_found s c n)
unfolding frame_found parts_read
unread_data s b c n l h = by (settings_of s) h ∙ ap (λ x. part c (next x (λ r. accepted r.0))) (unread_unseen s b c n l h)
  where
    behind : (f : Format) (x : Answer (List (List ℕ) × List ℕ)) → AgreeOn (parts_on x (λ o. walk_parts (walk_to f b n (length (opening o.0))))) b c
        → let y = next x (λ o. found_behind f b n o.0) in part b (next y (λ r. accepted r.0)) ≡ part c (next y (λ r. accepted r.0))
    behind f (accepted o) h =
        let w = walk_to f b n (length (opening o.0)) in
        bytes_alike f b c l (register_size f o.0) w (both f b c l (map head_part w.visited) (data_part w.reached) h).1
    behind f (refused k) h = refl

    short : (f : Format) (t : Bool) → AgreeOn (cond t (parts_in f b n) []) b c
        → let y = cond t (next (opening_lines f b) (λ o. found_behind f b n o.0)) (refused too_long) in
        part b (next y (λ r. accepted r.0)) ≡ part c (next y (λ r. accepted r.0))
    short f true h = behind f (opening_lines f b) h.1
    short f false h = refl

    by : (x : Answer Format) → AgreeOn (parts_on x (λ f. cond (leb (length b) limit) (parts_in f b n) [])) b c
        → let y = next x (λ f. found_in f b n) in part b (next y (λ r. accepted r.0)) ≡ part c (next y (λ r. accepted r.0))
    by (accepted f) h = short f (leb (length b) limit) h
    by (refused k) h = refl
