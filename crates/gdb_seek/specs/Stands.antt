-- What an answer says of a file, also of one that is not accepted; how many heads are read; and where 12 is given.
-- Assumes nothing.
use Rattle.std.specs.Prelude.{◌≡◌, refl, Bool, true, false, cond, ◌↔◌, ℕ, zero, suc, ◌+◌, ◌≤◌, length, leb}
use Rattle.std.proofs.Common.{sym, ap₂, ◌∙◌, subst, add-one, arith, le-leb, leb-true}
use Rattle.std.proofs.Math.Path.{ap}
use Rattle.std.proofs.Math.Option.{Option, none, some}
use mathlib.Core.List.{List, [], ◌++◌, append-nil}
use Rattle.refusals.specs.Refusal.{limit, too_long, not_found}
use Rattle.fields.specs.Lists.{concat_map}
use Rattle.fields.specs.Number.{Bytes, bytes-front, bytes_back, bytes_drop}
use Rattle.fields.specs.Answer.{Answer, accepted, refused, next, next_inv, refused_inv, never, accepted_inj, accepted-one, refused-one, cond_inv}
use Rattle.gdb_format.specs.Settings.{settings_of}
use Rattle.gdb_format.specs.Trace.{Block, Frame, opening, head_in, put_data, put_frame, put_mark, data_of}
use Rattle.gdb_format.specs.Lines.{register_size}
use Rattle.gdb_format.specs.Layout.{FrameFits}
use Rattle.gdb_format.specs.Decode.{blocks, frame_head, frame, opening_lines}
use Rattle.gdb_format.specs.Numbers.{settings-numbers, opening-numbers, blocks-numbers}
use Rattle.gdb_format.specs.ExactFrame.{HeadFits, exact_head, exact_frame}
use Rattle.gdb_format.specs.declared.Settings.{Settings}
use Rattle.gdb_format.specs.declared.Format.{Format}
use Rattle.gdb_read.specs.Steps.{Row, head_seen}
use Rattle.gdb_frames.specs.Places.{part}
use Rattle.gdb_frames.specs.Questions.{data_in}
use Rattle.gdb_seek.specs.Walk.{head_or_end, Walk, ends_at, past, walk_to}
use Rattle.gdb_seek.specs.Found.{found_behind, found_in, frame_found}
use Rattle.gdb_seek.specs.Openings.{Opens, opens, opened, behind-opening, Starts, opening-first, start_place, rest_place, heads-there, rest-there}
use Rattle.gdb_seek.specs.Heads.{Passed, walked-past, Short, walked-short, end-here, over_reached, walk_stops, walk_meets, data_here, own_data}

-- ---- how many heads are read

-- a walk that reaches frame n has looked for n + 1 heads
pub heads-read : (f : Format) (b : List ℕ) (n at : ℕ) (r : Row) → (walk_to f b n at).reached ≡ accepted r → length (walk_to f b n at).visited ≡ suc n
heads-read f b zero at r e = refl
heads-read f b (suc n) at r e = by (head_or_end f b at) e (λ m. heads-read f b n m r)
  where
    by : (x : Answer (Option (Row × ℕ))) → (past at (walk_to f b n) x).reached ≡ accepted r
        → ((m : ℕ) → (walk_to f b n m).reached ≡ accepted r → length (walk_to f b n m).visited ≡ suc n)
        → length (past at (walk_to f b n) x).visited ≡ suc (suc n)
    by (refused k) e g = never e
    by (accepted none) e g = never e
    by (accepted (some v)) e g = ap suc (g v.1 e)

-- ---- what stands in the file

-- the file starts with an opening and n heads, each followed by as much data as it says; then stands frame n, whole, and behind it anything
pub record Stands (f : Format) (b : List ℕ) (n : ℕ) : Type 0 where
  pub starts : Starts f b
  pub found : Frame
  pub behind : List ℕ
  pub found-fits : FrameFits f (register_size f starts.lines) found
  pub so_many : length starts.earlier ≡ n
  pub there : starts.rest ≡ put_frame f found ++ behind

-- its data stand behind its head
pub data_stands : {f : Format} {b : List ℕ} {n : ℕ} (z : Stands f b n)
    → part b (accepted (rest_place z.starts + 6, length (data_of f z.found))) ≡ data_of f z.found
data_stands {f} {b} z = data_here f b (rest_place z.starts) (head_in f z.found) z.behind (rest-there z.starts ∙ z.there)

-- what an answer says: the place and the length of its data, and the number of heads
abbrev pub Says : Format → List ℕ → ℕ → (ℕ × ℕ) × ℕ → Type 0
Says f b n x = (z : Stands f b n) × (x.0 ≡ (rest_place z.starts + 6, length (data_of f z.found))) × (x.1 ≡ n + 1)

-- ---- a frame by its head and its blocks

module _ (f : Format) (size : Option ℕ) where
  frame_of : (h : ℕ × List ℕ) (q : List Block × List ℕ) → HeadFits h → Bytes (put_data f h) → blocks f size h.1 [] ≡ accepted q
      → let r : Frame = record { tracepoint = h.0; blocks = q.0 } in FrameFits f size r × (head_in f r ≡ h)
  unfolding frame
  frame_of h q g w e =
      let r : Frame = record { tracepoint = h.0; blocks = q.0 } in
      let head_read : frame_head f (put_data f h ++ []) ≡ accepted (h, []) = (exact_head f).back h [] g in
      let all_read : frame f size (put_data f h ++ []) ≡ accepted (r, q.1) = rw (head_read, e) in
      let k = (exact_frame f size).forth (put_data f h ++ []) r q.1 (rw append-nil w) all_read in
      let back = (exact_head f).back (head_in f r) q.1 (k.0.0, k.0.1, k.0.3) in
      (k.0, (accepted_inj (sym back ∙ ap (frame_head f) k.1 ∙ head_read)).0)

  pub blocks_of : (r : Frame) → FrameFits f size r → (q : List Block × List ℕ) × (blocks f size (data_of f r) [] ≡ accepted q)
  unfolding frame
  blocks_of r g =
      let head_read = (exact_head f).back (head_in f r) [] (g.0, g.1, g.3) in
      let all_read : frame f size (put_frame f r ++ []) ≡ accepted (r, []) = (exact_frame f size).back r [] g in
      let e = rw head_read at all_read in
      let q = next_inv (blocks f size (data_of f r) []) _ e in
      (q.0, q.1)

-- ---- the answer

module _ (f : Format) (b : List ℕ) (n : ℕ) (w : Bytes b) where
  module _ (ls : List (List ℕ)) (more : List ℕ) (o : Opens f b ls more) where
    abbrev size : Option ℕ
    size = register_size f ls

    abbrev start : ℕ
    start = length (opening ls)

    head_bytes_lem : (r : Row) (p : Passed f b w n start r) → Bytes (put_data f p.1)
    head_bytes_lem r p =
        bytes-front (put_data f p.1) p.2
        (bytes_back (concat_map (put_data f) p.0) (put_data f p.1 ++ p.2) (rw p.5.1 at (bytes_drop start b w)))

    stands : (r : Row) → Passed f b w n start r → (q : List Block × List ℕ) → blocks f size (part b (accepted (data_in r))) [] ≡ accepted q
        → (k : ℕ) → k ≡ suc n → Says f b n (data_in r, k)
    stands r p q e k i =
        let h = p.1 in
        let g = frame_of f size h q p.4 (head_bytes_lem r p) (rw (own_data f b w n start r p) at e) in
        let v : Frame = record { tracepoint = h.0; blocks = q.0 } in
        let z : Stands f b n = record {
          starts = record {
            lines = ls;
            earlier = p.0;
            rest = put_data f h ++ p.2;
            lines_fit = o.fits;
            earlier_fit = p.5.0;
            laid_out = ap (λ d. opening ls ++ d) (sym p.5.1 ∙ behind-opening o) ∙ o.laid_out;
          };
          found = v;
          behind = p.2;
          found-fits = g.0;
          so_many = p.3;
          there = ap (λ x. put_data f x ++ p.2) (sym g.1);
        } in
        (z, ap data_in (sym p.6) ∙ ap (λ d. (rest_place z.starts + 6, length d)) (sym (ap (λ (x : ℕ × List ℕ). x.1) g.1)), i ∙ sym (add-one n))

  answer-says : (x : (ℕ × ℕ) × ℕ) → next (opening_lines f b) (λ o. found_behind f b n o.0) ≡ accepted x → Says f b n x
  answer-says x e =
      let q = next_inv (opening_lines f b) (λ o. found_behind f b n o.0) e in
      let ls = q.0.0 in
      let at = length (opening ls) in
      let u = next_inv (walk_to f b n at).reached _ q.2 in
      let v = next_inv (blocks f (register_size f ls) (part b (accepted (data_in u.0))) []) _ u.2 in
      subst (Says f b n) (accepted-one v.2)
      (stands ls q.0.1 (opens f b ls q.0.1 w q.1) u.0 (walked-past f b w n at u.0 u.1) v.0 v.1
      (length (walk_to f b n at).visited) (heads-read f b n at u.0 u.1))

  -- the walk reaches the frame that stands there
  walk_reaches : (z : Stands f b n) → (walk_to f b n (start_place z.starts)).reached ≡ accepted (head_seen (rest_place z.starts) (head_in f z.found))
  walk_reaches z =
      let s = z.starts in
      let g = z.found-fits in
      let met =
      walk_meets f b s.earlier (head_in f z.found) (start_place s) z.behind s.earlier_fit (g.0, g.1, g.3)
      (heads-there s ∙ ap (λ d. concat_map (put_data f) s.earlier ++ d) z.there) in
      ap (λ m. (walk_to f b m (start_place s)).reached) (sym z.so_many) ∙ ap (λ (w : Walk). w.reached) met
      ∙ over_reached f (start_place s) s.earlier (λ m. ends_at m (accepted (head_seen m (head_in f z.found))))

  says-answer : (x : (ℕ × ℕ) × ℕ) → Says f b n x → next (opening_lines f b) (λ o. found_behind f b n o.0) ≡ accepted x
  says-answer x y =
      let z = y.0 in
      let size = register_size f z.starts.lines in
      let w = walk_to f b n (start_place z.starts) in
      let q = blocks_of f size z.found z.found-fits in
      let count : length w.visited ≡ n + 1 = heads-read f b n (start_place z.starts) _ (walk_reaches z) ∙ sym (add-one n) in
      ap (λ o. next o (λ o. found_behind f b n o.0)) (opened (opening-first z.starts))
      ∙ rw (walk_reaches z, data_stands z, q.1) (ap₂ (λ d k. accepted (d, k)) (sym y.1) (count ∙ sym y.2))

-- An answer is given exactly where the file, of which no more is said, starts with an opening and n heads, each followed by as much data as it says,
-- and there stands frame n, whole: the answer is the place and the length of its data, and n + 1.
pub answer_exactly : (s : Settings) (b : List ℕ) (n : ℕ) (x : (ℕ × ℕ) × ℕ) → Bytes b
    → (frame_found s b n ≡ accepted x) ↔ ((f : Format) × (settings_of s ≡ accepted f) × (length b ≤ limit) × Says f b n x)
unfolding frame_found
answer_exactly s b n x w = (
  (λ e.
      let q = next_inv (settings_of s) (λ f. found_in f b n) e in
      let c = cond_inv (leb (length b) limit) _ too_long q.2 in
      (q.0, q.1, leb-true (length b) limit c.0, answer-says q.0 b n w x c.1)),
  (λ y. rw (y.1, le-leb (length b) limit y.2) (says-answer y.0 b n w x y.3)),
)

-- ---- 12

-- the file is an opening and at most n heads, each followed by as much data as it says; then it ends, or the end mark stands
pub record Ends (f : Format) (b : List ℕ) (n : ℕ) : Type 0 where
  pub starts : Starts f b
  pub marked : Bool
  pub too_few : length starts.earlier ≤ n
  pub there : starts.rest ≡ put_mark marked

module _ (f : Format) (b : List ℕ) (n : ℕ) (w : Bytes b) where
  ends_of : (ls : List (List ℕ)) (more : List ℕ) → opening_lines f b ≡ accepted (ls, more) → Short f b w n (length (opening ls)) → Ends f b n
  ends_of ls more e h =
      let o = opens f b ls more w e in
      record {
        starts = record {
          lines = ls;
          earlier = h.0;
          rest = put_mark h.1;
          lines_fit = o.fits;
          earlier_fit = h.3.0;
          laid_out = ap (λ d. opening ls ++ d) (sym h.3.1 ∙ behind-opening o) ∙ o.laid_out;
        };
        marked = h.1;
        too_few = h.2;
        there = refl;
      }

  -- blocks refuse with other numbers
  behind-missing : (ls : List (List ℕ)) → found_behind f b n ls ≡ refused not_found → (walk_to f b n (length (opening ls))).reached ≡ refused not_found
  behind-missing ls e = by (walk_to f b n (length (opening ls))).reached e
    where
      by : (x : Answer Row) → next {B = (ℕ × ℕ) × ℕ} x (λ r. next {B = (ℕ × ℕ) × ℕ} (blocks f (register_size f ls) (part b (accepted (data_in r))) []) (λ q. accepted (data_in r, length (walk_to f b n (length (opening ls))).visited))) ≡ refused not_found
          → x ≡ refused not_found
      by (refused k) e = ap refused (refused-one e)
      by (accepted r) e =
          let d = part b (accepted (data_in r)) in
          absurd (((blocks-numbers f (register_size f ls) d).reading []).only not_found (refused_inv not_found (blocks f (register_size f ls) d []) _ (sym e)))

  missing-ends : next (opening_lines f b) (λ o. found_behind f b n o.0) ≡ refused not_found → Ends f b n
  missing-ends e = by (opening_lines f b) refl e
    where
      by : (x : Answer (List (List ℕ) × List ℕ)) → opening_lines f b ≡ x → next x (λ o. found_behind f b n o.0) ≡ refused not_found → Ends f b n
      by (refused k) i e = absurd (((opening-numbers f).reading b).only not_found (i ∙ ap refused (refused-one e)))
      by (accepted o) i e = ends_of o.0 o.1 i (walked-short f b w n (length (opening o.0)) (behind-missing o.0 e))

  ends-missing : Ends f b n → next (opening_lines f b) (λ o. found_behind f b n o.0) ≡ refused not_found
  ends-missing z =
      let s = z.starts in
      let none-there =
      walk_stops f b n not_found s.earlier (start_place s) s.rest z.too_few s.earlier_fit (heads-there s)
      (λ m e. rw (end-here f b m z.marked (e ∙ z.there))) in
      let reach : (walk_to f b n (start_place s)).reached ≡ refused not_found =
      ap (λ (w : Walk). w.reached) none-there ∙ over_reached f (start_place s) s.earlier (λ m. ends_at m (refused not_found)) in
      ap (λ o. next o (λ o. found_behind f b n o.0)) (opened (opening-first s)) ∙ rw reach

-- 12 is given exactly where the file's end or the end mark comes first.
pub missing_exactly : (s : Settings) (b : List ℕ) (n : ℕ) → Bytes b
    → (frame_found s b n ≡ refused not_found) ↔ ((f : Format) × (settings_of s ≡ accepted f) × (length b ≤ limit) × Ends f b n)
unfolding frame_found
missing_exactly s b n w = (
  (λ e. by (settings_of s) refl e),
  (λ y. rw (y.1, le-leb (length b) limit y.2) (ends-missing y.0 b n w y.3)),
)
  where
    short : (f : Format) (t : Bool) → leb (length b) limit ≡ t → settings_of s ≡ accepted f
        → cond t (next (opening_lines f b) (λ o. found_behind f b n o.0)) (refused too_long) ≡ refused not_found
        → (f : Format) × (settings_of s ≡ accepted f) × (length b ≤ limit) × Ends f b n
    short f true i j e = (f, j, leb-true (length b) limit i, missing-ends f b n w e)
    short f false i j e = let k : too_long ≡ not_found = refused-one e in absurd (omega (arith, k))

    by : (x : Answer Format) → settings_of s ≡ x → next x (λ f. found_in f b n) ≡ refused not_found
        → (f : Format) × (settings_of s ≡ accepted f) × (length b ≤ limit) × Ends f b n
    by (refused k) i e = absurd ((settings-numbers s).only not_found (i ∙ ap refused (refused-one e)))
    by (accepted f) i e = short f (leb (length b) limit) refl i e
