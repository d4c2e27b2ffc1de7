-- A turn of the walk over heads, by what stands at its place; and where the head that it reaches lies.
-- Assumes nothing.
use Rattle.std.specs.Prelude.{◌≡◌, refl, Bool, false, ℕ, zero, suc, ◌+◌, ◌-◌, ◌≤◌, List, [], ◌∷◌, length, drop, Result}
use Rattle.std.proofs.Common.{sym, ap, ◌∙◌, zero-add, arith, length-append, length-drop}
use Rattle.std.proofs.Math.Option.{Option, none, some}
use Rattle.refusals.specs.Refusal.{not_found}
use Rattle.refusals.specs.declared.Refusal.{Refusal}
use Rattle.fields.specs.Lists.{clash}
use Rattle.fields.specs.Number.{Bytes, bytes_drop}
use Rattle.fields.specs.Word.{same_bytes}
use Rattle.fields.specs.Answer.{Answer, accepted, refused, next, next_inv, accepted-one}
use Rattle.fields.specs.Meaning.{answer_by}
use Rattle.fields.specs.Reader.{another, shown_at, step_at}
use Rattle.fields.specs.At.{Turn, walk_more}
use Rattle.gdb_format.specs.Trace.{mark, put_data}
use Rattle.gdb_format.specs.Decode.{frame_head, ending}
use Rattle.gdb_format.specs.FrameBytes.{frame-long}
use Rattle.gdb_format.specs.ExactFrame.{exact_head, takes-head}
use Rattle.gdb_format.specs.declared.Format.{Format}
use Rattle.gdb_read.specs.Steps.{Row, head_seen, head_meaning}
use Rattle.gdb_frames.specs.Nth.{found_by}
use Rattle.gdb_read.specs.declared.FrameStep.{FrameStep}
use Rattle.gdb_seek.specs.Walk.{before_end, head_or_end, Walk, goes_on, past, walk_to}
use Rattle.gdb_seek.specs.declared.Reached.{Reached}

-- what a walk comes to, with the number of heads that it has read
abbrev pub arrived : Walk → Answer (Row × ℕ)
arrived w = next w.reached (λ r. accepted (r, length w.visited))

-- the frame that stands at a place; 12 where an end does
abbrev pub or_missing : Option (Row × ℕ) → Answer (Row × ℕ)
or_missing none = refused not_found
or_missing (some r) = accepted r

abbrev pub frame_there : Format → List ℕ → ℕ → Answer (Row × ℕ)
frame_there f b at = next (head_or_end f b at) or_missing

abbrev pub step_meaning : Result FrameStep Refusal → Answer (Row × ℕ)
step_meaning r = answer_by (λ s. (head_meaning s.head, s.next)) r

-- what the code's walk answers
abbrev pub reached_meaning : Result Reached Refusal → Answer (Row × ℕ)
reached_meaning r = answer_by (λ a. (head_meaning a.head, a.heads)) r

-- ---- what stands at a place

module _ (f : Format) (b : List ℕ) (at : ℕ) where
  -- where the mark is not, the head's step tells
  pub no-mark : same_bytes (drop at b) mark ≡ false → {x : Answer (Option (Row × ℕ))} → x ≡ step_at head_seen (frame_head f) b at → x ≡ head_or_end f b at
  no-mark e i = i ∙ by (drop at b) e
    where
      by : (d : List ℕ) → same_bytes d mark ≡ false
          → let x = next (another (frame_head f) d) (λ m. accepted (shown_at head_seen at (length b) m)) in x ≡ before_end (ending d) x
      by [] e = refl
      by (x ∷ xs) e = rw e

  pub at_mark : drop at b ≡ mark → accepted none ≡ head_or_end f b at
  at_mark e = rw e

  some-before : {C : Type 0} (r : C) (x : Option Bool) (y : Answer (Option C)) → accepted (some r) ≡ before_end x y → (x ≡ none) × (accepted (some r) ≡ y)
  some-before {C} r (some m) y e = let z : ◌≡◌ {A = Option C} (some r) none = accepted-one e in clash (cc)
  some-before r none y e = (refl, e)

  -- a head that was met stands there, and no end
  pub head_met : (r : Row × ℕ) → accepted (some r) ≡ head_or_end f b at → (ending (drop at b) ≡ none) × (accepted (some r) ≡ step_at head_seen (frame_head f) b at)
  head_met r e = some-before r (ending (drop at b)) (step_at head_seen (frame_head f) b at) e

  -- a frame that was met stands there
  pub stands_there : {r : Row × ℕ} → accepted r ≡ frame_there f b at → accepted (some r) ≡ head_or_end f b at
  stands_there {r} e = by (head_or_end f b at) e
    where
      by : (x : Answer (Option (Row × ℕ))) → accepted r ≡ next x or_missing → accepted (some r) ≡ x
      by (refused k) e = clash (cc)
      by (accepted none) e = clash (cc)
      by (accepted (some q)) e = ap (λ z. accepted (some z)) (accepted-one e)

  pub head-turn : {v : Row} {m : ℕ} → accepted (some (v, m)) ≡ head_or_end f b at → Turn head_seen (frame_head f) b at v m
  head-turn {v} {m} e = walk_more head_seen (frame_head f) (takes-head f) b at v m (sym (head_met (v, m) e).1)

  -- its data end where the walk goes on
  pub head-ends : {v : Row} {m : ℕ} → Bytes b → accepted (some (v, m)) ≡ head_or_end f b at → v.place + v.size ≡ m
  head-ends {v} {m} h e =
      let t = head-turn e in
      let w = (exact_head f).forth (drop at b) t.element (drop m b) (bytes_drop at b h) t.read in
      omega (
        arith,
        ap (λ (r : Row). r.place) t.shown,
        ap (λ (r : Row). r.size) t.shown,
        ap length w.1,
        length-append (put_data f t.element) (drop m b),
        frame-long f t.element,
        length-drop at b,
        length-drop m b,
        t.within,
        t.later,
      )

  -- the head that a walk was to reach
  pub reached_here : (r : Row) → next (head_or_end f b at) (found_by (λ v. v)) ≡ accepted r → (m : ℕ) × (accepted (some (r, m)) ≡ head_or_end f b at)
  reached_here r e = let q = next_inv (head_or_end f b at) (found_by (λ v. v)) e in by q.0 q.1 q.2
    where
      by : (x : Option (Row × ℕ)) → head_or_end f b at ≡ accepted x → found_by (λ v. v) x ≡ accepted r → (m : ℕ) × (accepted (some (r, m)) ≡ head_or_end f b at)
      by none i j = clash (cc)
      by (some v) i j = (v.1, ap (λ z. accepted (some (z, v.1))) (sym (accepted-one j)) ∙ sym i)

-- the head that a walk reaches lies in the file with its data
pub reached_within : (f : Format) (b : List ℕ) (n at : ℕ) (r : Row) → Bytes b → (walk_to f b n at).reached ≡ accepted r → r.place + r.size ≤ length b
reached_within f b zero at r h e =
    let q = reached_here f b at r e in
    omega (arith, head-ends f b at h q.1, (head-turn f b at q.1).within)
reached_within f b (suc n) at r h e = by (head_or_end f b at) e (λ m. reached_within f b n m r h)
  where
    by : (x : Answer (Option (Row × ℕ))) → (past at (walk_to f b n) x).reached ≡ accepted r
        → ((m : ℕ) → (walk_to f b n m).reached ≡ accepted r → r.place + r.size ≤ length b) → r.place + r.size ≤ length b
    by (refused k) e g = clash (cc)
    by (accepted none) e g = clash (cc)
    by (accepted (some v)) e g = g v.1 e

-- ---- a walk under way

-- k heads, and those of the rest
abbrev arrived_after : ℕ → Walk → Answer (Row × ℕ)
arrived_after k w = next w.reached (λ r. accepted (r, k + length w.visited))

after_none : (w : Walk) → arrived_after 0 w ≡ arrived w
after_none w = by w.reached
  where
    by : (x : Answer Row) → next {B = Row × ℕ} x (λ r. accepted (r, 0 + length w.visited)) ≡ next x (λ r. accepted (r, length w.visited))
    by (accepted r) = ap (λ k. accepted (r, k)) (zero-add (length w.visited))
    by (refused n) = refl

after_one : (k at : ℕ) (w : Walk) → arrived_after k (goes_on at w) ≡ arrived_after (k + 1) w
after_one k at w = by w.reached
  where
    by : (x : Answer Row) → next {B = Row × ℕ} x (λ r. accepted (r, k + length (at ∷ w.visited))) ≡ next x (λ r. accepted (r, k + 1 + length w.visited))
    by (accepted r) = let i : k + length (at ∷ w.visited) ≡ k + 1 + length w.visited = omega arith in ap (λ j. accepted (r, j)) i
    by (refused n) = refl

-- a walk from `from` to frame n that has come to `at` past k heads: the rest of it leads where the whole does
pub record Going (f : Format) (b : List ℕ) (from n at k : ℕ) : Type 0 where
  pub few : k ≤ at
  pub ahead : k ≤ n
  pub same : arrived_after k (walk_to f b (n - k) at) ≡ arrived (walk_to f b n from)

pub going_starts : (f : Format) (b : List ℕ) (from n : ℕ) → Going f b from n from 0
going_starts f b from n =
    let i : n - 0 ≡ n = omega arith in
    record { few = omega arith; ahead = omega arith; same = ap (λ j. arrived_after 0 (walk_to f b j from)) i ∙ after_none (walk_to f b n from) }

module _ {f : Format} {b : List ℕ} {from n at k : ℕ} (g : Going f b from n at k) where
  pub going_stopped : {m : ℕ} → refused m ≡ frame_there f b at → refused m ≡ arrived (walk_to f b n from)
  going_stopped {m} e = by (head_or_end f b at) e (n - k) refl ∙ g.same
    where
      by : (x : Answer (Option (Row × ℕ))) → refused m ≡ next x or_missing → (j : ℕ) → head_or_end f b at ≡ x → refused m ≡ arrived_after k (walk_to f b j at)
      by (refused i) e zero h = rw h e
      by (refused i) e (suc j) h = rw h e
      by (accepted none) e zero h = rw h e
      by (accepted none) e (suc j) h = rw h e
      by (accepted (some r)) e j h = clash (cc)

  module _ {v : Row} {m : ℕ} (e : accepted (some (v, m)) ≡ head_or_end f b at) where
    pub going_arrived : k ≡ n → accepted (v, k + 1) ≡ arrived (walk_to f b n from)
    going_arrived i =
        let j : n - k ≡ 0 = omega arith in
        let here : accepted (v, k + 1) ≡ arrived_after k (walk_to f b 0 at) = rw (← e) in
        here ∙ ap (λ d. arrived_after k (walk_to f b d at)) (sym j) ∙ g.same

    pub going_on : (k ≡ n → ⊥) → Going f b from n m (k + 1)
    going_on i =
        let j : n - k ≡ suc (n - (k + 1)) = omega (arith, i, g.ahead) in
        let on : goes_on at (walk_to f b (n - (k + 1)) m) ≡ walk_to f b (suc (n - (k + 1))) at = rw (← e) in
        record {
          few = omega (arith, g.few, (head-turn f b at e).later);
          ahead = omega (arith, g.ahead, i);
          same =
              sym (after_one k at (walk_to f b (n - (k + 1)) m)) ∙ ap (arrived_after k) on ∙ ap (λ d. arrived_after k (walk_to f b d at)) (sym j) ∙ g.same;
        }
