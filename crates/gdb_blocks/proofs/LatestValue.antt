-- C-13: the last variable block counts. Variable v in frame n is x exactly where, of the frame's blocks, a `V` block with the number v has the value x
-- and no later block has that number.
-- Assumes nothing.
use Rattle.std.specs.Prelude.{◌≡◌, ℕ, Bool, true, false, cond, ◌↔◌, List, ◌∷◌, ◌++◌, ℤ, ◌==◌, refl}
use Rattle.std.proofs.Common.{sym, ap, ap₂, ◌∙◌, eqb-true, eq-eqb}
use Rattle.std.proofs.Math.Option.{Option, none, some, some-injective}
use Rattle.fields.specs.Lists.{each_map, clash}
use Rattle.fields.specs.Answer.{accepted, next_inv}
use Rattle.fields.specs.Element.{nth}
use Rattle.gdb_format.specs.Trace.{Block, registers, memory, variable}
use Rattle.gdb_format.specs.Decode.{read}
use Rattle.gdb_format.specs.declared.Settings.{Settings}
use Rattle.gdb_frames.specs.Questions.{asked}
use Rattle.gdb_blocks.specs.Latest.{Latest}
use Rattle.gdb_blocks.proofs.Latest.{latest-is}
use Rattle.gdb_blocks.specs.Held.{value_of}
use Rattle.gdb_blocks.specs.Search.{variable_at}
use Rattle.gdb_blocks.specs.LatestValue.{OtherThan, LatestValue}

-- ---- what a block gives variable v

value-forth : (v : ℕ) (z : Block) (x : ℤ) → value_of v z ≡ some x → z ≡ variable v x
value-forth v (registers d) x e = clash (cc)
value-forth v (memory a d) x e = clash (cc)
value-forth v (variable m y) x e = by (m == v) refl e
  where
    by : (t : Bool) → (m == v) ≡ t → ◌≡◌ {A = Option ℤ} (cond {A = Option ℤ} t (some y) none) (some x) → variable m y ≡ variable v x
    by true i e = ap₂ variable (eqb-true m v i) (some-injective _ _ e)
    by false i e = clash (cc)

value-back : (v : ℕ) (z : Block) (x : ℤ) → z ≡ variable v x → value_of v z ≡ some x
value-back v z x e = ap (value_of v) e ∙ rw (eq-eqb v v refl)

other-forth : (v : ℕ) (z : Block) → value_of v z ≡ none → OtherThan v z
other-forth v z e y i = let q : ◌≡◌ {A = Option ℤ} none (some y) = sym e ∙ value-back v z y i in clash (cc)

other-back : (v : ℕ) (z : Block) → OtherThan v z → value_of v z ≡ none
other-back v (registers d) h = refl
other-back v (memory a d) h = refl
other-back v (variable m y) h = by (m == v) refl
  where
    by : (t : Bool) → (m == v) ≡ t → ◌≡◌ {A = Option ℤ} (cond {A = Option ℤ} t (some y) none) none
    by true i = absurd (h y (ap (λ k. variable k y) (eqb-true m v i)))
    by false i = refl

-- ---- the question

pub variable_exactly : (s : Settings) (b : List ℕ) (n v : ℕ) (x : ℤ) → (asked s b (variable_at n v) ≡ accepted x) ↔ LatestValue s b n v x
variable_exactly s b n v x = (forth, back)
  where
    forth : asked s b (variable_at n v) ≡ accepted x → LatestValue s b n v x
    forth e =
        let u = next_inv (read s b) (λ r. variable_at n v r.0 r.1) e in
        let w = next_inv (nth u.0.1.frames n) _ u.2 in
        let q = (latest-is (value_of v) w.0.blocks x).0 w.2 in
        record {
          format = u.0.0;
          trace = u.0.1;
          frame = w.0;
          before = q.before;
          after = q.after;
          was_read = u.1;
          is-frame = w.1;
          blocks_are = q.split ∙ ap (λ z. q.before ++ z ∷ q.after) (value-forth v q.element x q.finds);
          none-later = each_map (other-forth v) q.after q.none_after;
        }

    found : (q : LatestValue s b n v x) → Latest (value_of v) q.frame.blocks x
    found q =
        record {
          before = q.before;
          element = variable v x;
          after = q.after;
          split = q.blocks_are;
          none_after = each_map (other-back v) q.after q.none-later;
          finds = value-back v (variable v x) x refl;
        }

    back : LatestValue s b n v x → asked s b (variable_at n v) ≡ accepted x
    back q = rw (q.was_read, q.is-frame) ((latest-is (value_of v) q.frame.blocks x).1 (found q))
