-- What a loop that writes the records of a walk over a list keeps: nothing of the machine, nothing of memory.
--     starts    at the start;    goes_on_lem    after one more record;    ends    at the end the list holds them
-- Assumes nothing.
use Rattle.std.specs.Prelude.{◌≡◌, refl, List, ◌∷◌, ◌++◌, length, set}
use Rattle.std.proofs.Math.Path.{sym, ap}
use Rattle.std.proofs.Common.{◌∙◌, append-nil, add-one, length-set, take-suc-set, take_all}
use Prim.Native.Nat.{ℕ, zero, suc, ◌+◌, ◌-◌, ◌<◌, ◌≤◌}
use native.Mathlib.Omega.{arith}
use Rattle.std.proofs.Math.ListN.{take}
use Rattle.std.proofs.Math.Seq.{append_snoc}
use Rattle.gdb_data.specs.declared.FrameLayout.{FrameLayout}
use Rattle.gdb_table.specs.declared.FrameRecord.{FrameRecord}
use Rattle.gdb_table.specs.declared.Step.{Step}
use Rattle.gdb_table.specs.Walk.{step_from, records_from}

-- of n records i are written, the walk stands at `at`, and the list is ws
pub record Filling (m : FrameLayout) (b : List ℕ) (n start i at : ℕ) (ws : List FrameRecord) : Type 0 where
  pub long : length ws ≡ n
  pub done : take i ws ++ records_from m b (n - i) at ≡ records_from m b n start

pub length-records : (m : FrameLayout) (b : List ℕ) (n at : ℕ) → length (records_from m b n at) ≡ n
unfolding records_from
length-records m b zero at = refl
length-records m b (suc n) at = ap suc (length-records m b n (step_from m b at).next)

module _ (m : FrameLayout) (b : List ℕ) (n start : ℕ) where
  pub starts : (ws : List FrameRecord) → length ws ≡ n → Filling m b n start 0 start ws
  starts ws e = let i : n - 0 ≡ n = omega arith in record { long = e; done = ap (λ k. records_from m b k start) i }

module _ {m : FrameLayout} {b : List ℕ} {n start i at : ℕ} {ws : List FrameRecord} (f : Filling m b n start i at ws) where
  one_more : i < n → records_from m b (n - i) at ≡ (step_from m b at).found ∷ records_from m b (n - (i + 1)) (step_from m b at).next
  unfolding records_from
  one_more less =
      let e : n - i ≡ suc (n - (i + 1)) = omega arith in
      ap (λ k. records_from m b k at) e

  pub goes_on_lem : i < n → (r : Step) → r ≡ step_from m b at → Filling m b n start (i + 1) r.next (set ws i r.found)
  goes_on_lem less r e =
      let within : i < length ws = omega (arith, f.long) in
      record {
        long = length-set ws i r.found ∙ f.long;
        done =
            ap (λ k. take k (set ws i r.found) ++ records_from m b (n - (i + 1)) r.next) (add-one i)
            ∙ ap (λ l. l ++ records_from m b (n - (i + 1)) r.next) (take-suc-set ws i r.found within)
            ∙ append_snoc (take i ws) r.found (records_from m b (n - (i + 1)) r.next)
            ∙ ap (λ (z : Step). take i ws ++ (z.found ∷ records_from m b (n - (i + 1)) z.next)) e
            ∙ ap (λ l. take i ws ++ l) (sym (one_more less))
            ∙ f.done;
      }

  pub ends : n ≤ i → ws ≡ records_from m b n start
  unfolding records_from
  ends over =
      let e : 0 ≡ n - i = omega arith in
      let all : take i ws ≡ ws = take_all i ws (omega (arith, f.long)) in
      sym all ∙ sym (append-nil (take i ws)) ∙ ap (λ k. take i ws ++ records_from m b k at) e ∙ f.done
