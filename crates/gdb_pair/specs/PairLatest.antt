-- C-13 of a pair: variable v in its frame n is x exactly where the two can be joined and, of the blocks of the join's frame n, a `V` block with the number v
-- has the value x and no later block has that number.
-- Assumes nothing.
use Rattle.std.specs.Prelude.{◌≡◌, ◌↔◌, ℕ, List, ℤ}
use Rattle.std.proofs.Common.{ap, ◌∙◌}
use Rattle.fields.specs.Answer.{accepted, next, next_inv}
use Rattle.gdb_format.specs.declared.Settings.{Settings}
use Rattle.gdb_frames.specs.Questions.{asked}
use Rattle.gdb_blocks.specs.Search.{variable_at}
use Rattle.gdb_blocks.specs.LatestValue.{LatestValue}
use Rattle.gdb_blocks.proofs.LatestValue.{variable_exactly}
use Rattle.gdb_join.specs.Join.{join_of}
use Rattle.gdb_pair.specs.Pair.{pair_variable}

pub pair_variable_exactly : (s : Settings) (a b : List ℕ) (n v : ℕ) (x : ℤ)
    → (pair_variable s a b n v ≡ accepted x) ↔ ((c : List ℕ) × (join_of s a b ≡ accepted c) × LatestValue s c n v x)
unfolding pair_variable
pair_variable_exactly s a b n v x = (
  (λ e. let q = next_inv (join_of s a b) (λ c. asked s c (variable_at n v)) e in (q.0, q.1, (variable_exactly s q.0 n v x).0 q.2)),
  (λ q. ap (λ y. next y (λ c. asked s c (variable_at n v))) q.1 ∙ (variable_exactly s q.0 n v x).1 q.2),
)
