-- A copy of bytes that have room: all of them stand at the output's front.
-- Assumes nothing.
use Rattle.std.specs.Prelude.{◌≡◌, ℕ, ◌≤◌, List, ◌++◌, length, take, drop, min}
use Rattle.std.proofs.Common.{ap, ◌∙◌, arith}

module _ (c before after : List ℕ) (r : ℕ) (count : r ≡ min (length c) (length before)) (h : length c ≤ length before) where
  pub count_all : r ≡ length c
  count_all = omega (arith, count)

  pub written_all : after ≡ take r c ++ drop r before → after ≡ take (length c) c ++ drop (length c) before
  written_all e = e ∙ ap (λ n. take n c ++ drop n before) count_all
