-- Lists of parts by the heads of a walk, in which the theorems about the parts that are read speak (proofs/PartsRead.antt).
-- Assumes nothing.
use Rattle.std.specs.Prelude.{ℕ, ◌+◌}
use mathlib.Core.List.{List, [], ◌∷◌}
use Rattle.std.proofs.Math.ListN.{length}
use Rattle.gdb_format.specs.Trace.{put_data}
use Rattle.gdb_format.specs.declared.Format.{Format}

-- six bytes at each of these heads, the first of which stands at `at`; and what is read where they end
abbrev pub heads_from : Format → ℕ → List (ℕ × List ℕ) → (ℕ → List (ℕ × ℕ)) → List (ℕ × ℕ)
heads_from f at [] last = last at
heads_from f at (h ∷ hs) last = (at, 6) ∷ heads_from f (at + length (put_data f h)) hs last

-- where no head stands, six bytes or as many as there are
abbrev pub no_head : ℕ → List (ℕ × ℕ)
no_head at = (at, 6) ∷ []

-- the head of frame n, and its data
abbrev pub head_and_data : ℕ × List ℕ → ℕ → List (ℕ × ℕ)
head_and_data h at = (at, 6) ∷ (at + 6, length h.1) ∷ []
