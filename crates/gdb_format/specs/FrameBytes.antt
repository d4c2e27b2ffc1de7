-- A frame's bytes: its head, 6 bytes, and then its data.
-- Assumes nothing.
use Rattle.std.specs.Prelude.{◌≡◌, ℕ, ◌+◌, List, ◌++◌, length}
use Rattle.std.proofs.Common.{arith}
use Rattle.fields.specs.Lists.{regroup}
use Rattle.fields.specs.Number.{field, length-field, field-before}
use Rattle.gdb_format.specs.Trace.{put_data}
use Rattle.gdb_format.specs.declared.Format.{Format}

module _ (f : Format) (h : ℕ × List ℕ) where
  -- the head alone
  abbrev pub head_bytes : List ℕ
  head_bytes = field f.order 2 h.0 ++ field f.order 4 (length h.1)

  pub head-long : length head_bytes ≡ 6
  head-long = omega (arith, field-before f.order 2 h.0 (field f.order 4 (length h.1)), length-field f.order 4 (length h.1))

  -- head and data, and what follows them
  pub head_first : (rest : List ℕ) → head_bytes ++ (h.1 ++ rest) ≡ put_data f h ++ rest
  head_first rest = regroup (field f.order 2 h.0) (field f.order 4 (length h.1)) h.1 rest

  pub frame-long : length (put_data f h) ≡ 6 + length h.1
  frame-long =
      let o = f.order in
      let d = h.1 in
      omega (arith, field-before o 2 h.0 (field o 4 (length d) ++ d), field-before o 4 (length d) d)
