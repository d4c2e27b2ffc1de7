-- C-13's cases, in bytes written out: which block of a variable counts, what is none of its blocks, pairs, and that memory stays with the earliest block.
-- Assumes nothing.
use Rattle.std.specs.Prelude.{◌≡◌, refl, ℕ, zero, suc, List, [], ◌∷◌, ◌++◌, length, replicate, ℤ, pos, negsuc}
use Rattle.fields.specs.Lists.{Each}
use Rattle.fields.specs.Answer.{Answer, accepted, refused}
use Rattle.gdb_format.specs.Trace.{opening, encode}
use Rattle.gdb_format.specs.Settings.{default_settings}
use Rattle.gdb_format.specs.Decode.{read}
use Rattle.gdb_join.specs.Join.{join_of}
use Rattle.gdb_pair.specs.Pair.{pair_variable}
use Rattle.paper_cases.specs.Cases.{memory, variable, bytes, value, Case, Holds, bare, two}
use Rattle.paper_cases.specs.Edges.{ordered, framed, register_line}

-- `V` with a number and a value below 256, in byte order o; and with the value -1
abbrev pub valued : ℕ → ℕ → ℕ → List ℕ
valued zero n x = 0x56 ∷ n ∷ 0 ∷ 0 ∷ 0 ∷ x ∷ replicate 7 0
valued (suc o) n x = 0x56 ∷ 0 ∷ 0 ∷ 0 ∷ n ∷ replicate 7 0 ++ x ∷ []

abbrev minus_one : ℕ → ℕ → List ℕ
minus_one zero n = 0x56 ∷ n ∷ 0 ∷ 0 ∷ 0 ∷ replicate 8 0xFF
minus_one (suc o) n = 0x56 ∷ 0 ∷ 0 ∷ 0 ∷ n ∷ replicate 8 0xFF

-- `V` with the number 0x01000001, which reads alike in both byte orders and is 1 in its low 24 bits
abbrev wide : ℕ → ℕ → List ℕ
wide zero x = 0x56 ∷ 1 ∷ 0 ∷ 0 ∷ 1 ∷ x ∷ replicate 7 0
wide (suc o) x = 0x56 ∷ 1 ∷ 0 ∷ 0 ∷ 1 ∷ replicate 7 0 ++ x ∷ []

-- `M` at an address below 256, with fewer than 256 bytes
abbrev pub stored : ℕ → ℕ → List ℕ → List ℕ
stored zero a d = 0x4D ∷ a ∷ replicate 7 0 ++ length d ∷ 0 ∷ d
stored (suc o) a d = 0x4D ∷ replicate 7 0 ++ a ∷ 0 ∷ length d ∷ d

-- `R` with the registers AA BB
abbrev pub registered : List ℕ
registered = 0x52 ∷ 0xAA ∷ 0xBB ∷ []

-- `R d`: registers of 13 bytes, as many as a `V` block has
abbrev thirteen : List ℕ → List ℕ
thirteen b = register_line (0x64 ∷ []) ++ b

module _ (o : ℕ) where
  -- two bytes of memory at address 7
  abbrev two_bytes : List ℕ
  two_bytes = stored o 7 (0x11 ∷ 0x22 ∷ [])

  -- variable 1 in a frame with these data
  abbrev is : List ℕ → ℤ → Case
  is d x = ordered o (two (framed o 1 d)) (variable 0 1) (accepted (value x))

  abbrev counts : List Case
  counts =
      -- one block: alone, first, last, between others
      is (valued o 1 5) (pos 5)
      ∷ is (valued o 1 5 ++ two_bytes ++ registered ++ valued o 2 9) (pos 5)
      ∷ is (valued o 2 9 ++ two_bytes ++ registered ++ valued o 1 5) (pos 5)
      ∷ is (two_bytes ++ valued o 0 9 ++ valued o 1 5 ++ valued o 2 9 ++ registered) (pos 5)
      -- two: side by side, apart, with others behind; a smaller value, a negative one, the same
      ∷ is (valued o 1 5 ++ valued o 1 6) (pos 6)
      ∷ is (valued o 1 5 ++ two_bytes ++ valued o 2 9 ++ registered ++ valued o 1 6) (pos 6)
      ∷ is (two_bytes ++ valued o 1 5 ++ valued o 2 8 ++ valued o 1 6 ++ valued o 2 9 ++ two_bytes) (pos 6)
      ∷ is (valued o 1 6 ++ valued o 1 5) (pos 5)
      ∷ is (valued o 1 6 ++ minus_one o 1) (negsuc 0)
      ∷ is (minus_one o 1 ++ valued o 1 0) (pos 0)
      ∷ is (valued o 1 5 ++ valued o 1 5) (pos 5)
      -- three: side by side, the first value again, apart
      ∷ is (valued o 1 5 ++ valued o 1 6 ++ valued o 1 7) (pos 7)
      ∷ is (valued o 1 5 ++ valued o 1 6 ++ valued o 1 5) (pos 5)
      ∷ is (valued o 1 5 ++ registered ++ valued o 1 7 ++ valued o 2 9 ++ valued o 1 6 ++ two_bytes) (pos 6)
      -- the other number in such a frame; each frame by itself
      ∷ ordered o (two (framed o 1 (valued o 1 5 ++ valued o 2 8 ++ valued o 1 6 ++ valued o 2 9))) (variable 0 2) (accepted (value (pos 9)))
      ∷ ordered o (bare (framed o 1 (valued o 1 5) ++ framed o 1 (valued o 1 6))) (variable 0 1) (accepted (value (pos 5)))
      ∷ ordered o (bare (framed o 1 (valued o 1 5) ++ framed o 1 (valued o 1 6))) (variable 1 1) (accepted (value (pos 6)))
      ∷ []

  abbrev others : List Case
  others =
      -- a whole `V` block in bytes of memory and of registers, behind the variable's and by itself
      is (valued o 1 5 ++ stored o 7 (valued o 1 6)) (pos 5)
      ∷ ordered o (bare (framed o 1 (stored o 7 (valued o 1 6)))) (variable 0 1) (refused 12)
      ∷ ordered o (thirteen (framed o 1 (valued o 1 5 ++ 0x52 ∷ valued o 1 6))) (variable 0 1) (accepted (value (pos 5)))
      ∷ ordered o (thirteen (framed o 1 (0x52 ∷ valued o 1 6))) (variable 0 1) (refused 12)
      -- other numbers, also one with the same low bits; a number in a value
      ∷ ordered o (bare (framed o 1 (valued o 0 5 ++ valued o 2 6))) (variable 0 1) (refused 12)
      ∷ is (valued o 1 5 ++ wide o 6) (pos 5)
      ∷ ordered o (bare (framed o 1 (wide o 6))) (variable 0 1) (refused 12)
      ∷ ordered o (bare (framed o 1 (wide o 6 ++ valued o 1 5))) (variable 0 0x01000001) (accepted (value (pos 6)))
      ∷ is (valued o 1 5 ++ valued o 2 1) (pos 5)
      -- no block; one in the frames beside it only; no frame
      ∷ ordered o (bare (framed o 1 [])) (variable 0 1) (refused 12)
      ∷ ordered o (bare (framed o 1 (valued o 1 5) ++ framed o 1 (valued o 2 9) ++ framed o 1 (valued o 1 6))) (variable 1 1) (refused 12)
      ∷ ordered o (bare (framed o 1 (valued o 1 5))) (variable 1 1) (refused 12)
      -- memory: the earliest block that covers the address
      ∷ ordered o (bare (framed o 1 (stored o 7 (0x11 ∷ []) ++ stored o 7 (0x22 ∷ [])))) (memory 0 7) (accepted (bytes (0x11 ∷ [])))
      ∷ ordered o (bare (framed o 1 (stored o 7 (0x11 ∷ []) ++ stored o 7 (0x22 ∷ 0x33 ∷ [])))) (memory 0 8) (accepted (bytes (0x33 ∷ [])))
      ∷ []

pub counts_hold : Each Holds (counts 0) × Each Holds (counts 1)
unfolding read opening
counts_hold = (
  (refl, (refl, (refl, (refl, (refl, (refl, (refl, (refl, (refl, (refl, (refl, (refl, (refl, (refl, (refl, (refl, (refl, tt))))))))))))))))),
  (refl, (refl, (refl, (refl, (refl, (refl, (refl, (refl, (refl, (refl, (refl, (refl, (refl, (refl, (refl, (refl, (refl, tt))))))))))))))))),
)

pub others_hold : Each Holds (others 0) × Each Holds (others 1)
unfolding read opening
others_hold = (
  (refl, (refl, (refl, (refl, (refl, (refl, (refl, (refl, (refl, (refl, (refl, (refl, (refl, (refl, tt)))))))))))))),
  (refl, (refl, (refl, (refl, (refl, (refl, (refl, (refl, (refl, (refl, (refl, (refl, (refl, (refl, tt)))))))))))))),
)

-- ---- pairs: the first has variable 1 twice in its frame, the second three times; variable 3 is the first's alone, 4 the second's

module _ (o : ℕ) where
  abbrev in_pair : ℕ → ℕ → Answer ℤ
  in_pair n v =
      pair_variable (default_settings o) (bare (framed o 1 (valued o 1 5 ++ valued o 2 9 ++ valued o 1 6 ++ valued o 3 4)))
      (bare (framed o 1 (valued o 1 7 ++ valued o 1 8 ++ minus_one o 1 ++ valued o 2 3 ++ valued o 4 2))) n v

  abbrev PairsHold : Type 0
  PairsHold =
      (in_pair 0 1 ≡ accepted (pos 6)) × (in_pair 1 1 ≡ accepted (negsuc 0)) × (in_pair 0 2 ≡ accepted (pos 9)) × (in_pair 1 2 ≡ accepted (pos 3))
      × (in_pair 0 3 ≡ accepted (pos 4)) × (in_pair 1 3 ≡ refused 12) × (in_pair 0 4 ≡ refused 12) × (in_pair 2 1 ≡ refused 12)

pub pairs_hold : PairsHold 0 × PairsHold 1
unfolding read opening encode join_of pair_variable
pairs_hold = ((refl, refl, refl, refl, refl, refl, refl, refl), (refl, refl, refl, refl, refl, refl, refl, refl))
