-- C-20's cases, in bytes written out: a second register block in a frame, what is judged ahead of it and behind it, and what is none.
-- Assumes nothing.
use Rattle.std.specs.Prelude.{◌≡◌, refl, true, ℕ, zero, suc, List, [], ◌∷◌, ◌++◌, take, replicate}
use Rattle.fields.specs.Lists.{Each}
use Rattle.fields.specs.Answer.{accepted, refused}
use Rattle.gdb_format.specs.Trace.{opening, encode}
use Rattle.gdb_format.specs.Decode.{read}
use Rattle.gdb_cut.specs.Cut.{cut_of}
use Rattle.gdb_join.specs.Join.{join_of}
use Rattle.paper_cases.specs.Cases.{frames, registers, memory, cut, rows, bytes, Case, Holds, in_settings, bare, two, row, range}
use Rattle.paper_cases.specs.Edges.{ordered, framed, register_line, stated, little}

-- `R 0`
abbrev size_zero : List ℕ → List ℕ
size_zero b = register_line (0x30 ∷ []) ++ b

-- register blocks of two bytes: AA BB, CC DD, and two that are `R`
abbrev first : List ℕ
first = 0x52 ∷ 0xAA ∷ 0xBB ∷ []

abbrev second : List ℕ
second = 0x52 ∷ 0xCC ∷ 0xDD ∷ []

abbrev letters : List ℕ
letters = 0x52 ∷ 0x52 ∷ 0x52 ∷ []

-- `M` of two bytes, all of them `R` but its length; `V`, all `R`; a bad letter
abbrev stored : ℕ → List ℕ
stored zero = 0x4D ∷ replicate 8 0x52 ++ 2 ∷ 0 ∷ 0x52 ∷ 0x52 ∷ []
stored (suc o) = 0x4D ∷ replicate 8 0x52 ++ 0 ∷ 2 ∷ 0x52 ∷ 0x52 ∷ []

abbrev value : List ℕ
value = 0x56 ∷ replicate 12 0x52

abbrev bad : List ℕ
bad = 0x58 ∷ []

module _ (o : ℕ) where
  -- ---- 24

  abbrev seconds : List Case
  seconds =
      -- side by side; with a variable, memory, both between; behind others; three; the registers of frame 0 are not answered either
      ordered o (two (framed o 1 (first ++ second))) frames (refused 24)
      ∷ ordered o (two (framed o 1 (first ++ value ++ second))) frames (refused 24)
      ∷ ordered o (two (framed o 1 (first ++ stored o ++ second))) frames (refused 24)
      ∷ ordered o (two (framed o 1 (stored o ++ first ++ value ++ stored o ++ second ++ value))) frames (refused 24)
      ∷ ordered o (two (framed o 1 (first ++ second ++ first))) frames (refused 24)
      ∷ ordered o (two (framed o 1 (first ++ second))) (registers 0) (refused 24)
      -- the second cut short after its first byte, and after its letter; a bad letter, or a block past the data, behind it
      ∷ ordered o (two (framed o 1 (first ++ 0x52 ∷ 0xCC ∷ []))) frames (refused 24)
      ∷ ordered o (two (framed o 1 (first ++ 0x52 ∷ []))) frames (refused 24)
      ∷ ordered o (two (framed o 1 (first ++ second ++ bad))) frames (refused 24)
      ∷ ordered o (two (framed o 1 (first ++ second ++ 0x56 ∷ []))) frames (refused 24)
      -- `R 0`: two letters, side by side and apart
      ∷ ordered o (size_zero (framed o 1 (0x52 ∷ 0x52 ∷ []))) frames (refused 24)
      ∷ ordered o (size_zero (framed o 1 (0x52 ∷ value ++ 0x52 ∷ []))) frames (refused 24)
      -- in the second frame; ahead of a bad frame, and of a head that is cut short
      ∷ ordered o (two (framed o 1 first ++ framed o 2 (first ++ second))) frames (refused 24)
      ∷ ordered o (two (framed o 1 (first ++ second) ++ framed o 2 bad)) frames (refused 24)
      ∷ ordered o (two (framed o 1 (first ++ second) ++ 1 ∷ [])) frames (refused 24)
      ∷ []

  -- ---- what comes first

  abbrev ahead : List Case
  ahead =
      -- a bad letter, or a block past the data, before the second; `r` for the second; the first cut short
      ordered o (two (framed o 1 (first ++ bad ++ second))) frames (refused 8)
      ∷ ordered o (two (framed o 1 (bad ++ first ++ second))) frames (refused 8)
      ∷ ordered o (two (framed o 1 (first ++ 0x72 ∷ 0xCC ∷ 0xDD ∷ []))) frames (refused 8)
      ∷ ordered o (two (framed o 1 (first ++ 0x56 ∷ 0x52 ∷ 0x52 ∷ []))) frames (refused 9)
      ∷ ordered o (two (framed o 1 (0x52 ∷ 0xAA ∷ []))) frames (refused 9)
      -- no R line: 10 at the first; the data of the frame, and the frame before
      ∷ ordered o (bare (framed o 1 (first ++ second))) frames (refused 10)
      ∷ ordered o (two (take 11 (framed o 1 (first ++ second)))) frames (refused 7)
      ∷ ordered o (two (framed o 1 bad ++ framed o 2 (first ++ second))) frames (refused 8)
      ∷ []

  -- ---- no second

  abbrev sound : List Case
  sound =
      -- one block in each of two frames
      ordered o (two (framed o 1 first ++ framed o 1 second)) (registers 0) (accepted (bytes (0xAA ∷ 0xBB ∷ [])))
      ∷ ordered o (two (framed o 1 first ++ framed o 1 second)) (registers 1) (accepted (bytes (0xCC ∷ 0xDD ∷ [])))
      -- bytes that are `R`, of registers, memory and a variable; two of each other kind
      ∷ ordered o (two (framed o 1 letters)) (registers 0) (accepted (bytes (0x52 ∷ 0x52 ∷ [])))
      ∷ ordered o (two (framed o 1 (letters ++ stored o ++ value))) frames (accepted (rows (row 1 19 29 ∷ [])))
      ∷ ordered o (two (framed o 1 (value ++ stored o ++ letters))) (registers 0) (accepted (bytes (0x52 ∷ 0x52 ∷ [])))
      ∷ ordered o (two (framed o 1 (value ++ stored o ++ first ++ stored o ++ value))) (registers 0) (accepted (bytes (0xAA ∷ 0xBB ∷ [])))
      ∷ ordered o (two (framed o 1 (letters ++ stored o))) (memory 0 0x5252525252525252) (accepted (bytes (0x52 ∷ 0x52 ∷ [])))
      -- `R 0`: one letter
      ∷ ordered o (size_zero (framed o 1 (0x52 ∷ value))) (registers 0) (accepted (bytes []))
      -- each frame is judged by itself, also behind one without registers
      ∷ ordered o (two (framed o 1 first ++ framed o 2 value ++ framed o 3 second)) (registers 2) (accepted (bytes (0xCC ∷ 0xDD ∷ [])))
      ∷ []

pub seconds_hold : Each Holds (seconds 0) × Each Holds (seconds 1)
unfolding read opening
seconds_hold = (
  (refl, (refl, (refl, (refl, (refl, (refl, (refl, (refl, (refl, (refl, (refl, (refl, (refl, (refl, (refl, tt))))))))))))))),
  (refl, (refl, (refl, (refl, (refl, (refl, (refl, (refl, (refl, (refl, (refl, (refl, (refl, (refl, (refl, tt))))))))))))))),
)

pub ahead_hold : Each Holds (ahead 0) × Each Holds (ahead 1)
unfolding read opening
ahead_hold = (
  (refl, (refl, (refl, (refl, (refl, (refl, (refl, (refl, tt)))))))),
  (refl, (refl, (refl, (refl, (refl, (refl, (refl, (refl, tt)))))))),
)

pub sound_hold : Each Holds (sound 0) × Each Holds (sound 1)
unfolding read opening
sound_hold = (
  (refl, (refl, (refl, (refl, (refl, (refl, (refl, (refl, (refl, tt))))))))),
  (refl, (refl, (refl, (refl, (refl, (refl, (refl, (refl, (refl, tt))))))))),
)

-- `R 10`, and 17 bytes of `R`: one block of 16 bytes in base 16, in base 10 one of 10 and then a second letter
abbrev both : List ℕ
both = register_line (0x31 ∷ 0x30 ∷ []) ++ framed 0 1 (replicate 17 0x52)

pub bases_hold : Each Holds (
    in_settings (record { order = 0; base = 16 }) both (registers 0) (accepted (bytes (replicate 16 0x52)))
    ∷ in_settings (record { order = 0; base = 10 }) both (registers 0) (refused 24)
    ∷ [])
unfolding read opening
bases_hold = (refl, (refl, tt))

-- ---- cuts and joins bring none about

pub cuts_hold : Holds (ordered 0 (two (framed 0 1 first ++ framed 0 2 value ++ framed 0 1 second)) (cut (stated 1 true (range 1 1)))
    (accepted (bytes (two (framed 0 1 first ++ framed 0 1 second)))))
unfolding read opening encode cut_of
cuts_hold = refl

pub joins_hold : (little (two (framed 0 1 first)) (two (framed 0 1 second)) ≡ accepted (two (framed 0 1 first ++ framed 0 1 second)))
    × (little (two (framed 0 1 first)) (two (framed 0 1 (first ++ second))) ≡ refused 24)
    × (little (two (framed 0 1 (first ++ second))) (two (framed 0 1 bad)) ≡ refused 24)
unfolding read opening encode join_of
joins_hold = (refl, refl, refl)
