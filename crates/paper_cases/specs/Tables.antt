-- C-19's cases, in bytes written out: what the table's records say of registers, and what lent records get of them.
-- Assumes nothing.
use Rattle.std.specs.Prelude.{◌≡◌, refl, ℕ, List, [], ◌∷◌, ◌++◌, replicate}
use Rattle.fields.specs.Lists.{Each}
use Rattle.fields.specs.Answer.{Answer, accepted, refused}
use Rattle.fields.specs.Output.{answer, exit}
use Rattle.gdb_format.specs.Trace.{opening}
use Rattle.gdb_format.specs.Settings.{default_settings}
use Rattle.gdb_format.specs.Decode.{read}
use Rattle.gdb_format.specs.declared.Settings.{Settings}
use Rattle.gdb_frames.specs.Questions.{asked}
use Rattle.gdb_table.specs.Records.{frame_table}
use Rattle.gdb_table.specs.declared.FrameRecord.{FrameRecord}
use Rattle.paper_cases.specs.Cases.{bare, two}
use Rattle.paper_cases.specs.Edges.{framed, register_line}
use Rattle.paper_cases.specs.Variables.{valued, stored, registered}

-- a record with its number, place and size: no registers; registers at a place
abbrev without : ℕ → ℕ → ℕ → FrameRecord
without n at size = record { tracepoint = n; has_registers = 0; place = at; size = size; registers_place = 0 }

abbrev having : ℕ → ℕ → ℕ → ℕ → FrameRecord
having n at size p = record { tracepoint = n; has_registers = 1; place = at; size = size; registers_place = p }

-- a file and its table
abbrev Tabled : Settings → List ℕ × List FrameRecord → Type 0
Tabled s c = asked s c.0 frame_table ≡ accepted c.1

-- behind `R 0`
abbrev no_bytes : List ℕ → List ℕ
no_bytes b = register_line (0x30 ∷ []) ++ b

-- behind `R 10`, which is 10 or 16, a frame with ten bytes of registers
abbrev ten_bytes : ℕ → List ℕ
ten_bytes o = register_line (0x31 ∷ 0x30 ∷ []) ++ framed o 1 (0x52 ∷ replicate 10 0x52)

module _ (o : ℕ) where
  -- memory at address 0x52 whose bytes are `R`: 13 bytes in all
  abbrev letters : List ℕ
  letters = stored o 0x52 (0x52 ∷ 0x52 ∷ [])

  -- no register block; first, last, between memory blocks whose bytes are `R`; alone
  abbrev tables : List (List ℕ × List FrameRecord)
  tables =
      (two [], [])
      ∷ (two (framed o 1 []), without 1 19 0 ∷ [])
      ∷ (two (framed o 7 (letters ++ valued o 0x52 0x52)), without 7 19 26 ∷ [])
      ∷ (two (framed o 1 (registered ++ letters)), having 1 19 16 20 ∷ [])
      ∷ (two (framed o 1 (letters ++ registered)), having 1 19 16 33 ∷ [])
      ∷ (two (framed o 1 (letters ++ registered ++ letters)), having 1 19 29 33 ∷ [])
      ∷ (two (framed o 1 (valued o 0x52 0x52 ++ letters ++ registered)), having 1 19 29 46 ∷ [])
      ∷ (two (framed o 1 (0x52 ∷ 0x52 ∷ 0x52 ∷ [])), having 1 19 3 20 ∷ [])
      -- `R 0`: yes, and the place after the letter, here the file's length; a variable behind it
      ∷ (no_bytes (framed o 1 (0x52 ∷ [])), having 1 19 1 20 ∷ [])
      ∷ (no_bytes (framed o 1 (0x52 ∷ valued o 1 1)), having 1 19 14 20 ∷ [])
      ∷ (no_bytes (framed o 1 []), without 1 19 0 ∷ [])
      -- no R line
      ∷ (bare (framed o 1 letters ++ framed o 2 []), without 1 15 13 ∷ without 2 34 0 ∷ [])
      -- each frame by itself: none of the frame before, and none of the frame behind
      ∷ (two (framed o 1 registered ++ framed o 2 letters ++ framed o 3 registered), having 1 19 3 20 ∷ without 2 28 13 ∷ having 3 47 3 48 ∷ [])
      ∷ (
        two (framed o 1 [] ++ framed o 1 (letters ++ registered) ++ framed o 1 registered ++ 0 ∷ 0 ∷ 0 ∷ 0 ∷ []),
        without 1 19 0 ∷ having 1 25 16 39 ∷ having 1 47 3 48 ∷ [],
      )
      ∷ []

pub tables_hold : Each (Tabled (default_settings 0)) (tables 0) × Each (Tabled (default_settings 1)) (tables 1)
unfolding read opening
tables_hold = (
  (refl, (refl, (refl, (refl, (refl, (refl, (refl, (refl, (refl, (refl, (refl, (refl, (refl, (refl, tt)))))))))))))),
  (refl, (refl, (refl, (refl, (refl, (refl, (refl, (refl, (refl, (refl, (refl, (refl, (refl, (refl, tt)))))))))))))),
)

-- the base tells where a register block ends, and so whether the file is read; the place of its bytes is the same
pub bases_hold : Tabled (record { order = 0; base = 10 }) (ten_bytes 0, having 1 20 11 21 ∷ [])
    × Tabled (record { order = 1; base = 10 }) (ten_bytes 1, having 1 20 11 21 ∷ [])
    × (asked (default_settings 0) (ten_bytes 0) frame_table ≡ refused 9)
    × (asked (default_settings 1) (ten_bytes 1) frame_table ≡ refused 9)
unfolding read opening
bases_hold = (refl, refl, refl, refl)

-- ---- lent records: two frames, the first with registers, into three, two and one

module _ (o : ℕ) where
  abbrev pair : List ℕ
  pair = two (framed o 1 registered ++ framed o 2 [])

  -- a record as it was lent, with a byte that is neither yes nor no
  abbrev lent : ℕ → FrameRecord
  lent k = record { tracepoint = k; has_registers = 200; place = 90; size = 80; registers_place = 70 }

  abbrev Gets : List FrameRecord → Answer ℕ → List FrameRecord → Type 0
  Gets out r l =
      (answer (asked (default_settings o) pair frame_table) out ≡ r) × (exit (asked (default_settings o) pair frame_table) out ≡ l)

  -- what is beyond the last frame stays in every field, and so does all of it where there is too little
  abbrev Lends : Type 0
  Lends =
      Gets (lent 7 ∷ lent 8 ∷ lent 9 ∷ []) (accepted 2) (having 1 19 3 20 ∷ without 2 28 0 ∷ lent 9 ∷ [])
      × Gets (lent 7 ∷ lent 8 ∷ []) (accepted 2) (having 1 19 3 20 ∷ without 2 28 0 ∷ [])
      × Gets (lent 7 ∷ []) (refused 11) (lent 7 ∷ [])
      × Gets [] (refused 11) []

pub lends_hold : Lends 0 × Lends 1
unfolding read opening
lends_hold = (
  ((refl, refl), (refl, refl), (refl, refl), (refl, refl)),
  ((refl, refl), (refl, refl), (refl, refl), (refl, refl)),
)
