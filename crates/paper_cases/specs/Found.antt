-- C-14's cases, in bytes written out: what is answered for frame n, and which parts of the file are read for it.
-- Assumes nothing.
use Rattle.std.specs.Prelude.{◌≡◌, refl, ℕ, ◌+◌, ◌^◌, List, [], ◌∷◌, ◌++◌, replicate}
use Rattle.fields.specs.Lists.{Each}
use Rattle.fields.specs.Answer.{Answer, accepted, refused}
use Rattle.gdb_format.specs.Trace.{opening}
use Rattle.gdb_format.specs.Settings.{default_settings}
use Rattle.gdb_format.specs.Decode.{frame_head, blocks, opening_lines}
use Rattle.gdb_format.specs.declared.Settings.{Settings}
use Rattle.gdb_seek.specs.Found.{frame_found, parts_read, AgreeOn}
use Rattle.paper_cases.specs.Cases.{h, bare, two}
use Rattle.paper_cases.specs.Edges.{framed, register_line}
use Rattle.paper_cases.specs.Variables.{valued, registered}

-- a file, a frame's number, and the answer
abbrev Row : Type 0
Row = List ℕ × (ℕ × Answer ((ℕ × ℕ) × ℕ))

abbrev Finds : Settings → Row → Type 0
Finds s c = frame_found s c.0 c.1.0 ≡ c.1.1

-- the data stand at a place, so many bytes, and so many heads were read; or the refusal
abbrev there : List ℕ → ℕ → ℕ → ℕ → ℕ → Row
there b n p l k = (b, (n, accepted ((p, l), k)))

abbrev no : List ℕ → ℕ → ℕ → Row
no b n k = (b, (n, refused k))

-- no block's letter
abbrev bad : List ℕ
bad = 0x58 ∷ []

module _ (o : ℕ) where
  -- frames of 0, 13 and 0 bytes; `more` stands behind them
  abbrev three : List ℕ → List ℕ
  three more = bare (framed o 1 [] ++ framed o 2 (valued o 1 5) ++ framed o 3 [] ++ more)

  -- an accepted file, with the mark and without; n past the end by one and by 2^63
  abbrev sound : List Row
  sound =
      there (three []) 0 15 0 1
      ∷ there (three []) 1 21 13 2
      ∷ there (three []) 2 40 0 3
      ∷ no (three []) 3 12
      ∷ no (three []) (2 ^ 63 + 3) 12
      ∷ there (three (0 ∷ 0 ∷ 0 ∷ 0 ∷ [])) 2 40 0 3
      ∷ no (three (0 ∷ 0 ∷ 0 ∷ 0 ∷ [])) 3 12
      ∷ no (three (0 ∷ 0 ∷ 0 ∷ 0 ∷ [])) 4 12
      ∷ no (bare []) 0 12
      ∷ no (bare (0 ∷ 0 ∷ 0 ∷ 0 ∷ [])) 0 12
      ∷ []

  -- damage behind frame n: blocks, a size past the file, one byte, two bytes of 0, a bad mark
  abbrev behind : List Row
  behind =
      there (three (framed o 4 bad)) 2 40 0 3
      ∷ no (three (framed o 4 bad)) 3 8
      ∷ no (three (framed o 4 bad)) 4 12
      ∷ there (three (framed o 4 bad ++ framed o 5 (valued o 1 6))) 4 53 13 5
      ∷ there (three (1 ∷ 1 ∷ 1 ∷ 1 ∷ 1 ∷ 1 ∷ [])) 2 40 0 3
      ∷ no (three (1 ∷ 1 ∷ 1 ∷ 1 ∷ 1 ∷ 1 ∷ [])) 3 7
      ∷ no (three (1 ∷ 1 ∷ 1 ∷ 1 ∷ 1 ∷ 1 ∷ [])) (2 ^ 63) 7
      ∷ there (three (0 ∷ [])) 2 40 0 3
      ∷ no (three (0 ∷ [])) 3 6
      ∷ no (three (1 ∷ 0 ∷ 0 ∷ 0 ∷ 0 ∷ [])) 3 6
      ∷ there (three (0 ∷ 0 ∷ [])) 2 40 0 3
      ∷ no (three (0 ∷ 0 ∷ [])) 3 18
      ∷ no (three (0 ∷ 0 ∷ 0 ∷ 1 ∷ [])) 3 18
      ∷ no (three (0 ∷ 0 ∷ 0 ∷ 0 ∷ 0 ∷ [])) 3 18
      ∷ no (three (0 ∷ 0 ∷ 0 ∷ 0 ∷ [] ++ framed o 1 [])) 3 18
      ∷ no (three (0 ∷ 0 ∷ 0 ∷ 0 ∷ [] ++ framed o 1 [])) 4 18
      ∷ []

  -- blocks of an earlier frame do not count, those of frame n do: 8, 9, 10, 24
  abbrev earlier : List Row
  earlier =
      there (bare (framed o 1 bad ++ framed o 2 [])) 1 22 0 2
      ∷ no (bare (framed o 1 bad ++ framed o 2 [])) 0 8
      ∷ there (bare (framed o 1 (0x56 ∷ []) ++ framed o 2 [])) 1 22 0 2
      ∷ no (bare (framed o 1 (0x56 ∷ []) ++ framed o 2 [])) 0 9
      ∷ there (bare (framed o 1 (0x52 ∷ []) ++ framed o 2 [])) 1 22 0 2
      ∷ no (bare (framed o 1 (0x52 ∷ []) ++ framed o 2 [])) 0 10
      ∷ there (two (framed o 1 (registered ++ registered) ++ framed o 2 registered)) 1 31 3 2
      ∷ no (two (framed o 1 (registered ++ registered) ++ framed o 2 registered)) 0 24
      -- the size of an earlier frame does: past the file, and to its end
      ∷ no (bare (1 ∷ 1 ∷ 1 ∷ 1 ∷ 1 ∷ 1 ∷ framed o 2 [])) 1 7
      ∷ no (bare (framed o 1 (framed o 2 []))) 1 12
      -- the opening
      ∷ no [] 0 3
      ∷ no h 0 4
      ∷ no (register_line (0x78 ∷ [])) 0 5
      ∷ []

  -- a fault in a head refuses every frame from there on, whatever the blocks of earlier frames are; an opening refuses them all
  abbrev onward : List Row
  onward =
      no (three (1 ∷ [])) 4 6
      ∷ no (three (0 ∷ 0 ∷ [])) 4 18
      ∷ no (bare (framed o 1 bad ++ 1 ∷ [])) 1 6
      ∷ no (bare (framed o 1 bad ++ 1 ∷ [])) 2 6
      ∷ no (bare (framed o 1 bad ++ 0 ∷ 0 ∷ [])) 1 18
      ∷ no (bare (framed o 1 bad ++ 1 ∷ 1 ∷ 1 ∷ 1 ∷ 1 ∷ 1 ∷ [])) 1 7
      ∷ no (bare (framed o 1 bad ++ framed o 2 (0x56 ∷ []))) 1 9
      ∷ no [] 3 3
      ∷ no h 3 4
      ∷ no (register_line (0x78 ∷ [])) 3 5
      ∷ []

pub sound-found : Each (Finds (default_settings 0)) (sound 0) × Each (Finds (default_settings 1)) (sound 1)
unfolding frame_found opening_lines frame_head blocks opening
sound-found = (
  (refl, (refl, (refl, (refl, (refl, (refl, (refl, (refl, (refl, (refl, tt)))))))))),
  (refl, (refl, (refl, (refl, (refl, (refl, (refl, (refl, (refl, (refl, tt)))))))))),
)

pub behind-found : Each (Finds (default_settings 0)) (behind 0) × Each (Finds (default_settings 1)) (behind 1)
unfolding frame_found opening_lines frame_head blocks opening
behind-found = (
  (refl, (refl, (refl, (refl, (refl, (refl, (refl, (refl, (refl, (refl, (refl, (refl, (refl, (refl, (refl, (refl, tt)))))))))))))))),
  (refl, (refl, (refl, (refl, (refl, (refl, (refl, (refl, (refl, (refl, (refl, (refl, (refl, (refl, (refl, (refl, tt)))))))))))))))),
)

pub earlier-found : Each (Finds (default_settings 0)) (earlier 0) × Each (Finds (default_settings 1)) (earlier 1)
unfolding frame_found opening_lines frame_head blocks opening
earlier-found = (
  (refl, (refl, (refl, (refl, (refl, (refl, (refl, (refl, (refl, (refl, (refl, (refl, (refl, tt))))))))))))),
  (refl, (refl, (refl, (refl, (refl, (refl, (refl, (refl, (refl, (refl, (refl, (refl, (refl, tt))))))))))))),
)

pub onward-found : Each (Finds (default_settings 0)) (onward 0) × Each (Finds (default_settings 1)) (onward 1)
unfolding frame_found opening_lines frame_head blocks opening
onward-found = (
  (refl, (refl, (refl, (refl, (refl, (refl, (refl, (refl, (refl, (refl, tt)))))))))),
  (refl, (refl, (refl, (refl, (refl, (refl, (refl, (refl, (refl, (refl, tt)))))))))),
)

-- 2, whatever the file is
pub settings-found : (frame_found (default_settings 2) [] 0 ≡ refused 2) × (frame_found (record { order = 0; base = 8 }) (three 0 []) 0 ≡ refused 2)
unfolding frame_found
settings-found = (refl, refl)

-- ---- the parts read

module _ (o : ℕ) where
  -- the opening, a head for each frame up to n, the data of frame n; up to six bytes where there is no head; the opening up to its fault
  abbrev Parts : Type 0
  Parts =
      (parts_read (default_settings o) (three o (framed o 4 bad)) 1 ≡ (0, 9) ∷ (9, 6) ∷ (15, 6) ∷ (21, 13) ∷ [])
      × (parts_read (default_settings o) (three o (framed o 4 bad)) 3 ≡ (0, 9) ∷ (9, 6) ∷ (15, 6) ∷ (34, 6) ∷ (40, 6) ∷ (46, 1) ∷ [])
      × (parts_read (default_settings o) (three o (framed o 4 bad)) 9 ≡ (0, 9) ∷ (9, 6) ∷ (15, 6) ∷ (34, 6) ∷ (40, 6) ∷ (47, 6) ∷ [])
      × (parts_read (default_settings o) (bare (1 ∷ 1 ∷ 1 ∷ 1 ∷ 1 ∷ 1 ∷ framed o 2 [])) 1 ≡ (0, 9) ∷ (9, 6) ∷ [])
      × (parts_read (default_settings o) (bare (0 ∷ 0 ∷ 7 ∷ [])) 5 ≡ (0, 9) ∷ (9, 6) ∷ [])
      × (parts_read (default_settings o) (three o (1 ∷ [])) 4 ≡ (0, 9) ∷ (9, 6) ∷ (15, 6) ∷ (34, 6) ∷ (40, 6) ∷ [])
      × (parts_read (default_settings o) (bare (framed o 1 bad ++ 1 ∷ [])) 1 ≡ (0, 9) ∷ (9, 6) ∷ (16, 6) ∷ [])
      × (parts_read (default_settings o) (two (framed o 1 registered)) 0 ≡ (0, 13) ∷ (13, 6) ∷ (19, 3) ∷ [])
      × (parts_read (default_settings o) (register_line (0x78 ∷ [])) 0 ≡ (0, 12) ∷ [])
      × (parts_read (default_settings o) (0x7F ∷ 0x54 ∷ replicate 20 0x0A) 0 ≡ (0, 8) ∷ [])
      × (parts_read (default_settings (2 + o)) (three o []) 0 ≡ [])

pub parts_hold : Parts 0 × Parts 1
unfolding parts_read opening_lines frame_head opening
parts_hold = (
  (refl, refl, refl, refl, refl, refl, refl, refl, refl, refl, refl),
  (refl, refl, refl, refl, refl, refl, refl, refl, refl, refl, refl),
)

-- two files that differ in the data of frame 0 and behind frame 1 agree on the parts that are read for frame 1
abbrev differing : ℕ → List ℕ → List ℕ → List ℕ
differing o d more = bare (framed o 1 d ++ framed o 2 [] ++ more)

abbrev Agree : ℕ → Type 0
Agree o = AgreeOn (parts_read (default_settings o) (differing o bad (1 ∷ [])) 1) (differing o bad (1 ∷ [])) (differing o (0 ∷ []) (0 ∷ []))

pub agree-holds : Agree 0 × Agree 1
unfolding parts_read opening_lines frame_head opening
agree-holds = ((refl, (refl, (refl, (refl, tt)))), (refl, (refl, (refl, (refl, tt)))))
