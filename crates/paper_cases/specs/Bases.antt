-- C-18's cases, in bytes written out: what an R line says in each base, the frame that tells the bases apart, other bases, and the default.
-- Assumes nothing.
use Rattle.std.specs.Prelude.{◌≡◌, refl, true, ℕ, suc, List, [], ◌∷◌, ◌++◌, replicate}
use Rattle.std.proofs.Math.Option.{Option, some}
use Rattle.fields.specs.Lists.{Each}
use Rattle.fields.specs.Answer.{Answer, accepted, refused}
use Rattle.gdb_format.specs.Trace.{opening, encode}
use Rattle.gdb_format.specs.Lines.{register_size}
use Rattle.gdb_format.specs.Decode.{read}
use Rattle.gdb_format.specs.declared.Settings.{Settings}
use Rattle.gdb_frames.specs.Questions.{asked}
use Rattle.gdb_cut.specs.Cut.{cut_of}
use Rattle.gdb_join.specs.Join.{join_of}
use Rattle.paper_cases.specs.Cases.{frames, marked, registers, cut, rows, bytes, Case, Holds, in_settings, h, bare, range}
use Rattle.paper_cases.specs.Edges.{ordered, register_line, stated}

-- little order and a base
abbrev in_base : ℕ → Settings
in_base n = record { order = 0; base = n }

-- ---- what an R line says

-- the register size that a file with this R line states, or the refusal
abbrev said : ℕ → List ℕ → Answer (Option ℕ)
said n d = asked (in_base n) (register_line d) (λ f t. accepted (register_size f t.lines))

abbrev says : ℕ → Answer (Option ℕ)
says n = accepted (some n)

abbrev bad : Answer (Option ℕ)
bad = refused 5

-- what stands after `R `, and what it says in base 10 and in base 16
record Row : Type 0 where
  pub written : List ℕ
  pub in_ten : Answer (Option ℕ)
  pub in_sixteen : Answer (Option ℕ)

abbrev row : List ℕ → Answer (Option ℕ) → Answer (Option ℕ) → Row
row d x y = record { written = d; in_ten = x; in_sixteen = y }

abbrev Said : Row → Type 0
Said r = row r.written (said 10 r.written) (said 16 r.written) ≡ r

-- each run of digits and its neighbours: `/ 0 9 :`, `@ A F G`, `` ` a f g ``
abbrev digits : List Row
digits =
    row (0x2F ∷ []) bad bad  -- /
    ∷ row (0x30 ∷ []) (says 0) (says 0)  -- 0
    ∷ row (0x39 ∷ []) (says 9) (says 9)  -- 9
    ∷ row (0x3A ∷ []) bad bad  -- :
    ∷ row (0x40 ∷ []) bad bad  -- @
    ∷ row (0x41 ∷ []) bad (says 10)  -- A
    ∷ row (0x46 ∷ []) bad (says 15)  -- F
    ∷ row (0x47 ∷ []) bad bad  -- G
    ∷ row (0x60 ∷ []) bad bad  -- `
    ∷ row (0x61 ∷ []) bad (says 10)  -- a
    ∷ row (0x66 ∷ []) bad (says 15)  -- f
    ∷ row (0x67 ∷ []) bad bad  -- g
    ∷ []

pub digits_hold : Each Said digits
unfolding read opening
digits_hold = (refl, (refl, (refl, (refl, (refl, (refl, (refl, (refl, (refl, (refl, (refl, (refl, tt))))))))))))

-- the same behind another digit
abbrev seconds : List Row
seconds =
    row (0x31 ∷ 0x2F ∷ []) bad bad  -- 1/
    ∷ row (0x31 ∷ 0x3A ∷ []) bad bad  -- 1:
    ∷ row (0x31 ∷ 0x40 ∷ []) bad bad  -- 1@
    ∷ row (0x31 ∷ 0x46 ∷ []) bad (says 31)  -- 1F
    ∷ row (0x31 ∷ 0x47 ∷ []) bad bad  -- 1G
    ∷ row (0x31 ∷ 0x60 ∷ []) bad bad  -- 1`
    ∷ row (0x31 ∷ 0x66 ∷ []) bad (says 31)  -- 1f
    ∷ row (0x31 ∷ 0x67 ∷ []) bad bad  -- 1g
    ∷ []

pub seconds_hold : Each Said seconds
unfolding read opening
seconds_hold = (refl, (refl, (refl, (refl, (refl, (refl, (refl, (refl, tt))))))))

-- decimal digits alone say another number in each base (`R 308` is what the debuggers write for 776); the largest
abbrev sizes : List Row
sizes =
    row (0x39 ∷ 0x37 ∷ 0x34 ∷ []) (says 974) (says 2420)  -- 974
    ∷ row (0x33 ∷ 0x30 ∷ 0x38 ∷ []) (says 308) (says 776)  -- 308
    ∷ row (0x37 ∷ 0x37 ∷ 0x36 ∷ []) (says 776) (says 1910)  -- 776
    ∷ row (0x31 ∷ 0x30 ∷ []) (says 10) (says 16)  -- 10
    ∷ row (0x39 ∷ 0x39 ∷ 0x39 ∷ 0x39 ∷ []) (says 9999) (says 39321)  -- 9999
    ∷ row (0x66 ∷ 0x66 ∷ 0x66 ∷ 0x66 ∷ []) bad (says 65535)  -- ffff
    ∷ row (0x46 ∷ 0x46 ∷ 0x46 ∷ 0x46 ∷ []) bad (says 65535)  -- FFFF
    ∷ row (0x66 ∷ 0x46 ∷ 0x66 ∷ 0x46 ∷ []) bad (says 65535)  -- fFfF
    ∷ row (0x31 ∷ 0x30 ∷ 0x30 ∷ 0x30 ∷ 0x30 ∷ []) (says 10000) bad  -- 10000
    ∷ row (0x36 ∷ 0x35 ∷ 0x35 ∷ 0x33 ∷ 0x35 ∷ []) (says 65535) bad  -- 65535
    ∷ row (0x36 ∷ 0x35 ∷ 0x35 ∷ 0x33 ∷ 0x36 ∷ []) bad bad  -- 65536
    ∷ row (0x39 ∷ 0x39 ∷ 0x39 ∷ 0x39 ∷ 0x39 ∷ []) bad bad  -- 99999
    ∷ []

pub sizes_hold : Each Said sizes
unfolding read opening
sizes_hold = (refl, (refl, (refl, (refl, (refl, (refl, (refl, (refl, (refl, (refl, (refl, (refl, tt))))))))))))

-- how many digits, none to six, in lower, upper and mixed case; leading zeros count
abbrev lengths : List Row
lengths =
    row ([]) bad bad  -- nothing
    ∷ row (0x63 ∷ []) bad (says 12)  -- c
    ∷ row (0x33 ∷ 0x63 ∷ []) bad (says 60)  -- 3c
    ∷ row (0x33 ∷ 0x30 ∷ 0x63 ∷ []) bad (says 780)  -- 30c
    ∷ row (0x30 ∷ 0x33 ∷ 0x30 ∷ 0x63 ∷ []) bad (says 780)  -- 030c
    ∷ row (0x30 ∷ 0x30 ∷ 0x33 ∷ 0x30 ∷ 0x63 ∷ []) bad bad  -- 0030c
    ∷ row (0x43 ∷ 0x34 ∷ []) bad (says 196)  -- C4
    ∷ row (0x39 ∷ 0x43 ∷ 0x34 ∷ []) bad (says 2500)  -- 9C4
    ∷ row (0x39 ∷ 0x63 ∷ 0x34 ∷ []) bad (says 2500)  -- 9c4
    ∷ row (0x61 ∷ 0x42 ∷ 0x63 ∷ []) bad (says 2748)  -- aBc
    ∷ row (0x30 ∷ 0x33 ∷ 0x30 ∷ 0x38 ∷ []) (says 308) (says 776)  -- 0308
    ∷ row (0x30 ∷ 0x30 ∷ 0x33 ∷ 0x30 ∷ 0x38 ∷ []) (says 308) bad  -- 00308
    ∷ row (0x30 ∷ 0x30 ∷ 0x37 ∷ 0x37 ∷ 0x36 ∷ []) (says 776) bad  -- 00776
    ∷ row (0x30 ∷ 0x30 ∷ 0x30 ∷ 0x30 ∷ 0x30 ∷ 0x30 ∷ []) bad bad  -- 000000
    ∷ []

pub lengths_hold : Each Said lengths
unfolding read opening
lengths_hold = (refl, (refl, (refl, (refl, (refl, (refl, (refl, (refl, (refl, (refl, (refl, (refl, (refl, (refl, tt))))))))))))))

-- nothing but digits: no prefix, sign, blank, CR or suffix
abbrev strangers : List Row
strangers =
    row (0x30 ∷ 0x78 ∷ 0x33 ∷ 0x30 ∷ 0x38 ∷ []) bad bad  -- 0x308
    ∷ row (0x30 ∷ 0x58 ∷ 0x38 ∷ []) bad bad  -- 0X8
    ∷ row (0x78 ∷ 0x38 ∷ []) bad bad  -- x8
    ∷ row (0x2B ∷ 0x33 ∷ 0x30 ∷ 0x38 ∷ []) bad bad  -- +308
    ∷ row (0x2D ∷ 0x33 ∷ 0x30 ∷ 0x38 ∷ []) bad bad  -- -308
    ∷ row (0x20 ∷ 0x33 ∷ 0x30 ∷ 0x38 ∷ []) bad bad  -- a blank and 308
    ∷ row (0x33 ∷ 0x30 ∷ 0x38 ∷ 0x20 ∷ []) bad bad  -- 308 and a blank
    ∷ row (0x33 ∷ 0x20 ∷ 0x38 ∷ []) bad bad  -- 3 8
    ∷ row (0x33 ∷ 0x30 ∷ 0x38 ∷ 0x0D ∷ []) bad bad  -- 308 and a CR
    ∷ row (0x09 ∷ 0x38 ∷ []) bad bad  -- a tab and 8
    ∷ row (0x38 ∷ 0x68 ∷ []) bad bad  -- 8h
    ∷ []

pub strangers_hold : Each Said strangers
unfolding read opening
strangers_hold = (refl, (refl, (refl, (refl, (refl, (refl, (refl, (refl, (refl, (refl, (refl, tt)))))))))))

-- ---- the frame that tells the bases apart

-- `R 10`, and one frame
abbrev ten : List ℕ → List ℕ
ten b = h ++ 0x52 ∷ 0x20 ∷ 0x31 ∷ 0x30 ∷ 0x0A ∷ 0x0A ∷ b

-- a register block of sixteen bytes, and of ten
abbrev sixteen_bytes : List ℕ
sixteen_bytes = ten (1 ∷ 0 ∷ 17 ∷ 0 ∷ 0 ∷ 0 ∷ 0x52 ∷ replicate 16 0xAA)

abbrev ten_bytes : List ℕ
ten_bytes = ten (1 ∷ 0 ∷ 11 ∷ 0 ∷ 0 ∷ 0 ∷ 0x52 ∷ replicate 10 0xAA)

-- two frames, each with a register block of n bytes
abbrev two_frames : ℕ → List ℕ
two_frames n = ten (1 ∷ 0 ∷ suc n ∷ 0 ∷ 0 ∷ 0 ∷ 0x52 ∷ replicate n 0xAA ++ 2 ∷ 0 ∷ suc n ∷ 0 ∷ 0 ∷ 0 ∷ 0x52 ∷ replicate n 0xBB)

abbrev apart : List Case
apart =
    in_settings (in_base 16) sixteen_bytes (registers 0) (accepted (bytes (replicate 16 0xAA)))
    -- the eleventh byte is taken for a letter
    ∷ in_settings (in_base 10) sixteen_bytes (registers 0) (refused 8)
    ∷ in_settings (in_base 10) ten_bytes (registers 0) (accepted (bytes (replicate 10 0xAA)))
    ∷ in_settings (in_base 16) ten_bytes (registers 0) (refused 9)
    -- the size holds for every frame
    ∷ in_settings (in_base 16) (two_frames 16) (registers 1) (accepted (bytes (replicate 16 0xBB)))
    ∷ in_settings (in_base 10) (two_frames 10) (registers 1) (accepted (bytes (replicate 10 0xBB)))
    -- who says nothing gets 16, in both orders
    ∷ ordered 0 sixteen_bytes (registers 0) (accepted (bytes (replicate 16 0xAA)))
    ∷ ordered 0 ten_bytes frames (refused 9)
    ∷ ordered 1 (register_line (0x66 ∷ [])) frames (accepted (rows []))
    -- a cut keeps the R line as it is written
    ∷ in_settings (in_base 10) ten_bytes (cut (stated 1 true (range 9 9))) (accepted (bytes (ten [])))
    ∷ []

pub apart_hold : Each Holds apart
unfolding read opening encode cut_of
apart_hold = (refl, (refl, (refl, (refl, (refl, (refl, (refl, (refl, (refl, (refl, tt))))))))))

-- ---- another base is 2, whatever the file is: none, a head that differs, no R line, a bad one

abbrev others : List ℕ
others = 0 ∷ 1 ∷ 2 ∷ 8 ∷ 9 ∷ 11 ∷ 15 ∷ 17 ∷ 160 ∷ 255 ∷ []

pub others_hold : Each (λ n. Holds (in_settings (in_base n) (bare []) frames (refused 2))) others
unfolding read
others_hold = (refl, (refl, (refl, (refl, (refl, (refl, (refl, (refl, (refl, (refl, tt))))))))))

abbrev eight : List Case
eight =
    in_settings (in_base 8) [] frames (refused 2)
    ∷ in_settings (in_base 8) (0x58 ∷ []) frames (refused 2)
    ∷ in_settings (in_base 8) (bare []) marked (refused 2)
    ∷ in_settings (in_base 8) (register_line (0x37 ∷ [])) (registers 0) (refused 2)
    ∷ in_settings (in_base 8) (register_line (0x78 ∷ [])) frames (refused 2)
    ∷ in_settings (in_base 8) (bare []) (cut (stated 1 true (range 1 1))) (refused 2)
    ∷ in_settings (record { order = 1; base = 8 }) (bare []) frames (refused 2)
    ∷ in_settings (record { order = 2; base = 16 }) (bare []) frames (refused 2)
    ∷ []

pub eight_hold : Each Holds eight
unfolding read cut_of
eight_hold = (refl, (refl, (refl, (refl, (refl, (refl, (refl, (refl, tt))))))))

-- ---- joins: one base for both traces, and the R line is compared as it is written

-- `R 10` and `R 010`, the same size in each base
abbrev bare_ten : List ℕ
bare_ten = ten []

pub joins_hold : (join_of (in_base 10) ten_bytes bare_ten ≡ accepted ten_bytes)
    × (join_of (in_base 16) bare_ten sixteen_bytes ≡ accepted sixteen_bytes)
    × (join_of (in_base 16) ten_bytes bare_ten ≡ refused 9)
    × (join_of (in_base 16) bare_ten (register_line (0x30 ∷ 0x31 ∷ 0x30 ∷ [])) ≡ refused 13)
    × (join_of (in_base 8) bare_ten bare_ten ≡ refused 2)
unfolding read opening encode join_of
joins_hold = (refl, refl, refl, refl, refl)
