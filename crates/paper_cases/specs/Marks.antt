-- C-11's cases, in bytes written out: what is the end mark, what is a bad one, and what a cut and a join make of it.
-- Assumes nothing.
use Rattle.std.specs.Prelude.{◌≡◌, refl, true, false, ℕ, List, [], ◌∷◌, ◌++◌, replicate}
use Rattle.fields.specs.Lists.{Each}
use Rattle.fields.specs.Answer.{accepted, refused}
use Rattle.gdb_format.specs.Trace.{opening, encode}
use Rattle.gdb_format.specs.Decode.{read}
use Rattle.gdb_cut.specs.Cut.{cut_of}
use Rattle.gdb_join.specs.Join.{join_of}
use Rattle.paper_cases.specs.Cases.{frames, marked, cut, rows, told, bytes, Case, Holds, bare, empty1, empty2, row, range}
use Rattle.paper_cases.specs.Edges.{ordered, stated, four, little}

-- four bytes of 0
abbrev zeros : List ℕ
zeros = 0 ∷ 0 ∷ 0 ∷ 0 ∷ []

-- `V` number 1, value 0, in little order: the data end in zeros
abbrev zero_value : List ℕ
zero_value = 1 ∷ 0 ∷ 13 ∷ 0 ∷ 0 ∷ 0 ∷ 0x56 ∷ 1 ∷ replicate 11 0

-- a frame of size 0 with the number 256, in each order
abbrev little256 : List ℕ
little256 = 0 ∷ 1 ∷ 0 ∷ 0 ∷ 0 ∷ 0 ∷ []

abbrev big256 : List ℕ
big256 = 1 ∷ 0 ∷ 0 ∷ 0 ∷ 0 ∷ 0 ∷ []

-- ---- the mark, and none

abbrev ends : List Case
ends =
    ordered 0 (bare []) marked (accepted (told false))
    ∷ ordered 0 (bare zeros) marked (accepted (told true))
    ∷ ordered 1 (bare zeros) marked (accepted (told true))
    ∷ ordered 0 (bare zeros) frames (accepted (rows []))
    ∷ ordered 0 (bare empty1) marked (accepted (told false))
    ∷ ordered 0 (bare (empty1 ++ zeros)) marked (accepted (told true))
    ∷ ordered 0 (bare (empty1 ++ zeros)) frames (accepted (rows (row 1 15 0 ∷ [])))
    -- data that end in zeros, with the mark and without
    ∷ ordered 0 (bare zero_value) marked (accepted (told false))
    ∷ ordered 0 (bare (zero_value ++ zeros)) marked (accepted (told true))
    ∷ ordered 0 (bare (zero_value ++ zeros)) frames (accepted (rows (row 1 15 13 ∷ [])))
    -- number 256: one of its bytes is 0
    ∷ ordered 0 (bare (little256 ++ zeros)) frames (accepted (rows (row 256 15 0 ∷ [])))
    ∷ ordered 1 (bare (big256 ++ zeros)) frames (accepted (rows (row 256 15 0 ∷ [])))
    ∷ ordered 1 (bare (big256 ++ zeros)) marked (accepted (told true))
    ∷ []

pub ends_hold : Each Holds ends
unfolding read opening
ends_hold = (refl, (refl, (refl, (refl, (refl, (refl, (refl, (refl, (refl, (refl, (refl, (refl, (refl, tt)))))))))))))

-- ---- bad marks

abbrev bad : List Case
bad =
    -- one, two, three bytes of 0; four and one byte more; `00 00 01 00`, `00 00 00 01`
    ordered 0 (bare (0 ∷ [])) frames (refused 6)
    ∷ ordered 0 (bare (0 ∷ 0 ∷ [])) frames (refused 18)
    ∷ ordered 0 (bare (0 ∷ 0 ∷ 0 ∷ [])) frames (refused 18)
    ∷ ordered 0 (bare (zeros ++ 0 ∷ [])) frames (refused 18)
    ∷ ordered 0 (bare (zeros ++ 1 ∷ [])) frames (refused 18)
    ∷ ordered 0 (bare (0 ∷ 0 ∷ 1 ∷ 0 ∷ [])) frames (refused 18)
    ∷ ordered 1 (bare (0 ∷ 0 ∷ 0 ∷ 1 ∷ [])) frames (refused 18)
    -- a head of number 0: a frame of size 0, one with sound data, one whose data would run past the file; two marks; a whole head behind two
    -- zeros, a frame behind the mark
    ∷ ordered 0 (bare (replicate 6 0)) frames (refused 18)
    ∷ ordered 0 (bare (0 ∷ 0 ∷ 13 ∷ 0 ∷ 0 ∷ 0 ∷ 0x56 ∷ 1 ∷ replicate 11 0)) frames (refused 18)
    ∷ ordered 1 (bare (zeros ++ zeros)) frames (refused 18)
    ∷ ordered 0 (bare (0 ∷ 0 ∷ 9 ∷ 0 ∷ 0 ∷ 0 ∷ [])) frames (refused 18)
    ∷ ordered 0 (bare (0 ∷ 0 ∷ empty1)) frames (refused 18)
    ∷ ordered 0 (bare (zeros ++ empty1)) frames (refused 18)
    -- behind a frame, in both orders; a fault in that frame comes first
    ∷ ordered 0 (bare (empty1 ++ 0 ∷ 0 ∷ [])) marked (refused 18)
    ∷ ordered 1 (bare (big256 ++ 0 ∷ 0 ∷ 0 ∷ [])) marked (refused 18)
    ∷ ordered 0 (bare (1 ∷ 0 ∷ 1 ∷ 0 ∷ 0 ∷ 0 ∷ 0x58 ∷ 0 ∷ 0 ∷ [])) frames (refused 8)
    -- `00 01` begins a head in either order
    ∷ ordered 0 (bare (0 ∷ 1 ∷ [])) frames (refused 6)
    ∷ ordered 1 (bare (0 ∷ 1 ∷ [])) frames (refused 6)
    ∷ []

pub bad_hold : Each Holds bad
unfolding read
bad_hold =
    (refl, (refl, (refl, (refl, (refl, (refl, (refl, (refl, (refl, (refl, (refl, (refl, (refl, (refl, (refl, (refl, (refl, (refl, tt))))))))))))))))))

-- ---- cuts and joins

abbrev cuts : List Case
cuts =
    -- frames 1, 2, 3, 1 and the mark: it stays where all, some or none are selected, kept or dropped; a selection that names 0
    ordered 0 (bare (four ++ zeros)) (cut (stated 1 true (range 1 3))) (accepted (bytes (bare (four ++ zeros))))
    ∷ ordered 0 (bare (four ++ zeros)) (cut (stated 1 true (range 1 1))) (accepted (bytes (bare (empty1 ++ empty1 ++ zeros))))
    ∷ ordered 0 (bare (four ++ zeros)) (cut (stated 1 true (range 9 9))) (accepted (bytes (bare zeros)))
    ∷ ordered 0 (bare (four ++ zeros)) (cut (stated 1 false (range 2 3))) (accepted (bytes (bare (empty1 ++ empty1 ++ zeros))))
    ∷ ordered 0 (bare (four ++ zeros)) (cut (stated 1 true (range 0 0))) (accepted (bytes (bare zeros)))
    ∷ ordered 0 (bare four) (cut (stated 1 true (range 0 0))) (accepted (bytes (bare [])))
    ∷ []

pub cuts_hold : Each Holds cuts
unfolding read opening encode cut_of
cuts_hold = (refl, (refl, (refl, (refl, (refl, (refl, tt))))))

-- all four markings; the bare opening with a mark is no unit
abbrev both : List ℕ
both = bare (empty1 ++ empty2)

pub joins_hold : (little (bare empty1) (bare empty2) ≡ accepted both)
    × (little (bare (empty1 ++ zeros)) (bare empty2) ≡ accepted (both ++ zeros))
    × (little (bare empty1) (bare (empty2 ++ zeros)) ≡ accepted (both ++ zeros))
    × (little (bare (empty1 ++ zeros)) (bare (empty2 ++ zeros)) ≡ accepted (both ++ zeros))
    × (little (bare zeros) (bare empty1) ≡ accepted (bare (empty1 ++ zeros)))
    × (little (bare empty1) (bare zeros) ≡ accepted (bare (empty1 ++ zeros)))
unfolding read opening encode join_of
joins_hold = (refl, refl, refl, refl, refl, refl)
