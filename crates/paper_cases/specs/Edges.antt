-- Further cases in bytes written out, so that a rule that is wrong in the layout, the reader and the code alike is refused here; and the table's numbers.
-- Assumes nothing.
use Rattle.std.specs.Prelude.{◌≡◌, refl, Bool, true, false, ℕ, zero, suc, List, [], ◌∷◌, ◌++◌, length, replicate, pos}
use Rattle.refusals.specs.Refusal as no
use Rattle.fields.specs.Lists.{Each}
use Rattle.fields.specs.Answer.{Answer, accepted, refused}
use Rattle.gdb_format.specs.Trace.{opening, encode}
use Rattle.gdb_format.specs.Settings.{default_settings}
use Rattle.gdb_format.specs.Decode.{read}
use Rattle.gdb_cut.specs.Cut.{cut_of}
use Rattle.gdb_select.specs.declared.Range.{Range}
use Rattle.gdb_select.specs.declared.Selection.{Selection}
use Rattle.gdb_join.specs.Join.{join_of}
use Rattle.paper_cases.specs.Cases.{Question, frames, memory, variable, cut, Reply, rows, bytes, value, Case, Holds, in_settings, h, bare, empty1, empty2, range}

-- the numbers of document 01's table, in its order, then C-11's and C-20's
pub numbers : no.table ≡ 1 ∷ 2 ∷ 3 ∷ 4 ∷ 5 ∷ 6 ∷ 7 ∷ 8 ∷ 9 ∷ 10 ∷ 11 ∷ 12 ∷ 13 ∷ 14 ∷ 15 ∷ 16 ∷ 17 ∷ 18 ∷ 24 ∷ []
numbers = refl

-- ---- rows

-- in byte order o
abbrev pub ordered : ℕ → List ℕ → Question → Answer Reply → Case
ordered o = in_settings (default_settings o)

-- a frame with number n and fewer than 256 bytes of data, in byte order o
abbrev pub framed : ℕ → ℕ → List ℕ → List ℕ
framed zero n d = n ∷ 0 ∷ length d ∷ 0 ∷ 0 ∷ 0 ∷ d
framed (suc o) n d = 0 ∷ n ∷ 0 ∷ 0 ∷ 0 ∷ length d ∷ d

-- a description of one line, and no frames
abbrev lined : List ℕ → List ℕ
lined l = h ++ l ++ 0x0A ∷ 0x0A ∷ []

abbrev pub register_line : List ℕ → List ℕ
register_line d = lined (0x52 ∷ 0x20 ∷ d)

-- one range, with 2..2 behind those that are stated
abbrev pub stated : ℕ → Bool → Range → Selection
stated n k r = record { ranges = r ∷ range 2 2 ∷ replicate 6 (range 0 0); count = n; keep = k }

-- eight ranges of one number each, and a count of nine
abbrev nine : Selection
nine = record { ranges = replicate 8 (range 1 1); count = 9; keep = true }

abbrev empty3 : List ℕ
empty3 = 3 ∷ 0 ∷ 0 ∷ 0 ∷ 0 ∷ 0 ∷ []

-- frames 1, 2, 3, 1
abbrev pub four : List ℕ
four = empty1 ++ empty2 ++ empty3 ++ empty1

abbrev edges : List Case
edges =
    -- `R8`; a second `R ` line
    ordered 0 (lined (0x52 ∷ 0x38 ∷ [])) frames (accepted (rows []))
    ∷ ordered 0 (register_line (0x31 ∷ 0x0A ∷ 0x52 ∷ 0x20 ∷ 0x31 ∷ [])) frames (refused 5)
    -- data past the file; a byte order that is neither
    ∷ ordered 0 (bare (1 ∷ 0 ∷ 1 ∷ 0 ∷ 0 ∷ 0 ∷ [])) frames (refused 7)
    ∷ ordered 2 (bare []) frames (refused 2)
    -- big order: `M` at address 5, bytes 11 22, asked at 6; `V` number 1, value 5
    ∷ ordered 1 (bare (0 ∷ 1 ∷ 0 ∷ 0 ∷ 0 ∷ 13 ∷ 0x4D ∷ replicate 7 0 ++ 5 ∷ 0 ∷ 2 ∷ 0x11 ∷ 0x22 ∷ [])) (memory 0 6) (accepted (bytes (0x22 ∷ [])))
    ∷ ordered 1 (bare (0 ∷ 1 ∷ 0 ∷ 0 ∷ 0 ∷ 13 ∷ 0x56 ∷ 0 ∷ 0 ∷ 0 ∷ 1 ∷ replicate 7 0 ++ 5 ∷ [])) (variable 0 1) (accepted (value (pos 5)))
    -- a variable of another number, above and below
    ∷ ordered 1 (bare (0 ∷ 1 ∷ 0 ∷ 0 ∷ 0 ∷ 13 ∷ 0x56 ∷ 0 ∷ 0 ∷ 0 ∷ 1 ∷ replicate 7 0 ++ 5 ∷ [])) (variable 0 2) (refused 12)
    ∷ ordered 1 (bare (0 ∷ 1 ∷ 0 ∷ 0 ∷ 0 ∷ 13 ∷ 0x56 ∷ 0 ∷ 0 ∷ 0 ∷ 1 ∷ replicate 7 0 ++ 5 ∷ [])) (variable 0 0) (refused 12)
    -- frames 1, 2, 3, 1 cut by drop 1..1, keep 1..1, keep 2..3 and keep 1..2; keep 2..1; nine ranges
    ∷ ordered 0 (bare four) (cut (stated 1 false (range 1 1))) (accepted (bytes (bare (empty2 ++ empty3))))
    ∷ ordered 0 (bare four) (cut (stated 1 true (range 1 1))) (accepted (bytes (bare (empty1 ++ empty1))))
    ∷ ordered 0 (bare four) (cut (stated 1 true (range 2 3))) (accepted (bytes (bare (empty2 ++ empty3))))
    ∷ ordered 0 (bare four) (cut (stated 1 true (range 1 2))) (accepted (bytes (bare (empty1 ++ empty2 ++ empty1))))
    ∷ ordered 0 (bare four) (cut (stated 1 true (range 2 1))) (refused 2)
    ∷ ordered 0 (bare four) (cut nine) (refused 2)
    ∷ []

pub edges_hold : Each Holds edges
unfolding read opening encode cut_of
edges_hold =
    (refl, (refl, (refl, (refl, (refl, (refl, (refl, (refl, (refl, (refl, (refl, (refl, (refl, (refl, tt))))))))))))))

-- a join has the first trace's frames first; 13 where the openings differ
abbrev pub little : List ℕ → List ℕ → Answer (List ℕ)
little a b = join_of (default_settings 0) a b

pub joins_hold : (little (bare empty1) (bare empty2) ≡ accepted (bare (empty1 ++ empty2))) × (little (bare empty1) (lined (0x78 ∷ [])) ≡ refused 13)
unfolding read opening encode join_of
joins_hold = (refl, refl)
