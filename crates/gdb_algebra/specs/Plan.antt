-- Cuts and joins of files and of earlier results, each with the output that it is lent.
-- A cut or join of an earlier result is given that output up to the returned length.
-- Assumes nothing: these are definitions.
use Rattle.std.specs.Prelude.{◌≡◌, true, false, ℕ, ◌≤◌, List, [], ◌++◌, length, take}
use Rattle.refusals.specs.Refusal.{limit}
use Rattle.fields.specs.Number.{Bytes}
use Rattle.fields.specs.Answer.{Answer, accepted, refused}
use Rattle.fields.specs.Output.{answer, exit}
use Rattle.gdb_format.specs.Trace.{Trace, trace_of, opening, mark, encode}
use Rattle.gdb_format.specs.Decode.{read}
use Rattle.gdb_format.specs.declared.Settings.{Settings}
use Rattle.gdb_format.specs.declared.Format.{Format}
use Rattle.gdb_select.specs.Selection.{meaning, valid}
use Rattle.gdb_cut.specs.Cut.{cut, cut_of}
use Rattle.gdb_join.specs.Join.{join, join_of}
use Rattle.gdb_select.specs.declared.Selection.{Selection}

pub data Plan : Type 0 where
  file : List ℕ → Trace → Plan  -- a file, and the trace that it holds
  cutting : Selection → List ℕ → Plan → Plan  -- a cut into this output
  joining : List ℕ → Plan → Plan → Plan  -- a join into this output

-- the trace that a plan stands for
abbrev pub value : Plan → Trace
value (file b t) = t
value (cutting c out p) = cut (meaning c) (value p)
value (joining out p q) = join (value p) (value q)

-- an output up to the returned length
abbrev pub up_to : Answer ℕ → List ℕ → List ℕ
up_to (accepted n) l = take n l
up_to (refused n) l = []

-- a call that was not refused
abbrev pub IsWritten : Answer ℕ → Type 0
IsWritten (accepted n) = Unit {0}
IsWritten (refused n) = ⊥

-- an output that is no shorter than what a call gives
abbrev pub HasRoom : Answer (List ℕ) → List ℕ → Type 0
HasRoom x out = (c : List ℕ) → x ≡ accepted c → length c ≤ length out

-- the opening alone, unmarked, as a file
abbrev pub bare_opening : List (List ℕ) → Plan
bare_opening ls = file (opening ls) (trace_of ls [] false)

-- the same with a mark
abbrev pub marked_opening : List (List ℕ) → Plan
marked_opening ls = file (opening ls ++ mark) (trace_of ls [] true)

-- all calls of a plan are given the same settings
module _ (s : Settings) where
  -- the bytes that a plan's last call leaves, up to the returned length
  unfoldable pub result : Plan → List ℕ
  result (file b t) = b
  result (cutting c out p) = let x = cut_of s c (result p) in up_to (answer x out) (exit x out)
  result (joining out p q) = let x = join_of s (result p) (result q) in up_to (answer x out) (exit x out)

  -- the length that a plan's last call returns; of a file its own
  unfoldable pub returned : Plan → Answer ℕ
  unfolding result
  returned (file b t) = accepted (length b)
  returned (cutting c out p) = answer (cut_of s c (result p)) out
  returned (joining out p q) = answer (join_of s (result p) (result q)) out

  -- no cut or join in it is refused
  unfoldable pub Done : Plan → Type 0
  unfolding result returned
  Done (file b t) = Unit {0}
  Done (cutting c out p) = Done p × IsWritten (returned (cutting c out p))
  Done (joining out p q) = Done p × Done q × IsWritten (returned (joining out p q))

  -- neither has a refused call; "results are equal when their lengths and all bytes up to those lengths are"
  abbrev pub Same : Plan → Plan → Type 0
  Same p q = Done p × Done q × (returned p ≡ returned q) × (result p ≡ result q)

-- ---- the premises of demand 3

-- "all traces accepted in one byte order with identical openings, and all selections"; with C-18 "traces read under the same settings", byte order and base
abbrev pub Given : Settings → Format → List (List ℕ) → Plan → Type 0
Given s f ls (file b t) = Bytes b × (read s b ≡ accepted (f, t)) × (t.lines ≡ ls)
Given s f ls (cutting c out p) = Given s f ls p × (valid c ≡ true)
Given s f ls (joining out p q) = Given s f ls p × Given s f ls q

-- "every join in it is at most 64 MiB"
abbrev pub JoinsFit : Format → Plan → Type 0
JoinsFit f (file b t) = Unit {0}
JoinsFit f (cutting c out p) = JoinsFit f p
JoinsFit f (joining out p q) = JoinsFit f p × JoinsFit f q × (length (encode f (join (value p) (value q))) ≤ limit)

-- "each output has room"
abbrev pub OutputsFit : Settings → Plan → Type 0
OutputsFit s (file b t) = Unit {0}
OutputsFit s (cutting c out p) = OutputsFit s p × HasRoom (cut_of s c (result s p)) out
OutputsFit s (joining out p q) = OutputsFit s p × OutputsFit s q × HasRoom (join_of s (result s p) (result s q)) out
