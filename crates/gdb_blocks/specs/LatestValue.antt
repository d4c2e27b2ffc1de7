-- C-13: the last variable block counts. What it means that variable v in frame n is x: of the frame's blocks, a `V` block with the number v has the value x
-- and no later block has that number. That the question answers exactly so: proofs/LatestValue.antt.
-- Assumes nothing.
use Rattle.std.specs.Prelude.{◌≡◌, ℕ, List, ◌∷◌, ◌++◌, ℤ, ◌≢◌}
use Rattle.fields.specs.Lists.{Each}
use Rattle.fields.specs.Answer.{accepted}
use Rattle.fields.specs.Element.{nth}
use Rattle.gdb_format.specs.Trace.{Block, variable, Frame, Trace}
use Rattle.gdb_format.specs.Decode.{read}
use Rattle.gdb_format.specs.declared.Settings.{Settings}
use Rattle.gdb_format.specs.declared.Format.{Format}

-- z is no `V` block with the number v
abbrev pub OtherThan : ℕ → Block → Type 0
OtherThan v z = (y : ℤ) → z ≢ variable v y

-- the blocks of frame n of the trace that was read: some, a `V` block with the number v and the value x, and others, none of them a `V` block with this number
pub record LatestValue (s : Settings) (b : List ℕ) (n v : ℕ) (x : ℤ) : Type 0 where
  pub format : Format
  pub trace : Trace
  pub frame : Frame
  pub before : List Block
  pub after : List Block
  pub was_read : read s b ≡ accepted (format, trace)
  pub is-frame : nth trace.frames n ≡ accepted frame
  pub blocks_are : frame.blocks ≡ before ++ variable v x ∷ after
  pub none-later : Each (OtherThan v) after
