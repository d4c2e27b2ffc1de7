-- What it means that the bytes at a place are those of a frame's block, and that a block stands at its record's place. That the questions answer so, for
-- every file, frame and address and for all settings: proofs/Shown.antt.
-- Assumes nothing.
use Rattle.std.specs.Prelude.{◌≡◌, ℕ, ◌+◌, List, length, take, drop}
use Rattle.std.proofs.Math.Option.{Option}
use Rattle.fields.specs.Number.{Bytes}
use Rattle.fields.specs.Answer.{accepted}
use Rattle.fields.specs.Element.{nth, each-nth}
use Rattle.gdb_format.specs.Trace.{Block, registers, memory, Frame, Trace, put_block}
use Rattle.gdb_format.specs.Lines.{register_size}
use Rattle.gdb_format.specs.Layout.{FrameFits}
use Rattle.gdb_format.specs.Decode.{read}
use Rattle.gdb_format.specs.declared.Settings.{Settings}
use Rattle.gdb_format.specs.declared.Format.{Format}
use Rattle.gdb_data.specs.Blocks.{Carried, carried_by}
use Rattle.gdb_frames.specs.File.{file_of_lem}
use Rattle.gdb_blocks.specs.Earliest.{Earliest}
use Rattle.gdb_blocks.specs.Held.{block_held}

-- the k bytes from p on are those that `g` finds in the earliest block of frame n of the trace that was read
pub record BytesShown (s : Settings) (b : List ℕ) (n : ℕ) (g : Block → Option (List ℕ)) (p k : ℕ) : Type 0 where
  pub format : Format
  pub trace : Trace
  pub frame : Frame
  pub bytes : List ℕ
  pub was_read : read s b ≡ accepted (format, trace)
  pub is-frame : nth trace.frames n ≡ accepted frame
  pub is-earliest : Earliest g frame.blocks bytes
  pub are_there_lem : take k (drop p b) ≡ bytes
  pub are_all : length bytes ≡ k

-- the frame whose bytes are shown fits the layout
pub shown_fits : {s : Settings} {b : List ℕ} {n : ℕ} {g : Block → Option (List ℕ)} {p k : ℕ} → Bytes b → (q : BytesShown s b n g p k)
    → FrameFits q.format (register_size q.format q.trace.lines) q.frame
shown_fits {s} {b} {n} h q =
    let i = file_of_lem s b q.format q.trace h q.was_read in
    each-nth (FrameFits q.format (register_size q.format q.trace.lines)) q.trace.frames n q.frame i.fits.frames_fit q.is-frame

-- block k of frame n of the trace that was read: its letter at p, and behind it its bytes
pub record BlockStands (s : Settings) (b : List ℕ) (n k p : ℕ) (c : Carried) : Type 0 where
  pub format : Format
  pub trace : Trace
  pub block : Block
  pub was_read : read s b ≡ accepted (format, trace)
  pub is_block : block_held n k format trace ≡ accepted block
  pub is_kind : carried_by block ≡ c
  pub is-there : take (length (put_block format block)) (drop p b) ≡ put_block format block
  pub registers-behind : (d : List ℕ) → block ≡ registers d → take (length d) (drop (p + 1) b) ≡ d
  pub memory_behind : (a : ℕ) (d : List ℕ) → block ≡ memory a d → take (length d) (drop (p + 11) b) ≡ d
