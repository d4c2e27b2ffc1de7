-- The walk over an accepted file's heads finds the frame table.
-- Assumes nothing.
use Rattle.std.specs.Prelude.{◌≡◌}
use Rattle.std.specs.Prelude.{Option as Optional}
use Rattle.std.proofs.Math.Path.{refl, ap}
use Rattle.std.proofs.Common.{sym, ◌∙◌}
use Rattle.std.proofs.Math.Option.{Option, none, some}
use Prim.Native.Nat.{ℕ, zero, suc}
use native.Mathlib.Omega.{arith}
use mathlib.Core.List.{List, ◌∷◌, map, map-map}
use Rattle.std.proofs.Math.ListN.{length}
use Rattle.std.proofs.lemmas.List.{length-map}
use Rattle.fields.specs.Answer.{Answer, accepted, refused}
use Rattle.fields.specs.Reader.{step_at}
use Rattle.fields.specs.Element.{nth, map_same}
use Rattle.gdb_format.specs.Trace.{Frame, Trace, opening}
use Rattle.gdb_format.specs.Decode.{frame_head}
use Rattle.gdb_format.specs.Lines.{register_size}
use Rattle.gdb_format.specs.Opening.{size_meaning}
use Rattle.gdb_format.specs.declared.Format.{Format}
use Rattle.gdb_format.specs.declared.Settings.{Settings}
use Rattle.gdb_data.specs.declared.FrameLayout.{FrameLayout}
use Rattle.gdb_read.specs.Steps.{Row, head_seen, frame_seen, opened_meaning}
use Rattle.gdb_read.specs.declared.Opened.{Opened}
use Rattle.gdb_frames.specs.Places.{frames_at}
use Rattle.gdb_frames.specs.Questions.{asked, table}
use Rattle.gdb_frames.specs.File.{File, WasRead, told}
use Rattle.gdb_frames.specs.Rows.{row_then, rows_from, table-long, rows_table}
use Rattle.gdb_blocks.specs.Earliest.{earliest}
use Rattle.gdb_blocks.specs.Search.{registers_in, row_blocks}
use Rattle.gdb_blocks.specs.SearchLaws.{row-blocks}
use Rattle.gdb_table.specs.Records.{record_of, record_at, frame_table}
use Rattle.gdb_table.specs.Walk.{record_in, step_to, records_from}

-- ---- the walk finds the table

-- where so many heads stand, the walk finds a record for each
module _ (m : FrameLayout) (b : List ℕ) where
  records_rows : (n at : ℕ) → length (rows_from m.format b n at) ≡ n → records_from m b n at ≡ map (record_in m b) (rows_from m.format b n at)
  unfolding records_from
  records_rows zero at e = refl
  records_rows (suc n) at e = by n (records_rows n) (step_at head_seen (frame_head m.format) b at) e
    where
      by : (n : ℕ) → ((at : ℕ) → length (rows_from m.format b n at) ≡ n → records_from m b n at ≡ map (record_in m b) (rows_from m.format b n at))
          → (x : Answer (Option (Row × ℕ))) → length (row_then (rows_from m.format b n) x) ≡ suc n
          → (step_to (record_in m b) x).found ∷ records_from m b n (step_to (record_in m b) x).next ≡ map (record_in m b) (row_then (rows_from m.format b n) x)
      by n more (accepted none) e = absurd (omega (arith, e))
      by n more (accepted (some r)) e = ap (λ l. record_in m b r.0 ∷ l) (more r.1 (omega (arith, e)))
      by n more (refused k) e = absurd (omega (arith, e))

-- and of a file's frames they are the table's: the blocks that a walk meets in a frame are the frame's
module _ (f : Format) (z : Optional ℕ) (b : List ℕ) (t : Trace) (i : File f b t) (size : size_meaning z ≡ register_size f t.lines) where
  abbrev layout : FrameLayout
  layout = record { format = f; size = z }

  made_at : (n : ℕ) (r : ℕ × Frame) → nth (frames_at f t) n ≡ accepted r → record_in layout b (frame_seen f r.0 r.1) ≡ record_at f r
  made_at n r g =
      let v = frame_seen f r.0 r.1 in
      ap (λ l. record_of v (earliest registers_in l)) (ap (λ k. row_blocks f k b v) size ∙ row-blocks n f t r.0 r.1 i g)

  made_of : map (record_in layout b) (table f t) ≡ map (record_at f) (frames_at f t)
  made_of =
      map-map (record_in layout b) (λ r. frame_seen f r.0 r.1) (frames_at f t)
      ∙ map_same (λ r. record_in layout b (frame_seen f r.0 r.1)) (record_at f) (frames_at f t) made_at

  table-found : records_from layout b (length t.frames) (length (opening t.lines)) ≡ map (record_at f) (frames_at f t)
  table-found =
      let e = rows_table f b t i in
      records_rows layout b (length t.frames) (length (opening t.lines)) (ap length e ∙ table-long f t) ∙ ap (map (record_in layout b)) e ∙ made_of

-- a record for each frame
pub records-length : (f : Format) (t : Trace) → length (map (record_at f) (frames_at f t)) ≡ length t.frames
records-length f t = length-map (frames_at f t) (record_at f) ∙ sym (length-map (frames_at f t) (λ r. frame_seen f r.0 r.1)) ∙ table-long f t

-- ---- a file that was read

-- its table is what the walk from the first frame finds
pub table_read : {s : Settings} {b : List ℕ} (o : Opened) → WasRead s b (opened_meaning o)
    → asked s b frame_table ≡ accepted (records_from o.layout b o.frames o.start)
table_read {s} {b} o w =
    told s b w.bytes (opened_meaning o) w.summed
    (λ m. size_meaning o.layout.size ≡ m.size
    → asked s b frame_table ≡ accepted (records_from (record { format = m.format; size = o.layout.size }) b m.frames m.start))
    (λ f t r i size. rw r (ap accepted (sym (table-found f o.layout.size b t i size)))) refl
