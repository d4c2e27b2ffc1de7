-- The lines of an accepted file's frame table are short; and what is listed, by what the reading answers.
-- Assumes nothing.
use Rattle.std.specs.Prelude.{◌≡◌, Bool, cond, ℕ, ◌+◌, ◌*◌, ◌<◌, ◌≤◌, List, [], ◌∷◌, ◌++◌}
use Rattle.std.proofs.Math.Path.{refl}
use Rattle.std.proofs.Common.{sym, ap, ◌∙◌, subst, arith, length-append, lit≤, lt-ltb, le-ltb, ltb-false}
use Rattle.std.proofs.Math.Bool.{true, false}
use Rattle.std.proofs.Math.Option.{Option}
use Rattle.std.proofs.Math.ListN.{length}
use Rattle.std.proofs.Math.Dec.{ltb}
use Rattle.refusals.specs.Refusal.{too_long}
use Rattle.fields.specs.Lists.{concat_map, Each}
use Rattle.fields.specs.Number.{Bytes}
use Rattle.fields.specs.Answer.{Answer, accepted, refused, next}
use Rattle.fields.specs.Refuses.{refuses_in}
use Rattle.gdb_format.specs.FrameBytes.{frame-long}
use Rattle.gdb_format.specs.Trace.{Frame, Trace, opening, head_in, put_frame}
use Rattle.gdb_format.specs.Lines.{register_size}
use Rattle.gdb_format.specs.Layout.{FrameFits}
use Rattle.gdb_format.specs.Decode.{read}
use Rattle.gdb_format.specs.Numbers.{file_numbers, file-numbers}
use Rattle.gdb_format.specs.declared.Format.{Format}
use Rattle.gdb_read.specs.Steps.{Row, frame_seen, Summary, read_seen}
use Rattle.gdb_frames.specs.Questions.{asked, table}
use Rattle.gdb_frames.specs.File.{File, file_of_lem, frames_last, asked-refused, told}
use Rattle.gdb_frames.specs.Rows.{rows_from, rows_shown, table-long, rows_table}
use Rattle.gdb_listing.specs.Text.{decimal, ended, line_of, frames_word, refused_word, text, listing_limit, little, whole_table, listed}
use Rattle.gdb_listing.specs.DecimalLaws.{decimal-long, ended-length, line-short}
use Rattle.gdb_listing.specs.Written.{Wrote, wrote_then}
use Rattle.gdb_listing.specs.Rows.{Listable}
use Rattle.gdb_listing.specs.declared.Writer.{Writer}

frames-length : (f : Format) (xs : List Frame) → 6 * length xs ≤ length (concat_map (put_frame f) xs)
frames-length f [] = omega arith
frames-length f (x ∷ xs) = omega (arith, length-append (put_frame f x) (concat_map (put_frame f) xs), frame-long f (head_in f x), frames-length f xs)

lines-short : (f : Format) (size : Option ℕ) (xs : List Frame) (at : ℕ) → Each (FrameFits f size) xs
    → at + length (concat_map (put_frame f) xs) ≤ listing_limit
    → length (concat_map line_of (rows_shown f at xs)) ≤ 18 * length xs
lines-short f size [] at g h = omega arith
lines-short f size (x ∷ xs) at g h =
    let k = length-append (put_frame f x) (concat_map (put_frame f) xs) in
    let m = frame-long f (head_in f x) in
    let tp : x.tracepoint < 65536 = g.0.0 in
    let one = line-short (frame_seen f at x) (omega arith) (omega (arith, k, m)) (omega (arith, k, m)) in
    let more = lines-short f size xs (at + length (put_frame f x)) g.1 (omega (arith, k)) in
    omega (arith, length-append (line_of (frame_seen f at x)) (concat_map line_of (rows_shown f (at + length (put_frame f x)) xs)))

-- ---- an accepted file

module _ (f : Format) (b : List ℕ) (t : Trace) (i : File f b t) where
  pub frames-few : 6 * length t.frames ≤ length b
  frames-few = omega (arith, frames-length f t.frames, frames_last f b t i)

  pub listable : length b ≤ listing_limit → Listable (rows_from f b (length t.frames) (length (opening t.lines))) (length t.frames)
  listable h =
      record {
        count = ap length (rows_table f b t i) ∙ table-long f t;
        few = omega (arith, frames-few);
        short = rw (rows_table f b t i) (lines-short f (register_size f t.lines) t.frames (length (opening t.lines))
            i.fits.frames_fit (omega (arith, h, frames_last f b t i)));
      }

-- how long a text is
pub rows_length : (rows : List Row) → length (text (accepted rows)) ≡ 7 + length (decimal (length rows)) + 1 + length (concat_map line_of rows)
rows_length rows =
    omega (
      arith,
      length-append frames_word (ended (length rows) 0x0A ++ concat_map line_of rows),
      length-append (ended (length rows) 0x0A) (concat_map line_of rows),
      ended-length (length rows) 0x0A,
    )

pub table-length : (rows : List Row) (n : ℕ) → Listable rows n → length (text (accepted rows)) ≡ 7 + length (decimal n) + 1 + length (concat_map line_of rows)
table-length rows n i = rows_length rows ∙ ap (λ k. 7 + length (decimal k) + 1 + length (concat_map line_of rows)) i.count

pub refusal_length : (n : ℕ) → length (text (refused n)) ≡ 8 + length (decimal n) + 1
refusal_length n = omega (arith, length-append refused_word (ended n 0x0A), ended-length n 0x0A)

-- the words and the lines, one after another
pub wrote_table : {a b c d : Writer} (rows : List Row) (n : ℕ) → Listable rows n
    → Wrote a frames_word b → Wrote b (ended n 0x0A) c → Wrote c (concat_map line_of rows) d → Wrote a (text (accepted rows)) d
wrote_table {b = b} {c = c} rows n i p q r = wrote_then p (wrote_then (subst (λ k. Wrote b (ended k 0x0A) c) (sym i.count) q) r)

-- ---- what is listed

pub listed-long : (b : List ℕ) → listing_limit < length b → refused too_long ≡ listed b
unfolding listed
listed-long b h = rw (lt-ltb listing_limit (length b) h)

module _ (b : List ℕ) (h : length b ≤ listing_limit) where
  listed-asked : listed b ≡ asked little b whole_table
  unfolding listed
  listed-asked = rw (le-ltb listing_limit (length b) h)

  pub listed-refused : (n : ℕ) → refused n ≡ read_seen (read little b) → refused n ≡ listed b
  listed-refused n e = asked-refused little b whole_table n e ∙ sym listed-asked

  module _ (g : Bytes b) (m : Summary) (e : accepted m ≡ read_seen (read little b)) where
    pub listed_rows : accepted (rows_from m.format b m.frames m.start) ≡ listed b
    listed_rows =
        told little b g m e (λ m. accepted (rows_from m.format b m.frames m.start) ≡ asked little b whole_table)
        (λ f t r i. ap accepted (rows_table f b t i) ∙ rw r)
        ∙ sym listed-asked

    pub listed-listable : Listable (rows_from m.format b m.frames m.start) m.frames
    listed-listable = told little b g m e (λ m. Listable (rows_from m.format b m.frames m.start) m.frames) (λ f t r i. listable f b t i h)

-- 196,626 bytes have room for every listing: a frame takes at least 6 bytes of the file, so its line at most 3 for each of them
-- a refusal's number has one digit or two
refusal_short : (n : ℕ) → n < 100 → length (text (refused n)) ≤ 196626
refusal_short n h = omega (arith, refusal_length n, decimal-long 1 n (omega arith))

rows_short : (f : Format) (b : List ℕ) (t : Trace) → length b ≤ listing_limit → File f b t → length (text (accepted (table f t))) ≤ 196626
rows_short f b t h i =
    let l = listable f b t i h in
    let e = rows_table f b t i in
    let k = table-length _ (length t.frames) l in
    let few = frames-few f b t i in
    subst (λ rows. length (text (accepted rows)) ≤ 196626) e (omega (arith, k, l.short, few, decimal-long 4 (length t.frames) (omega arith)))

module _ (b : List ℕ) (g : Bytes b) where
  asked-short : length b ≤ listing_limit → (x : Answer (Format × Trace)) → read little b ≡ x
      → length (text (next x (λ r. whole_table r.0 r.1))) ≤ 196626
  asked-short h (accepted (f, t)) e = rows_short f b t h (file_of_lem little b f t g e)
  asked-short h (refused n) e = refusal_short n ((refuses_in {P = λ k. k < 100} file_numbers (search lit≤) (file-numbers little b)).only n e)

  pub room_enough : length (text (listed b)) ≤ 196626
  unfolding listed
  room_enough = by (ltb listing_limit (length b)) refl
    where
      by : (t : Bool) → ltb listing_limit (length b) ≡ t → length (text (cond t (refused too_long) (asked little b whole_table))) ≤ 196626
      by true e = refusal_short too_long (omega arith)
      by false e = asked-short (ltb-false listing_limit (length b) e) (read little b) refl
