-- A file by its opening, which is let through, and by the heads behind it.
-- Assumes nothing.
use Rattle.std.specs.Prelude.{◌≡◌, refl, ℕ, ◌+◌, List, ◌++◌, length, drop}
use Rattle.std.proofs.Common.{sym, ap, ◌∙◌, drop-drop, drop_at}
use Rattle.fields.specs.Lists.{concat_map, Each}
use Rattle.fields.specs.Number.{Bytes}
use Rattle.fields.specs.Answer.{accepted}
use Rattle.gdb_format.specs.Trace.{opening, put_data}
use Rattle.gdb_format.specs.Layout.{LinesFit}
use Rattle.gdb_format.specs.Decode.{opening_lines}
use Rattle.gdb_format.specs.ExactFrame.{HeadFits}
use Rattle.gdb_format.specs.ExactLines.{exact_opening}
use Rattle.gdb_format.specs.declared.Format.{Format}

-- lines that open the file, and what stands behind them
pub record Opens (f : Format) (b : List ℕ) (ls : List (List ℕ)) (more : List ℕ) : Type 0 where
  pub fits : LinesFit f ls
  pub laid_out : opening ls ++ more ≡ b

pub opens : (f : Format) (b : List ℕ) (ls : List (List ℕ)) (more : List ℕ) → Bytes b → opening_lines f b ≡ accepted (ls, more) → Opens f b ls more
opens f b ls more w e = let q = (exact_opening f).forth b ls more w e in record { fits = q.0; laid_out = q.1 }

module _ {f : Format} {b : List ℕ} {ls : List (List ℕ)} {more : List ℕ} (o : Opens f b ls more) where
  pub opened : opening_lines f b ≡ accepted (ls, more)
  opened = ap (opening_lines f) (sym o.laid_out) ∙ (exact_opening f).back ls more o.fits

  pub behind-opening : drop (length (opening ls)) b ≡ more
  behind-opening = ap (drop (length (opening ls))) (sym o.laid_out) ∙ drop_at (opening ls) more (length (opening ls)) refl

-- the file starts with an opening and these heads, each followed by as much data as it says; then stands `rest`
pub record Starts (f : Format) (b : List ℕ) : Type 0 where
  pub lines : List (List ℕ)
  pub earlier : List (ℕ × List ℕ)
  pub rest : List ℕ
  pub lines_fit : LinesFit f lines
  pub earlier_fit : Each HeadFits earlier
  pub laid_out : opening lines ++ (concat_map (put_data f) earlier ++ rest) ≡ b

module _ {f : Format} {b : List ℕ} (z : Starts f b) where
  pub opening-first : Opens f b z.lines (concat_map (put_data f) z.earlier ++ z.rest)
  opening-first = record { fits = z.lines_fit; laid_out = z.laid_out }

  -- the place where the heads start, and that where they end
  abbrev pub start_place : ℕ
  start_place = length (opening z.lines)

  abbrev pub rest_place : ℕ
  rest_place = start_place + length (concat_map (put_data f) z.earlier)

  pub heads-there : drop start_place b ≡ concat_map (put_data f) z.earlier ++ z.rest
  heads-there = behind-opening opening-first

  pub rest-there : drop rest_place b ≡ z.rest
  rest-there =
      let hs = concat_map (put_data f) z.earlier in
      sym (drop-drop (length hs) start_place b) ∙ ap (drop (length hs)) heads-there ∙ drop_at hs z.rest (length hs) refl
