-- Which parts are read, of every file: nothing of one that is too long; the opening; six bytes at each head and where the next should start; and the
-- data of frame n where its head stands.
-- Assumes nothing.
use Rattle.std.specs.Prelude.{◌≡◌, refl, Bool, ℕ, ◌+◌, ◌<◌, ◌≤◌, take, drop, eqb}
use Rattle.std.proofs.Common.{sym, ap, ◌∙◌, arith, length-append}
use Rattle.std.proofs.Math.Bool.{true, false, cond}
use Rattle.std.proofs.Math.Option.{none}
use mathlib.Core.List.{List, [], ◌∷◌, ◌++◌}
use Rattle.std.proofs.Math.ListN.{length, length-drop}
use borrow.Author.Tests.{le-leb, lt-leb}
use Rattle.refusals.specs.Refusal.{limit, bad_head, bad_line, not_found}
use Rattle.fields.specs.Lists.{concat_map}
use Rattle.fields.specs.Number.{Bytes}
use Rattle.fields.specs.Word.{starts}
use Rattle.fields.specs.Answer.{Answer, accepted, refused, next, next_inv, never, accepted_inj}
use Rattle.fields.specs.Reader.{refuse, bytes}
use Rattle.fields.specs.Takes.{bytes_inv}
use Rattle.gdb_format.specs.Settings.{settings_of}
use Rattle.gdb_format.specs.Trace.{head, opening, head_in, put_data, put_mark}
use Rattle.gdb_format.specs.Lines.{may_follow}
use Rattle.gdb_format.specs.Decode.{description, frame_head, ending, opening_lines}
use Rattle.gdb_format.specs.ExactFrame.{HeadFits}
use Rattle.gdb_format.specs.declared.Settings.{Settings}
use Rattle.gdb_format.specs.declared.Format.{Format}
use Rattle.gdb_read.specs.Steps.{head_seen}
use Rattle.gdb_frames.specs.Nth.{found_by}
use Rattle.gdb_seek.specs.Walk.{head_or_end, Walk, ends_at, walk_to}
use Rattle.gdb_seek.specs.Found.{described, opening_read, walk_parts, parts_read}
use Rattle.gdb_seek.specs.Openings.{opens, opened, Starts, opening-first, start_place, heads-there}
use Rattle.gdb_seek.specs.Heads.{end-here, over, walk_stops, walk_meets}
use Rattle.gdb_seek.specs.Stands.{Stands}
use Rattle.gdb_seek.specs.Refused.{no-head}
use Rattle.gdb_seek.specs.PartsRead.{heads_from, no_head, head_and_data}

-- ---- the opening

module _ (f : Format) where
  -- one byte more: a line goes on, ends the description, is ended, or is refused
  byte_read : (before ls : List (List ℕ)) (xs rest : List ℕ) (a m : ℕ) (d p : Answer (List (List ℕ) × List ℕ)) (t u v : Bool)
      → cond t (cond u (accepted (before, xs)) (cond v d (refused bad_line))) p ≡ accepted (ls, rest)
      → (d ≡ accepted (ls, rest) → a + length rest ≡ length xs) → (p ≡ accepted (ls, rest) → m + length rest ≡ length xs)
      → cond t (cond u 0 (cond v a 0)) m + length rest ≡ length xs
  byte_read before ls xs rest a m d p true true v e after more = omega (arith, ap length (accepted_inj e).1)
  byte_read before ls xs rest a m d p true false true e after more = after e
  byte_read before ls xs rest a m d p true false false e after more = never e
  byte_read before ls xs rest a m d p false u v e after more = more e

  described-all : (b : List ℕ) (before : List (List ℕ)) (line : List ℕ) (ls : List (List ℕ)) (rest : List ℕ)
      → description f before line b ≡ accepted (ls, rest) → described f before line b + length rest ≡ length b
  unfolding description described
  described-all [] before line ls rest e = never e
  described-all (x ∷ xs) before line ls rest e =
      let i = byte_read before ls xs rest _ _ _ _ (eqb x 0x0A) (eqb (length line) 0) (may_follow f before line) e
      (described-all xs (before ++ line ∷ []) [] ls rest) (described-all xs before (line ++ x ∷ []) ls rest) in
      omega (arith, i)

  opening_left : (b : List ℕ) (ls : List (List ℕ)) (rest : List ℕ) → opening_lines f b ≡ accepted (ls, rest) → opening_read f b + length rest ≡ length b
  unfolding opening_lines
  opening_left b ls rest e =
      let q = next_inv (bytes 8 bad_head b) _ e in
      let i = bytes_inv 8 bad_head b q.0.0 q.0.1 q.1 in
      by i.0 (starts head (take 8 b)) (rw (← i.1, ← i.2) at q.2)
    where
      by : 8 ≤ length b → (t : Bool) → cond t (description f [] []) (refuse bad_head) (drop 8 b) ≡ accepted (ls, rest)
          → 8 + cond t (described f [] [] (drop 8 b)) 0 + length rest ≡ length b
      by h true e = omega (arith, described-all (drop 8 b) [] [] ls rest e, length-drop 8 b, h)
      by h false e = never e

  -- an opening that is let through is read as far as it goes
  opening-read : (b : List ℕ) (ls : List (List ℕ)) (rest : List ℕ) → Bytes b → opening_lines f b ≡ accepted (ls, rest) → opening_read f b ≡ length (opening ls)
  opening-read b ls rest h e =
      omega (arith, opening_left b ls rest e, ap length (opens f b ls rest h e).laid_out, length-append (opening ls) rest)

-- ---- the heads

over-parts : (f : Format) (at : ℕ) (hs : List (ℕ × List ℕ)) (last : ℕ → Walk) → walk_parts (over f at hs last) ≡ heads_from f at hs (λ m. walk_parts (last m))
over-parts f at [] last = refl
over-parts f at (h ∷ hs) last = ap (λ ps. (at, 6) ∷ ps) (over-parts f (at + length (put_data f h)) hs last)

-- ---- the file

module _ (s : Settings) (b : List ℕ) (n : ℕ) where
  -- nothing
  pub parts-no-format : (k : ℕ) → settings_of s ≡ refused k → parts_read s b n ≡ []
  unfolding parts_read
  parts-no-format k e = rw e

  module _ (f : Format) (ok : settings_of s ≡ accepted f) where
    pub parts-too_long : limit < length b → parts_read s b n ≡ []
    unfolding parts_read
    parts-too_long h = rw (ok, lt-leb (length b) limit h)

    module _ (short : length b ≤ limit) where
      -- of an opening that is refused no more than it
      pub parts-no-opening : (k : ℕ) → opening_lines f b ≡ refused k → parts_read s b n ≡ (0, opening_read f b) ∷ []
      unfolding parts_read
      parts-no-opening k e = rw (ok, le-leb (length b) limit short, e)

      module _ (w : Bytes b) (z : Starts f b) where
        parts_by : (v : Walk) → walk_to f b n (start_place z) ≡ v → parts_read s b n ≡ (0, start_place z) ∷ walk_parts v
        unfolding parts_read
        parts_by v e =
            let o = opened (opening-first z) in
            rw (ok, le-leb (length b) limit short, o, opening-read f b z.lines _ w o) (ap (λ v. (0, start_place z) ∷ walk_parts v) e)

        -- where no head stands behind at most n
        stopped : (k : ℕ) → length z.earlier ≤ n → ((m : ℕ) → drop m b ≡ z.rest → next (head_or_end f b m) (found_by (λ v. v)) ≡ refused k)
            → parts_read s b n ≡ (0, start_place z) ∷ heads_from f (start_place z) z.earlier no_head
        stopped k few e =
            parts_by (over f (start_place z) z.earlier (λ m. ends_at m (refused k)))
            (walk_stops f b n k z.earlier (start_place z) z.rest few z.earlier_fit (heads-there z) e)
            ∙ ap (λ ps. (0, start_place z) ∷ ps) (over-parts f (start_place z) z.earlier (λ m. ends_at m (refused k)))

        -- where the file ends or the mark stands
        pub parts-ended : (m : Bool) → length z.earlier ≤ n → z.rest ≡ put_mark m
            → parts_read s b n ≡ (0, start_place z) ∷ heads_from f (start_place z) z.earlier no_head
        parts-ended m few e = stopped not_found few (λ a i. rw (end-here f b a m (i ∙ e)))

        -- where a head is refused
        pub parts-no-head : (k : ℕ) → length z.earlier ≤ n → ending z.rest ≡ none → frame_head f z.rest ≡ refused k
            → parts_read s b n ≡ (0, start_place z) ∷ heads_from f (start_place z) z.earlier no_head
        parts-no-head k few i e = stopped k few (λ a j. rw (no-head f b a k (ap ending j ∙ i) (ap (frame_head f) j ∙ e)))

        -- where the head of frame n stands, whatever its blocks are
        pub parts_met : (h : ℕ × List ℕ) (rest : List ℕ) → length z.earlier ≡ n → HeadFits h → z.rest ≡ put_data f h ++ rest
            → parts_read s b n ≡ (0, start_place z) ∷ heads_from f (start_place z) z.earlier (head_and_data h)
        parts_met h rest many fit e =
            let last : ℕ → Walk = λ m. ends_at m (accepted (head_seen m h)) in
            parts_by (over f (start_place z) z.earlier last)
            (ap (λ m. walk_to f b m (start_place z)) (sym many)
            ∙ walk_meets f b z.earlier h (start_place z) rest z.earlier_fit fit (heads-there z ∙ ap (λ d. concat_map (put_data f) z.earlier ++ d) e))
            ∙ ap (λ ps. (0, start_place z) ∷ ps) (over-parts f (start_place z) z.earlier last)

      -- where frame n is found: the opening, the heads of frames 0 to n, and its data
      pub parts-found : Bytes b → (z : Stands f b n)
          → parts_read s b n ≡ (0, start_place z.starts) ∷ heads_from f (start_place z.starts) z.starts.earlier (head_and_data (head_in f z.found))
      parts-found w z = let g = z.found-fits in parts_met w z.starts (head_in f z.found) z.behind z.so_many (g.0, g.1, g.3) z.there
