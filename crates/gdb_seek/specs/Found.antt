-- Frame n by the parts of the file that show it: the opening, the heads of frames 0 to n, and the blocks of frame n.
-- Assumes nothing: these are definitions.
use Rattle.std.specs.Prelude.{◌≡◌, cond, ℕ, suc, ◌+◌, List, [], ◌∷◌, ◌++◌, map, length, take, drop, leb, eqb, Result}
use Rattle.std.proofs.Math.Option.{Option}
use Rattle.refusals.specs.Refusal.{limit, too_long}
use Rattle.refusals.specs.declared.Refusal.{Refusal}
use Rattle.fields.specs.Lists.{Each}
use Rattle.fields.specs.Word.{starts}
use Rattle.fields.specs.Answer.{Answer, accepted, refused, next}
use Rattle.fields.specs.Meaning.{answer_by}
use Rattle.gdb_format.specs.Settings.{settings_of}
use Rattle.gdb_format.specs.Trace.{head, opening}
use Rattle.gdb_format.specs.Lines.{may_follow, register_size}
use Rattle.gdb_format.specs.Decode.{blocks, opening_lines}
use Rattle.gdb_format.specs.declared.Settings.{Settings}
use Rattle.gdb_format.specs.declared.Format.{Format}
use Rattle.gdb_read.specs.Steps.{Row}
use Rattle.gdb_frames.specs.Places.{part}
use Rattle.gdb_frames.specs.Questions.{data_in}
use Rattle.gdb_seek.specs.Walk.{Walk, walk_to}
use Rattle.gdb_seek.specs.declared.FoundFrame.{FoundFrame}

-- ---- the question

-- the data of the frame that a walk has reached, where blocks fill them, and the number of heads that it has read
abbrev pub judged : Format → Option ℕ → List ℕ → Walk → Answer ((ℕ × ℕ) × ℕ)
judged f size b w =
    next w.reached (λ r.
    next (blocks f size (part b (accepted (data_in r))) []) (λ q.
    accepted (data_in r, length w.visited)))

-- behind an opening of these lines
abbrev pub found_behind : Format → List ℕ → ℕ → List (List ℕ) → Answer ((ℕ × ℕ) × ℕ)
found_behind f b n ls = judged f (register_size f ls) b (walk_to f b n (length (opening ls)))

abbrev pub found_in : Format → List ℕ → ℕ → Answer ((ℕ × ℕ) × ℕ)
found_in f b n = let x = next (opening_lines f b) (λ o. found_behind f b n o.0) in cond (leb (length b) limit) x (refused too_long)

-- the data of frame n, place and length, and the number of frame heads read: 2, then 1, then the parts read in file order
unfoldable pub frame_found : Settings → List ℕ → ℕ → Answer ((ℕ × ℕ) × ℕ)
frame_found s b n = next (settings_of s) (λ f. found_in f b n)

-- the same without the number of heads
abbrev pub data_found : Settings → List ℕ → ℕ → Answer (ℕ × ℕ)
data_found s b n = next (frame_found s b n) (λ r. accepted r.0)

-- what the code's answer says
abbrev pub found_meaning : Result FoundFrame Refusal → Answer ((ℕ × ℕ) × ℕ)
found_meaning r = answer_by (λ a. ((a.part.place, a.part.length), a.heads)) r

-- ---- the parts of the file that are read, each by its place and length

-- how far the description is read, after the lines `before` and the bytes `line` of one that has begun:
-- to its closing empty line, to the end of a line that is refused, or to the file's end
unfoldable pub described : Format → List (List ℕ) → List ℕ → List ℕ → ℕ
described f before line [] = 0
described f before line (x ∷ xs) =
    let more = described f before (line ++ x ∷ []) xs in
    let after = described f (before ++ line ∷ []) [] xs in
    let ended = cond (may_follow f before line) after 0 in
    suc (cond (eqb x 0x0A) (cond (eqb (length line) 0) 0 ended) more)

-- and the opening: its first 8 bytes, and the description where they are the head
abbrev pub opening_read : Format → List ℕ → ℕ
opening_read f b = let k = described f [] [] (drop 8 b) in 8 + cond (starts head (take 8 b)) k 0

-- where a walk looks for a head, six bytes, or as many as stand there
abbrev pub head_part : ℕ → ℕ × ℕ
head_part at = (at, 6)

-- the data of the frame that it has reached
abbrev pub data_part : Answer Row → List (ℕ × ℕ)
data_part (accepted r) = data_in r ∷ []
data_part (refused k) = []

abbrev pub walk_parts : Walk → List (ℕ × ℕ)
walk_parts w = map head_part w.visited ++ data_part w.reached

-- what follows on a value; nothing on a refusal
abbrev pub parts_on : {A : Type 0} → Answer A → (A → List (ℕ × ℕ)) → List (ℕ × ℕ)
parts_on (accepted a) g = g a
parts_on (refused k) g = []

-- the opening as far as it is read, and behind one that is let through what the walk reads
abbrev pub parts_in : Format → List ℕ → ℕ → List (ℕ × ℕ)
parts_in f b n = (0, opening_read f b) ∷ parts_on (opening_lines f b) (λ o. walk_parts (walk_to f b n (length (opening o.0))))

-- of a file that is longer than the limit, and under wrong settings, nothing is read
unfoldable pub parts_read : Settings → List ℕ → ℕ → List (ℕ × ℕ)
unfolding described
parts_read s b n = parts_on (settings_of s) (λ f. let ps = parts_in f b n in cond (leb (length b) limit) ps [])

-- two files have the same bytes in each of these parts
abbrev pub AgreeOn : List (ℕ × ℕ) → List ℕ → List ℕ → Type 0
AgreeOn ps b c = Each (λ p. part b (accepted p) ≡ part c (accepted p)) ps
