-- The reader's tests of a header's numbers and CPU ranges. That each lets through just what fits the layout: Pages.antt, RangeLaws.antt.
-- Assumes nothing: these are definitions, and one law.
use Rattle.std.specs.Prelude.{◌≡◌, Bool, true, ◌&&◌, ◌||◌, ℕ, ◌+◌, ◌%◌, List, [], ◌∷◌, leb, eqb}
use Rattle.std.proofs.Common.{sym, ◌∙◌}
use Rattle.dat_format.specs.Header.{Range}

abbrev pub is_long : ℕ → Bool
is_long n = eqb n 4 || eqb n 8

abbrev pub is_page : ℕ → Bool
is_page n = eqb n 1024 || (eqb n 2048 || (eqb n 4096 || (eqb n 8192 || (eqb n 16384 || (eqb n 32768 || eqb n 65536)))))

abbrev pub aligned : ℕ → ℕ → Bool
aligned page offset = eqb (offset % page) 0

-- in a file of `total` bytes whose header ends at `end`
abbrev pub in_file : ℕ → ℕ → ℕ → Range → Bool
in_file page end total r =
    eqb r.size 0 || (aligned page r.offset && (leb end r.offset && leb (r.offset + r.size) total))

abbrev pub apart : Range → Range → Bool
apart r q = eqb r.size 0 || (eqb q.size 0 || (leb (r.offset + r.size) q.offset || leb (q.offset + q.size) r.offset))

abbrev pub all : {A : Type 0} → (A → Bool) → List A → Bool
all p [] = true
all p (x ∷ xs) = p x && all p xs

abbrev pub all_apart : List Range → Bool
all_apart [] = true
all_apart (r ∷ rs) = all (apart r) rs && all_apart rs

-- a test that was made says what is tested
pub tested : {r a t : Bool} → r ≡ a → r ≡ t → a ≡ t
tested e f = sym e ∙ f
