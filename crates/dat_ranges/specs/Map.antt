-- The map of units: a bit for each unit of a file, 64 to a word, 1 where a range has claimed the unit.
-- Assumes nothing: these are definitions.
use Rattle.std.specs.Prelude.{◌≡◌, ℕ, ◌+◌, ◌/◌, ◌%◌, ◌^◌, ◌<◌, ◌≤◌, Bool, true, false, List, length, slice_index}

-- bit i of a word
abbrev pub bit : ℕ → ℕ → ℕ
bit i w = w / 2 ^ i % 2

-- the bit of unit u
abbrev pub mark : List ℕ → ℕ → ℕ
mark m u = bit (u % 64) (slice_index m (u / 64))

-- of the 64 bits of a word, the first of which stands for `base`, just those from a up to e are 1
pub record Bits (base a e w : ℕ) : Type 0 where
  pub inside : (i : ℕ) → i < 64 → a ≤ base + i → base + i < e → bit i w ≡ 1
  pub before : (i : ℕ) → i < 64 → base + i < a → bit i w ≡ 0
  pub behind : (i : ℕ) → i < 64 → e ≤ base + i → bit i w ≡ 0

-- the units of which P holds were free in m; in `after` they are marked, and the others are as they were
pub record Claimed (P : ℕ → Type 0) (m after : List ℕ) : Type 0 where
  pub words : length after ≡ length m
  pub free : (u : ℕ) → P u → mark m u ≡ 0
  pub inside : (u : ℕ) → P u → mark after u ≡ 1
  pub outside : (u : ℕ) → (P u → ⊥) → mark after u ≡ mark m u

-- what a claim answers of the units of which P holds: yes where they were all free, and are marked then; no where one was taken
abbrev pub ClaimSays : Bool → (ℕ → Type 0) → List ℕ → List ℕ → Type 0
ClaimSays true P m after = Claimed P m after
ClaimSays false P m after = ((u : ℕ) → P u → mark m u ≡ 0) → ⊥

-- the units from a up to e
abbrev pub From : ℕ → ℕ → ℕ → Type 0
From a e u = (a ≤ u) × (u < e)
