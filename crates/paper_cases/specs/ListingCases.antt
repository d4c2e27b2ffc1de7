-- Decimal numbers and whole listings, worked out: document 01's two-register case, a size in the default base, no frames, and a refusal.
-- Assumes nothing.
use Rattle.std.specs.Prelude.{◌≡◌, refl, ℕ, List, [], ◌∷◌, ◌++◌, replicate}
use Rattle.fields.specs.Lists.{Each}
use Rattle.gdb_format.specs.Trace.{opening}
use Rattle.gdb_format.specs.Decode.{read}
use Rattle.paper_cases.specs.Cases.{h}
use Rattle.gdb_listing.specs.Text.{decimal, ended, line_of, text, listed}

-- ---- numbers

abbrev pub numbers : List (ℕ × List ℕ)
numbers =
    (0, 0x30 ∷ [])
    ∷ (9, 0x39 ∷ [])
    ∷ (10, 0x31 ∷ 0x30 ∷ [])
    ∷ (65535, 0x36 ∷ 0x35 ∷ 0x35 ∷ 0x33 ∷ 0x35 ∷ [])
    ∷ []

pub numbers_hold : Each (λ r. decimal r.0 ≡ r.1) numbers
unfolding decimal
numbers_hold = (refl, (refl, (refl, (refl, tt))))

-- ---- listings

-- document 01's two-register case, little-endian: `R 2`, one frame of the bytes R AA BB
abbrev pub two_registers : List ℕ
two_registers = h ++ 0x52 ∷ 0x20 ∷ 0x32 ∷ 0x0A ∷ 0x0A ∷ 1 ∷ 0 ∷ 3 ∷ 0 ∷ 0 ∷ 0 ∷ 0x52 ∷ 0xAA ∷ 0xBB ∷ []

-- `R 10`, which is sixteen bytes in the default base: one frame of the letter R and as many bytes
abbrev pub sixteen_registers : List ℕ
sixteen_registers = h ++ 0x52 ∷ 0x20 ∷ 0x31 ∷ 0x30 ∷ 0x0A ∷ 0x0A ∷ 1 ∷ 0 ∷ 17 ∷ 0 ∷ 0 ∷ 0 ∷ 0x52 ∷ replicate 16 0xAA

-- `frames 1`, `1 20 17`
abbrev pub long_frame : List ℕ
long_frame =
    0x66 ∷ 0x72 ∷ 0x61 ∷ 0x6D ∷ 0x65 ∷ 0x73 ∷ 0x20 ∷ 0x31 ∷ 0x0A
    ∷ 0x31 ∷ 0x20 ∷ 0x32 ∷ 0x30 ∷ 0x20 ∷ 0x31 ∷ 0x37 ∷ 0x0A ∷ []

-- `frames 1`, `1 19 3`
abbrev pub one_frame : List ℕ
one_frame =
    0x66 ∷ 0x72 ∷ 0x61 ∷ 0x6D ∷ 0x65 ∷ 0x73 ∷ 0x20 ∷ 0x31 ∷ 0x0A
    ∷ 0x31 ∷ 0x20 ∷ 0x31 ∷ 0x39 ∷ 0x20 ∷ 0x33 ∷ 0x0A ∷ []

-- no frames: `frames 0`
abbrev pub no_frame : List ℕ
no_frame = 0x66 ∷ 0x72 ∷ 0x61 ∷ 0x6D ∷ 0x65 ∷ 0x73 ∷ 0x20 ∷ 0x30 ∷ 0x0A ∷ []

-- an empty file: `refused 3`
abbrev pub bad_start : List ℕ
bad_start = 0x72 ∷ 0x65 ∷ 0x66 ∷ 0x75 ∷ 0x73 ∷ 0x65 ∷ 0x64 ∷ 0x20 ∷ 0x33 ∷ 0x0A ∷ []

abbrev pub listings : List (List ℕ × List ℕ)
listings = (two_registers, one_frame) ∷ (sixteen_registers, long_frame) ∷ (h ++ 0x0A ∷ [], no_frame) ∷ ([], bad_start) ∷ []

pub listings_hold : Each (λ r. text (listed r.0) ≡ r.1) listings
unfolding read opening listed line_of ended decimal
listings_hold = (refl, (refl, (refl, (refl, tt))))
