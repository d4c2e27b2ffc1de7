-- What the steps of the opening answer in each case that the code tells apart.
-- Assumes nothing.
use Rattle.std.specs.Prelude.{◌≡◌, refl, true, false, ℕ, zero, suc, List, drop, get_or, Ok}
use Rattle.std.specs.Result.{IsErr}
use Rattle.std.proofs.Common.{◌∙◌, arith}
use Rattle.refusals.specs.Refusal.{field_past_file, bad_constant}
use Rattle.fields.specs.Number.{Bytes, word_at}
use Rattle.fields.specs.Answer.{Answer, accepted, refused}
use Rattle.fields.specs.Reader.{bytes, num, seen_at, pass_at}
use Rattle.fields.specs.At.{byte_at, place_of}
use Rattle.fields.specs.Orders.{order_numbered}
use Rattle.fields.specs.declared.Order.{Order}
use Rattle.fields.specs.declared.Order.TheVariants.{Little}
use Rattle.dat_format.specs.Pieces.{fixed}
use Rattle.dat_format.specs.Header.{magic, tracing, version}
use Rattle.dat_format.specs.Tests.{is_long, is_page}
use Rattle.dat_format.specs.Decode.{order_in, sizes, flags, opening}
use Rattle.dat_format.specs.ExactPieces.{exact_fixed}
use Rattle.dat_read.specs.Summary.{flags_seen}
use Rattle.dat_read.specs.Read.{Fixed, stopped, gone_on, bytes_there, number_read}
use Rattle.dat_read.specs.declared.summary.Flags.{Flags}

-- ---- a byte that was there

abbrev One_at : List ℕ → ℕ → Answer (Unit {0} × ℕ) → Type 0
One_at s at x = x ≡ pass_at (bytes 1 field_past_file) s at

byte_read : (s : List ℕ) (at : ℕ) {m : ℕ} → One_at s at (accepted (tt, m)) → num Little 1 field_past_file (drop at s) ≡ accepted (get_or s at 0, drop m s)
byte_read s at e =
    let q = bytes_there 1 field_past_file s at e (omega arith) in
    rw (byte_at s at field_past_file (omega (arith, q.0)), q.1)

-- ---- long size and page size

module _ (s : List ℕ) (o : Order) (at : ℕ) where
  abbrev Sizes : Answer (Flags × ℕ) → Type 0
  Sizes x = x ≡ seen_at flags_seen (sizes o) s at

  pub no_long : {n : ℕ} → One_at s at (refused n) → Sizes (refused n)
  unfolding sizes
  no_long e = rw (stopped (bytes 1 field_past_file) s at e)

  module _ {a : ℕ} (ea : One_at s at (accepted (tt, a))) where
    pub bad_long : is_long (get_or s at 0) ≡ false → Sizes (refused bad_constant)
    unfolding sizes
    bad_long e = rw (byte_read s at ea, e)

    module _ (e : is_long (get_or s at 0) ≡ true) where
      pub no_page : {n : ℕ} → refused n ≡ pass_at (bytes 4 field_past_file) s a → Sizes (refused n)
      unfolding sizes
      no_page f = rw (byte_read s at ea, e, stopped (bytes 4 field_past_file) s a f)

      module _ {b : ℕ} (eb : accepted (tt, b) ≡ pass_at (bytes 4 field_past_file) s a) {p : ℕ} (ep : p ≡ word_at o 4 s a) where
        page_read : num o 4 field_past_file (drop a s) ≡ accepted (p, drop b s)
        page_read = number_read o 4 field_past_file s a (omega arith) eb ep

        pub bad_page : is_page p ≡ false → Sizes (refused bad_constant)
        unfolding sizes
        bad_page f = rw (byte_read s at ea, e, page_read, f)

        pub sizes_read : is_page p ≡ true → Sizes (accepted (record { order = o; long = get_or s at 0; page = p }, b))
        unfolding sizes
        sizes_read f =
            let q = bytes_there 4 field_past_file s a eb (omega arith) in
            rw (byte_read s at ea, e, page_read, f, place_of s b (omega (arith, q.0, q.1)))

-- ---- the byte order before them

order_read : (n : ℕ) (b : List ℕ) {o : Order} → order_numbered n ≡ Ok o → order_in n b ≡ accepted (o, b)
order_read zero b e = cc
order_read (suc zero) b e = cc
order_read (suc (suc n)) b e = cc

order_not : (n : ℕ) (b : List ℕ) → IsErr (order_numbered n) → order_in n b ≡ refused bad_constant
order_not zero b e = cc
order_not (suc zero) b e = cc
order_not (suc (suc n)) b e = refl

module _ (s : List ℕ) (at : ℕ) where
  abbrev FlagsAre : Answer (Flags × ℕ) → Type 0
  FlagsAre x = x ≡ seen_at flags_seen flags s at

  pub no_order : {n : ℕ} → One_at s at (refused n) → FlagsAre (refused n)
  unfolding flags
  no_order e = rw (stopped (bytes 1 field_past_file) s at e)

  module _ {a : ℕ} (ea : One_at s at (accepted (tt, a))) where
    pub bad_order : IsErr (order_numbered (get_or s at 0)) → FlagsAre (refused bad_constant)
    unfolding flags
    bad_order e = rw (byte_read s at ea, order_not (get_or s at 0) (drop a s) e)

    pub with_order : {o : Order} → order_numbered (get_or s at 0) ≡ Ok o → {x : Answer (Flags × ℕ)} → x ≡ seen_at flags_seen (sizes o) s a → FlagsAre x
    unfolding flags
    with_order e k = k ∙ rw (byte_read s at ea, order_read (get_or s at 0) (drop a s) e)

-- ---- the three strings before these

module _ (s : List ℕ) (given : Bytes s) where
  abbrev Opens : Answer (Flags × ℕ) → Type 0
  Opens x = x ≡ seen_at flags_seen opening s 0

  pub bad_magic : {n : ℕ} → refused n ≡ pass_at (fixed magic) s 0 → Opens (refused n)
  unfolding opening
  bad_magic e = rw (stopped (fixed magic) s 0 e)

  module _ {a : ℕ} (ea : accepted (tt, a) ≡ pass_at (fixed magic) s 0) where
    first : Fixed magic s 0 a
    first = gone_on (exact_fixed magic) given (omega arith) ea

    pub bad_tracing : {n : ℕ} → refused n ≡ pass_at (fixed tracing) s a → Opens (refused n)
    unfolding opening
    bad_tracing e = rw (first.reads, stopped (fixed tracing) s a e)

    module _ {b : ℕ} (eb : accepted (tt, b) ≡ pass_at (fixed tracing) s a) where
      second : Fixed tracing s a b
      second = gone_on (exact_fixed tracing) given first.inside eb

      pub bad_version : {n : ℕ} → refused n ≡ pass_at (fixed version) s b → Opens (refused n)
      unfolding opening
      bad_version e = rw (first.reads, second.reads, stopped (fixed version) s b e)

      module _ {c : ℕ} (ec : accepted (tt, c) ≡ pass_at (fixed version) s b) where
        third : Fixed version s b c
        third = gone_on (exact_fixed version) given second.inside ec

        pub opening_read : {x : Answer (Flags × ℕ)} → x ≡ seen_at flags_seen flags s c → Opens x
        unfolding opening
        opening_read e = e ∙ rw (first.reads, second.reads, third.reads)
