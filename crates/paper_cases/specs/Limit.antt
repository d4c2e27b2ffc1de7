-- Both sides of the length limit, with the end mark and without, tried on the definitions: no array of a program holds such files.
-- Assumes nothing.
use Rattle.std.specs.Prelude.{◌≡◌, Bool, true, ◌||◌, ℕ, zero, suc, ◌+◌, ◌<◌, ◌≤◌, [], ◌∷◌, length, replicate}
use Rattle.std.proofs.Math.Path.{refl}
use Rattle.std.proofs.Math.Bool.{false}
use Rattle.std.proofs.Common.{arith, length-append}
use Rattle.std.proofs.lemmas.List.{length-replicate}
use borrow.Author.Tests.{lt-leb}
use Rattle.refusals.specs.Refusal.{limit, too_long, openings_differ}
use Rattle.fields.specs.Lists.{concat_map, clash}
use Rattle.fields.specs.Number.{length-field}
use Rattle.fields.specs.Answer.{accepted, refused}
use Rattle.gdb_format.specs.Trace.{Trace, trace_of, put_frame, put_mark, opening, encode}
use Rattle.gdb_format.specs.Layout.{NoEnd}
use Rattle.gdb_format.specs.Settings.{settings_of}
use Rattle.gdb_format.specs.Decode.{decode, read}
use Rattle.gdb_format.specs.declared.Settings.{Settings}
use Rattle.gdb_format.specs.declared.Format.{Format}
use Rattle.gdb_join.specs.Join.{join, join_of}
use Rattle.gdb_read.specs.Steps.{length-encode}
use Rattle.gdb_frames.specs.File.{File, read-file}
use Rattle.gdb_join.specs.JoinTraces.{join_call}
use Rattle.fields.specs.Word.{bytes_same}

-- a line `xxx..` of k + 1 bytes, one frame of size 0, and the mark or none
abbrev long : Bool → ℕ → Trace
long m k = trace_of ((0x78 ∷ replicate k 0x78) ∷ []) (record { tracepoint = 1; blocks = [] } ∷ []) m

-- no line, and the same frame
abbrev one : Trace
one = trace_of [] (record { tracepoint = 1; blocks = [] } ∷ []) false

no_end : (k : ℕ) → NoEnd (replicate k 0x78)
no_end zero = tt
no_end (suc k) = ((λ e. absurd (omega arith)), no_end k)

-- the bytes of a mark, and of the mark of a join
abbrev pub mark_bytes : Bool → ℕ
mark_bytes m = length (put_mark m)

marks : (m n : Bool) → (mark_bytes m ≤ mark_bytes (m || n)) × (mark_bytes n ≤ mark_bytes (m || n)) × (mark_bytes (m || n) ≤ 4)
marks true true = (omega arith, omega arith, omega arith)
marks true false = (omega arith, omega arith, omega arith)
marks false true = (omega arith, omega arith, omega arith)
marks false false = (omega arith, omega arith, omega arith)

module _ (s : Settings) (f : Format) (ok : settings_of s ≡ accepted f) (k : ℕ) where
  opening-long : length (opening (long true k).lines) ≡ k + 11
  unfolding opening
  opening-long = simp (length-append, length-replicate) (omega arith)

  frame-long : length (concat_map (put_frame f) (long true k).frames) ≡ 6
  frame-long = simp (length-append, length-field) refl

  frames-long : length (concat_map (put_frame f) (join (long true k) (long true k)).frames) ≡ 12
  frames-long = simp (length-append, length-field) refl

  module _ (m : Bool) where
    file-length : length (encode f (long m k)) ≡ k + 17 + mark_bytes m
    file-length = omega (arith, length-encode f (long m k), opening-long, frame-long)

    file-long : k + 17 + mark_bytes m ≤ limit → File f (encode f (long m k)) (long m k)
    file-long h =
        record {
          fits = record {
            lines_fit = (((omega arith, ((λ e. absurd (omega arith)), no_end k), λ e. clash (cc)), tt), omega arith, omega arith);
            frames_fit = ((omega arith, omega arith, tt, omega arith, omega arith), tt);
            length-fits = omega (arith, h, file-length);
          };
          laid_out = refl;
        }

    -- a file of 67,108,864 bytes is read, one of a byte more is refused with 1
    pub longest_file : k + 17 + mark_bytes m ≡ 67108864 → read s (encode f (long m k)) ≡ accepted (f, long m k)
    longest_file h = read-file s f (encode f (long m k)) (long m k) ok (file-long (omega (arith, h)))

    pub file-too_long : k + 17 + mark_bytes m ≡ 67108865 → read s (encode f (long m k)) ≡ refused too_long
    unfolding read decode
    file-too_long h = rw (ok, lt-leb (length (encode f (long m k))) limit (omega (arith, h, file-length)))

  -- the same for a join's result, in which the mark counts once: where there is one, it alone takes the join of one byte more over the limit
  module _ (m n : Bool) where
    join-length : length (encode f (join (long m k) (long n k))) ≡ k + 23 + mark_bytes (m || n)
    join-length = omega (arith, length-encode f (join (long m k) (long n k)), opening-long, frames-long)

    pub longest_join : k + 23 + mark_bytes (m || n) ≡ 67108864
        → join_of s (encode f (long m k)) (encode f (long n k)) ≡ accepted (encode f (join (long m k) (long n k)))
    longest_join h =
        join_call s f ok (encode f (long m k)) (encode f (long n k)) (long m k) (long n k)
        (file-long m (omega (arith, h, marks m n))) (file-long n (omega (arith, h, marks m n))) refl (omega (arith, h, join-length))

    pub join-too_long : k + 23 + mark_bytes (m || n) ≡ 67108865 → join_of s (encode f (long m k)) (encode f (long n k)) ≡ refused too_long
    unfolding join_of
    join-too_long h =
        rw (
          read-file s f (encode f (long m k)) (long m k) ok (file-long m (omega (arith, h, marks m n))),
          read-file s f (encode f (long n k)) (long n k) ok (file-long n (omega (arith, h, marks m n))),
          bytes_same (opening (long m k).lines),
        )
        (rw (lt-leb (length (encode f (join (long m k) (long n k)))) limit (omega (arith, h, join-length))))

  one-long : length (opening one.lines) + length (concat_map (put_frame f) one.frames) ≡ 15
  unfolding opening
  one-long = simp (length-append, length-field) refl

  one-file : File f (encode f one) one
  one-file =
      record {
        fits = record {
          lines_fit = (tt, omega arith, omega arith);
          frames_fit = ((omega arith, omega arith, tt, omega arith, omega arith), tt);
          length-fits = omega (arith, length-encode f one, one-long);
        };
        laid_out = refl;
      }

  -- 13 ahead of 1: the openings of these two differ, and their join would be longer than the limit
  pub differ_before-length : k + 17 ≡ 67108864
      → (join_of s (encode f (long false k)) (encode f one) ≡ refused openings_differ) × (limit < length (encode f (join (long false k) one)))
  unfolding join_of opening
  differ_before-length h = (
    rw (
      read-file s f (encode f (long false k)) (long false k) ok (file-long false (omega (arith, h))),
      read-file s f (encode f one) one ok one-file,
    ),
    omega (arith, h, length-encode f (join (long false k) one), opening-long, frames-long),
  )
