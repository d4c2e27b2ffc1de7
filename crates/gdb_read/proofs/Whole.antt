-- A whole file's reading from its parts' answers.
-- Assumes nothing.
use mathlib.Core.Path.{◌≡◌, refl, sym, ap, ◌∙◌}
use mathlib.Core.Bool.{Bool}
use mathlib.Core.Option.{Option}
use Prim.Native.Nat.{ℕ, ◌+◌, ◌-◌, ◌<◌, ◌≤◌}
use native.Mathlib.Omega.{arith}
use mathlib.Core.List.{List, ◌++◌}
use lib.ListN.{length, drop}
use lib.Seq.{drop_at}
use borrow.Author.Tests.{le-leb, lt-leb}
use Rattle.refusals.specs.Refusal.{limit, too_long}
use Rattle.fields.specs.Number.{Bytes}
use Rattle.fields.specs.Answer.{Answer, accepted, refused, next, refused_inv, next_inv, accepted_inj}
use Rattle.gdb_format.specs.Settings.{settings_of}
use Rattle.gdb_format.specs.Trace.{Trace, trace_of, put_mark, opening}
use Rattle.gdb_format.specs.Lines.{register_size}
use Rattle.gdb_format.specs.Decode.{opening_lines, frames, trace, decode, read}
use Rattle.gdb_format.specs.ExactLines.{exact_opening}
use Rattle.gdb_format.specs.Exactness.{exactness}
use Rattle.gdb_format.specs.Opening.{opening_seen}
use Rattle.gdb_format.specs.declared.Settings.{Settings}
use Rattle.gdb_format.specs.declared.Format.{Format}
use Rattle.gdb_read.specs.Steps.{frames_counted, frames_end, length-encode, Summary, summary_of, summary_in, read_seen}

pub too_long_lem : (f : Format) (s : List ℕ) → limit < length s → refused too_long ≡ summary_in f (decode f s)
unfolding decode
too_long_lem f s h = rw (lt-leb (length s) limit h)

summary-is : (f : Format) (t : Trace) {size : Option ℕ} {start end k : ℕ} {m : Bool}
    → register_size f t.lines ≡ size → length (opening t.lines) ≡ start → frames_end f t ≡ end → length t.frames ≡ k → t.marked ≡ m
    → ◌≡◌ {A = Answer Summary} (accepted (record { format = f; size = size; start = start; end = end; frames = k; marked = m })) (accepted (summary_of f t))
summary-is f t a b c d e = rw (← a, ← b, ← c, ← d, ← e)

-- a file whose k frames start at `start`, with the mark behind them or not
pub record Whole (f : Format) (s : List ℕ) (size : Option ℕ) (start k : ℕ) (m : Bool) : Type 0 where
  pub within : length (put_mark m) ≤ length s
  pub read : accepted (record { format = f; size = size; start = start; end = length s - length (put_mark m); frames = k; marked = m })
      ≡ summary_in f (decode f s)

module _ (f : Format) (s : List ℕ) (short : length s ≤ limit) where
  decode-short : decode f s ≡ trace f s
  unfolding decode
  decode-short = rw (le-leb (length s) limit short)

  pub bad-opening : (n : ℕ) → refused n ≡ opening_seen f s → refused n ≡ summary_in f (decode f s)
  unfolding trace
  bad-opening n e = rw (decode-short, refused_inv n (opening_lines f s) (λ r. (length (opening r.0), register_size f r.0)) e)

  module _ (b : Bytes s) (end : ℕ) (size : Option ℕ) (e : accepted (end, size) ≡ opening_seen f s) where
    -- the lines, and that the frames stand from `end` on
    found : (ls : List (List ℕ)) × (length (opening ls) ≡ end) × (register_size f ls ≡ size) × (opening_lines f s ≡ accepted (ls, drop end s))
    found =
        let q = next_inv (opening_lines f s) (λ r. accepted (length (opening r.0), register_size f r.0)) (sym e) in
        let ls = q.0.0 in
        let i = accepted_inj q.2 in
        let w : opening ls ++ q.0.1 ≡ s = ((exact_opening f).forth s ls q.0.1 b q.1).1 in
        (ls, i.0, i.1, q.1 ∙ ap (λ r. accepted (ls, r)) (sym (ap (drop end) (sym w) ∙ drop_at (opening ls) q.0.1 end i.0)))

    frames-at : trace f s ≡ next (frames f size (drop end s)) (λ q. accepted (trace_of found.0 q.0 q.1))
    unfolding trace
    frames-at = rw (found.3, found.2)

    pub bad-frames : (n : ℕ) → refused n ≡ frames_counted f size (drop end s) → refused n ≡ summary_in f (decode f s)
    bad-frames n c = rw (decode-short, frames-at, refused_inv n (frames f size (drop end s)) (λ q. (length q.0, q.1)) c)

    module _ (k : ℕ) (m : Bool) (c : accepted (k, m) ≡ frames_counted f size (drop end s)) where
      -- the trace that the file holds
      held : (t : Trace) × (decode f s ≡ accepted t) × (t.lines ≡ found.0) × (length t.frames ≡ k) × (t.marked ≡ m)
      held =
          let q = next_inv (frames f size (drop end s)) (λ q. accepted (length q.0, q.1)) (sym c) in
          let i = accepted_inj q.2 in (
            trace_of found.0 q.0.0 q.0.1,
            decode-short ∙ frames-at ∙ ap (λ x. next x (λ q. accepted (trace_of found.0 q.0 q.1))) q.1,
            refl,
            i.0,
            i.1,
          )

      -- behind the frames stands the mark, if any
      ends_at : frames_end f held.0 + length (put_mark m) ≡ length s
      ends_at =
          let t = held.0 in
          let i : frames_end f t + length (put_mark t.marked) ≡ length s = sym (length-encode f t) ∙ ap length ((exactness f s t b).0 held.1).1 in
          rw held.4 at i

      pub all_read : Whole f s size end k m
      all_read =
          let t = held.0 in
          record {
            within = omega (arith, ends_at);
            read =
                summary-is f t (ap (register_size f) held.2 ∙ found.2) (ap (λ ls. length (opening ls)) held.2 ∙ found.1)
                (omega (arith, ends_at)) held.3 held.4
                ∙ ap (summary_in f) (sym held.1);
          }

-- ---- under the caller's settings

pub no-format : (s : Settings) (b : List ℕ) (n : ℕ) → refused n ≡ settings_of s → refused n ≡ read_seen (read s b)
unfolding read
no-format s b n e = rw (← e)

in_format_of : (f : Format) (x : Answer Trace) → summary_in f x ≡ read_seen (next x (λ t. accepted (f, t)))
in_format_of f (accepted t) = refl
in_format_of f (refused n) = refl

pub in_format : (s : Settings) (b : List ℕ) (f : Format) → accepted f ≡ settings_of s → summary_in f (decode f b) ≡ read_seen (read s b)
unfolding read
in_format s b f e = rw (← e) (in_format_of f (decode f b))
