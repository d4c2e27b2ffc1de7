-- One more read goes on where the last one ended.
use Rattle.std.proofs.Common.{◌≡◌, ℕ, ◌+◌, ◌-◌, ◌≤◌, List, ◌++◌, rules, length, take, subst, sym, ap, ◌∙◌, length-take-le}
use Rattle.std.specs.Io.KnownBytes.{Consumes}
use Rattle.std.proofs.KnownBytes.{Consumes-trans}
use borrow.Rule.Slice.PartMut.{put_mid, post_of}
use Rattle.std.proofs.lemmas.List.{take-append-le}
use Rattle.std.proofs.Math.Seq.{take-append-add}
use Rattle.input.proofs.read_full.Goals as goal

taken : (at k n : ℕ) (xs ys : List ℕ) → at ≤ length xs → n ≤ length ys → take at xs ++ take n ys ≡ take (at + n) (put_mid at k xs ys)
taken at k n xs ys within fits =
    let rest = ys ++ post_of at k xs in
    sym (
    ap (λ m. take (m + n) (take at xs ++ rest)) (sym (length-take-le at xs within))
    ∙ take-append-add (take at xs) rest n ∙ ap (λ l. take at xs ++ l) (take-append-le n ys (post_of at k xs) fits)
    )

pub loop-filled-preserved : goal.loop-filled-preserved
loop-filled-preserved g c =
    let from = c.loop-filled.filled in
    let room = c.loop-filled.room in
    let joined = taken from (length room - from) c.in_ok-n.n room c.read.new.buf c.loop-filled.invariant.within c.in_ok-n.ensures.bound.0 in
    record {
      within = search rules;
      bytes = subst (Consumes _ _) joined (Consumes-trans _ _ _ _ _ c.loop-filled.invariant.bytes c.in_ok-n.ensures.bytes.0);
    }
