-- The first's bytes, the second's behind them, and the mark behind both.
use Rattle.std.proofs.Common.{arith, ◌≤◌, ◌+◌, ◌-◌, ◌++◌, ℕ, List, length, take, drop, length-take, length-drop}
use borrow.Rule.Slice.PartMut.{put_mid}
use Rattle.fields.specs.Copies.{Overwritten, copied-over, over-long, over_more}
use Rattle.byte_runs.specs.Copy.{count_all, written_all}
use Rattle.gdb_join.proofs.write_join.Goals as goal

pub returns : goal.returns
returns c =
    let a : List ℕ = c.args.first.now in
    let b : List ℕ = c.args.second.now in
    let k = c.copy-one in
    let fits : length a ≤ length c.args.out.now = omega (arith, c.requires) in
    let one : Overwritten a c.args.out.now k.result k.new.dst =
    copied-over (count_all a c.args.out.now k.new.dst k.result k.ensures.count fits)
    (written_all a c.args.out.now k.new.dst k.result k.ensures.count fits k.ensures.written) in
    let before : List ℕ = take (length k.new.dst - k.result) (drop k.result k.new.dst) in
    let room : length b ≤ length before =
    simp (length-take, length-drop) (omega (arith, c.requires, one.long, over-long one (omega (arith, one.long, fits)))) in
    let both : Overwritten (a ++ b) c.args.out.now (k.result + c.copy.result) (put_mid k.result (length k.new.dst - k.result) k.new.dst c.copy.new.dst) =
    over_more one (copied-over (count_all b before c.copy.new.dst c.copy.result c.copy.ensures.count room)
    (written_all b before c.copy.new.dst c.copy.result c.copy.ensures.count room c.copy.ensures.written)) in
    over_more both c.put_mark.ensures
