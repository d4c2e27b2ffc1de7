-- The part that the place names is handed back.
use Rattle.std.proofs.Common.{◌≡◌, sym, ap, ◌∙◌, Ok}
use Rattle.fields.specs.Given.{bytes-given}
use Rattle.gdb_pair.specs.Pair.{pair_place, pair_place_meaning}
use Rattle.gdb_pair.specs.PairLaws.{handed_first, handed_second}
use Rattle.gdb_pair.specs.declared.PairPlace.TheVariants.{First, Second}
use Rattle.gdb_pair.proofs.pair_frame.Goals as goal

pub returns-in-Ok-First : goal.returns-in-Ok-First
returns-in-Ok-First c =
    let p = c.in-Ok-First.part in
    let h : pair_place_meaning (Ok (First p)) ≡ pair_place c.args.settings c.args.first.now c.args.second.now c.args.n =
    ap (λ x. pair_place_meaning (Ok x)) (sym c.in-Ok-First.field-0-is) ∙ c.in-Ok-First.ensures in
    handed_first c.args.settings c.args.first.now c.args.second.now c.bytes.result.now c.args.n (p.place, p.length)
    (bytes-given c.args.first.now c.type_inv.first)
    (bytes-given c.args.second.now c.type_inv.second)
    h c.bytes.ensures

pub returns-in-Ok-Second : goal.returns-in-Ok-Second
returns-in-Ok-Second c =
    let p = c.in-Ok-Second.part in
    let h : pair_place_meaning (Ok (Second p)) ≡ pair_place c.args.settings c.args.first.now c.args.second.now c.args.n =
    ap (λ x. pair_place_meaning (Ok x)) (sym c.in-Ok-Second.field-0-is) ∙ c.in-Ok-Second.ensures in
    handed_second c.args.settings c.args.first.now c.args.second.now c.bytes-in-Ok-Second.result.now c.args.n (p.place, p.length)
    (bytes-given c.args.first.now c.type_inv.first)
    (bytes-given c.args.second.now c.type_inv.second)
    h c.bytes-in-Ok-Second.ensures
