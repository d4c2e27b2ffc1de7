-- What the iterator finds of the stated ranges is what the definition finds.
use Rattle.std.proofs.Common.{rules, tests, ◌≡◌, ◌∙◌, refl, ap, leb, ◌&&◌, List, [], ◌∷◌, map, take, le-leb}
use Rattle.std.specs.List.{list_all}
use Rattle.std.proofs.lemmas.Iterator.{YieldsList-from_slice, YieldsList-from_take}
use Rattle.std.proofs.lemmas.Iterator.Search.{all_from_yields_List}
use Rattle.gdb_select.specs.declared.Range.{Range}
use Rattle.gdb_select.specs.Selection.{in_order, range_of}
use Rattle.gdb_select.proofs.is_valid.Goals as goal

all_ordered : (rs : List Range) → list_all (λ r. leb r.low r.high) rs ≡ in_order (map range_of rs)
all_ordered [] = refl
all_ordered (r ∷ rs) = ap (λ b. leb r.low r.high && b) (all_ordered rs)

pub returns-then-selection-most : goal.returns-then-selection-most
returns-then-selection-most c =
    let s = c.args.selection in
    let all = all_from_yields_List (λ r. leb r.low r.high) _ _ c.all.result c.all.ensures.ran
    (YieldsList-from_take s.count (YieldsList-from_slice s.ranges cc) (cc)) (λ x b q k. search (rules, tests)) in
    rw (le-leb s.count 8 c.if-selection-most.true) (all ∙ all_ordered (take s.count s.ranges))
