-- What the iterator finds in the stated ranges is what the definition finds.
use Rattle.std.proofs.Common.{rules, tests, ◌≡◌, ◌∙◌, refl, ap, leb, ◌&&◌, ◌||◌, ℕ, List, [], ◌∷◌, map, take}
use Rattle.std.specs.List.{list_any}
use Rattle.std.proofs.lemmas.Iterator.{YieldsList-from_slice, YieldsList-from_take}
use Rattle.std.proofs.lemmas.Iterator.Search.{any_from_yields_List}
use Rattle.gdb_select.specs.declared.Range.{Range}
use Rattle.gdb_select.specs.Selection.{in_some, range_of}
use Rattle.gdb_select.proofs.in_some.Goals as goal

some_holds : (n : ℕ) (rs : List Range) → list_any (λ r. leb r.low n && leb n r.high) rs ≡ in_some (map range_of rs) n
some_holds n [] = refl
some_holds n (r ∷ rs) = ap (λ b. (leb r.low n && leb n r.high) || b) (some_holds n rs)

pub returns : goal.returns
returns c =
    let s = c.args.selection in
    any_from_yields_List (λ r. leb r.low c.args.n && leb c.args.n r.high) _ _ c.any.result c.any.ensures.ran
    (YieldsList-from_take s.count (YieldsList-from_slice s.ranges cc) (cc)) (λ x b q k. search (rules, tests))
    ∙ some_holds c.args.n (take s.count s.ranges)
