-- A test that can be made: its page size fits, and ranges that pass lie on units.
-- Assumes nothing.
use Rattle.std.proofs.Common.{◌≡◌, true, leb, leb-true, List}
use Rattle.refusals.specs.Refusal.{limit}
use Rattle.fields.specs.Lists.{Each, each_map}
use Rattle.fields.specs.Word.{and_inv}
use Rattle.dat_format.specs.Header.{Range}
use Rattle.dat_format.specs.Layout.{PageFits}
use Rattle.dat_format.specs.Tests.{is_page, all}
use Rattle.dat_format.specs.Pages.{page_fits}
use Rattle.dat_format.specs.RangeLaws.{all-in_file}
use Rattle.dat_format.specs.Units.{OnUnits, on_units}
use Rattle.dat_ranges.specs.Ranges.{test_meaning, possible}
use Rattle.dat_ranges.specs.declared.Test.{Test}

module _ (t : Test) (e : possible t ≡ true) where
  both : (leb t.total limit ≡ true) × (is_page t.page ≡ true)
  both = and_inv (leb t.total limit) (is_page t.page) e

  pub possible_page : PageFits t.page
  possible_page = (page_fits t.page).0 both.1

  pub pass_units : (rs : List Range) → all (test_meaning t) rs ≡ true → Each OnUnits rs
  pass_units rs p =
      let short = leb-true t.total limit both.0 in
      each_map (on_units t.page t.end t.total possible_page short) rs ((all-in_file t.page t.end t.total rs).0 p)
