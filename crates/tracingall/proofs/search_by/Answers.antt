-- `tracingall::search_by` meets its contract.
-- Assumes nothing.
use native.Mathlib.Omega.{arith}
use Rattle.noting.proofs.Readying.{few, restored}
use Rattle.tracingall.proofs.Noted.{all_places, all_searchable, searched_by}
use Rattle.tracingall.proofs.search_by.Goals as goal

pub make_ready-requires : goal.make_ready-requires
make_ready-requires c =
    record { fresh = c.requires.fresh; places = all_places c.requires.traceable }

pub search_all-traced-requires : goal.search_all-traced-requires
search_all-traced-requires c =
    record { searchable = all_searchable c.requires.traceable c.make_ready.ensures; end_value = c.requires.end_value }

pub overflow_mul-grid : goal.overflow_mul-grid
overflow_mul-grid c =
    omega (arith, few c.requires.fresh)

pub returns : goal.returns
returns c =
    let r = c.make_ready.ensures in record { searches_all = searched_by c.requires.traceable r c.search_all-traced.ensures; subaccumulation_unchanged = restored c.requires.fresh r c.make_plain.ensures }
