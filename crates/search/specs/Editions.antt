-- The editions of the standard: where a path may start, and at which cells the search meets a length.
-- Assumes nothing.
use Rattle.std.specs.Prelude.{Bool, true, cond, ◌||◌, List, ℕ, eqb}
use Rattle.ground.specs.Compass.{Dir}
use Rattle.ground.specs.Grid.{Grid}
use Rattle.ground.specs.Forest.{Which}
use Rattle.ground.specs.Divide.{on_divide}
use Rattle.search.specs.Search.{headwater}

-- 02, U7: there are two, told by their numbers
abbrev pub is_edition : ℕ → Bool
is_edition edition = eqb edition 1 || eqb edition 2

module _ (edition : ℕ) (g : Grid) (outlets : List ℕ) (o : ℕ) where
  -- which cells of the subwatershed of o may start a path: by edition 1 all, by edition 2 those on its divide
  abbrev pub may_start : ℕ → Bool
  may_start c = cond (eqb edition 2) (on_divide g outlets o c) true

  -- at which cells the search meets a length: by edition 1 at headwaters, by edition 2 at divide cells and at no other
  abbrev pub meets_by : Which Dir
  meets_by c above = cond (eqb edition 2) (on_divide g outlets o c) (headwater c above)
