-- The divide of a subwatershed: its cells beside what lies outside it.
-- Assumes nothing.
use Rattle.std.specs.Prelude.{Bool, true, false, not, ◌||◌, List, [], ◌∷◌, ℕ}
use Rattle.std.proofs.Math.Option.{Option, none, some}
use Rattle.ground.specs.Compass.{Dir, dirs}
use Rattle.ground.specs.Grid.{Grid, ground, neighbour}
use Rattle.ground.specs.Subwatershed.{in_subwatershed}

module _ (g : Grid) (outlets : List ℕ) (o : ℕ) where
  -- 02, U7: a neighbour off the grid, null, or outside the subwatershed of o. An upper outlet and its cells are outside
  abbrev pub is_beyond : Option ℕ → Bool
  is_beyond none = true
  is_beyond (some y) = not (ground g y) || not (in_subwatershed g outlets o y)

  -- in one of these directions
  abbrev pub beyond_in : ℕ → List Dir → Bool
  beyond_in c [] = false
  beyond_in c (d ∷ ds) = is_beyond (neighbour g c d) || beyond_in c ds

  -- 02, U7: a cell of the subwatershed is on the divide if it has such a one among its eight neighbours
  unfoldable pub on_divide : ℕ → Bool
  on_divide c = beyond_in c dirs
