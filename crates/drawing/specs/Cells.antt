-- The first cells of a walk that stays at its end, as the code's walk does.
-- Assumes nothing.
use Rattle.std.specs.Prelude.{List, map, ℕ, zero, suc, ◌≤◌, ◌<◌}
use Rattle.lists.specs.Lists.{up_to}
use Rattle.ground.specs.Grid.{Grid, cell_count}
use Rattle.moves.specs.Lent.{LentGrid}
use Rattle.flowpath.specs.Cells.{cell_on}

module _ (g : Grid) where
  -- the cell after k steps
  unfoldable pub cell_after : ℕ → ℕ → ℕ
  cell_after start zero = start
  cell_after start (suc k) = cell_on g (cell_after start k)

  -- the first n cells
  unfoldable pub first_cells : ℕ → ℕ → List ℕ
  first_cells start n = map (cell_after start) (up_to n)

-- there is room for so many cells of the walk from a cell of the grid
pub record Drawable (g : Grid) (start count room : ℕ) : Type 0 where
  pub grid : LentGrid g.rows g.cols g.codes
  pub some_cols : 0 < g.cols
  pub start_in : start < cell_count g
  pub few : count ≤ cell_count g
  pub has_room : count ≤ room
