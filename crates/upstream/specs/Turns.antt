-- What the functions of this crate ask and promise.
-- Assumes nothing.
use Rattle.std.specs.Prelude.{◌≡◌, Bool, true, List, ℕ, ◌+◌, ◌*◌, ◌<◌, Option, Some}
use Rattle.cells.specs.declared.Cell.{Cell}
use Rattle.ground.specs.Grid.{grid_of}
use Rattle.moves.specs.Moves.{spot_cell, dir_at}
use Rattle.inflows.specs.Values.{Inner}
use Rattle.search.specs.Neighbours.{inflow_in}

-- what is said to be an inner cell is one
abbrev pub SaidInner : Bool → ℕ → ℕ → ℕ → ℕ → Type 0
SaidInner said rows cols row col = said ≡ true → Inner rows cols row col

-- what is found is what the search turns to in direction k, and on the grid
pub record TurnsTo (rows cols : ℕ) (codes outlets : List ℕ) (row col k : ℕ) (r : Option Cell) : Type 0 where
  pub is_cell : spot_cell cols r ≡ inflow_in (grid_of rows cols codes) outlets (row * cols + col) (dir_at k)
  pub row_in : (cell : Cell) → r ≡ Some cell → cell.row < rows
  pub col_in : (cell : Cell) → r ≡ Some cell → cell.col < cols
