-- What the code asks of a grid that is lent: its sizes and the codes' room, and of a cell that it is on the grid.
-- Assumes nothing.
use Rattle.std.specs.Prelude.{List, ℕ, ◌*◌, ◌≤◌, ◌<◌, length}

-- the sizes of a grid
pub record Sides (rows cols : ℕ) : Type 0 where
  pub rows_small : rows ≤ 4096
  pub cols_small : cols ≤ 4096

-- a grid whose codes are lent
pub record LentGrid (rows cols : ℕ) (codes : List ℕ) : Type 0 where
  pub sides : Sides rows cols
  pub has_codes : rows * cols ≤ length codes

-- a cell of it
pub record OnCell (rows cols : ℕ) (codes : List ℕ) (row col : ℕ) : Type 0 where
  pub grid : LentGrid rows cols codes
  pub row_in : row < rows
  pub col_in : col < cols
