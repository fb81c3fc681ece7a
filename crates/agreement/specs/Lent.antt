-- What check 14 asks of its callers.
-- Assumes nothing.
use Rattle.std.specs.Prelude.{List, ℕ, ◌+◌, ◌*◌, ◌≤◌, ◌<◌, length}
use Rattle.moves.specs.Lent.{LentGrid}

-- a grid with a column, whose codes and accumulation are lent
pub record Lent (rows cols : ℕ) (codes accumulation : List ℕ) : Type 0 where
  pub grid : LentGrid rows cols codes
  pub some_cols : 0 < cols
  pub has_accumulation : rows * cols ≤ length accumulation

-- a row of it
pub record LentRow (rows cols : ℕ) (codes accumulation : List ℕ) (row : ℕ) : Type 0 where
  pub lent : Lent rows cols codes accumulation
  pub row_in : row < rows

-- a row of it that is neither the first nor the last
pub record InnerRow (rows cols : ℕ) (codes accumulation : List ℕ) (row : ℕ) : Type 0 where
  pub has : LentRow rows cols codes accumulation row
  pub has_above : 1 ≤ row
  pub has_below : row + 1 < rows
