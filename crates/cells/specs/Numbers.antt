-- The number of a cell.
-- Assumes nothing.
use Rattle.std.specs.Prelude.{◌≡◌, List, ℕ, ◌+◌, ◌*◌, ◌≤◌, ◌<◌, length, get_or}

-- 01, The ground: row and column of the cell with a number, of a grid with so many columns
pub record RowAndColumn (cols number row col : ℕ) : Type 0 where
  pub is_number : row * cols + col ≡ number
  pub col_in : col < cols

-- ---- a table: a list of rows and one of columns, those of a cell at the place of its number

-- a grid of sides that 01 allows, and lists with a place for each of its cells
pub record TableFits (rows cols : ℕ) (rows_of cols-of : List ℕ) : Type 0 where
  pub few_rows : rows ≤ 4096
  pub some_cols : 0 < cols
  pub few_cols : cols ≤ 4096
  pub has_rows : rows * cols ≤ length rows_of
  pub has_cols : rows * cols ≤ length cols-of

-- the cell with a number stands in the table
abbrev pub InTable : ℕ → List ℕ → List ℕ → ℕ → Type 0
InTable cols rows_of cols-of number = RowAndColumn cols number (get_or rows_of number 0) (get_or cols-of number 0)

-- and so do the first n
abbrev pub CellTable : ℕ → ℕ → List ℕ → List ℕ → Type 0
CellTable cols n rows_of cols-of = (number : ℕ) → number < n → InTable cols rows_of cols-of number
