-- A table of cells, one more at a time.
-- Assumes nothing.
use mathlib.Core.List.{List}
use Prim.Native.Nat.{ℕ, ◌+◌, ◌*◌, ◌<◌}
use native.Mathlib.Omega.{arith}
use lib.ListN.{length, set}
use lib.Seq.{get_or-set_same, get_or-set_other}
use borrow.Author.Count.{below_more}
use Rattle.cells.specs.Numbers.{RowAndColumn, InTable, CellTable}

-- the cell that is reached is stored in front
pub table_more : {cols k row col : ℕ} (rows_of cols-of : List ℕ) → k < length rows_of → k < length cols-of
    → RowAndColumn cols k row col → CellTable cols k rows_of cols-of
    → CellTable cols (k + 1) (set rows_of k row) (set cols-of k col)
table_more {cols} {k} {row} {col} rows_of cols-of in_rows in-cols cell before =
    below_more (InTable cols (set rows_of k row) (set cols-of k col)) k
    (λ j h. rw (
      get_or-set_other rows_of k j row 0 (λ q. omega arith),
      get_or-set_other cols-of k j col 0 (λ q. omega arith),
    ) (before j h))
    (rw (get_or-set_same rows_of k row 0 in_rows, get_or-set_same cols-of k col 0 in-cols) cell)

-- the step to the next cell is one to the next number
pub next_number : {cols k row col row' col' : ℕ} → RowAndColumn cols k row col
    → RowAndColumn cols (row * cols + col + 1) row' col' → RowAndColumn cols (k + 1) row' col'
next_number cell next = rw cell.is_number at next
