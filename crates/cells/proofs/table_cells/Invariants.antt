-- `cells::table_cells` meets its contract. The invariant: the cell has number k, those before it stand in the table.
-- Assumes nothing.
use Rattle.cells.specs.Numbers.{RowAndColumn, CellTable}
use Rattle.cells.proofs.table_cells.Given as goal

abbrev pub invariant-loop-k : goal.invariant-loop-k
invariant-loop-k l = RowAndColumn l.cols l.k l.cell.row l.cell.col × CellTable l.cols l.k l.rows_of l.cols_of
