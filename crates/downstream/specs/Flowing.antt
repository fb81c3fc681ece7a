-- What the source is given and finds: a cell by its row, column and number, and the cell that it flows to.
-- Assumes nothing.
use Rattle.std.specs.Prelude.{◌≡◌, List, ℕ, ◌+◌, ◌*◌, ◌<◌, Option, Some, None}
use Rattle.std.proofs.Math.Option.{none}
use Rattle.downstream.specs.declared.NumberedCell.{NumberedCell}
use Rattle.ground.specs.Grid.{Grid, next}
use Rattle.moves.specs.Lent.{OnCell}
use Rattle.moves.specs.Walks.{Flows}
use Rattle.downstream.specs.Offsets.{offsets_of}

-- a cell of a lent grid with its number, and the offsets of the grid's steps
pub record Numbered (rows cols : ℕ) (codes offsets : List ℕ) (row col at : ℕ) : Type 0 where
  pub on : OnCell rows cols codes row col
  pub is_at : at ≡ row * cols + col
  pub are_offsets : offsets ≡ offsets_of cols

-- the cell that a cell flows to, or none where its walk ends
pub record FlowsOn (g : Grid) (x : ℕ) (r : Option NumberedCell) : Type 0 where
  pub ends_here : r ≡ None → next g x ≡ none
  pub goes_on : (cell : NumberedCell) → r ≡ Some cell → Flows g x cell.at
  pub is_at : (cell : NumberedCell) → r ≡ Some cell → cell.at ≡ cell.cell.row * g.cols + cell.cell.col
  pub row_in : (cell : NumberedCell) → r ≡ Some cell → cell.cell.row < g.rows
  pub col_in : (cell : NumberedCell) → r ≡ Some cell → cell.cell.col < g.cols
