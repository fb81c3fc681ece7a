-- A cell of a lent grid and what lies beside it, as the source has them.
-- Assumes nothing.
use Rattle.std.specs.Prelude.{List, ℕ}
use Rattle.cells.specs.declared.Cell.{Cell}
use Rattle.moves.specs.declared.grid.Grid.{Grid}
use Rattle.inflows.specs.declared.Beside.{Beside}
use Rattle.inflows.specs.Values as values

abbrev pub HasCell : Grid → List ℕ → Cell → Type 0
HasCell g accumulation cell = values.HasCell g.rows g.cols g.codes.now accumulation cell.row cell.col

abbrev pub InnerOn : Grid → Cell → Type 0
InnerOn g cell = values.InnerOn g.rows g.cols g.codes.now cell.row cell.col

abbrev pub InnerCell : Grid → List ℕ → Cell → Type 0
InnerCell g accumulation cell = values.InnerCell g.rows g.cols g.codes.now accumulation cell.row cell.col

abbrev pub LiesBeside : Grid → Cell → ℕ → Beside → Type 0
LiesBeside g cell = values.LiesBeside g.rows g.cols g.codes.now cell.row cell.col
