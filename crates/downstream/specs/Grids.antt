-- A cell of a lent grid with its number, as the source has them.
-- Assumes nothing.
use Rattle.std.specs.Prelude.{List, ℕ}
use Rattle.moves.specs.declared.grid.Grid.{Grid}
use Rattle.downstream.specs.declared.NumberedCell.{NumberedCell}
use Rattle.downstream.specs.Flowing as flowing

abbrev pub Numbered : Grid → List ℕ → NumberedCell → Type 0
Numbered g offsets here = flowing.Numbered g.rows g.cols g.codes.now offsets here.cell.row here.cell.col here.at
