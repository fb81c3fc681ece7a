-- What filling asks of its callers, in the source's own values.
-- Assumes nothing.
use Rattle.std.specs.Prelude.{List, ℕ}
use Rattle.moves.specs.declared.grid.Grid.{Grid}
use Rattle.downstream.specs.declared.NumberedCell.{NumberedCell}
use Rattle.filling.specs.Filling as filling

abbrev pub Fillable : Grid → List ℕ → List ℕ → Type 0
Fillable g = filling.Fillable g.rows g.cols g.codes.now

abbrev pub FillableAt : Grid → List ℕ → List ℕ → List ℕ → NumberedCell → Type 0
FillableAt g outlets steps words here =
    filling.FillableAt g.rows g.cols g.codes.now outlets steps words here.cell.row here.cell.col here.at
