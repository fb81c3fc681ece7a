-- What gathering asks of its callers and leaves, in the source's own values.
-- Assumes nothing.
use Rattle.std.specs.Prelude.{List, ℕ}
use Rattle.cells.specs.declared.Cell.{Cell}
use Rattle.ground.specs.Compass.{Dir}
use Rattle.moves.specs.declared.grid.Grid.{Grid}
use Rattle.gathering.specs.Gathering as gathering

abbrev pub CanFollow : Grid → List ℕ → Cell → ℕ → List ℕ → List ℕ → ℕ → Type 0
CanFollow g outlets cell = gathering.CanFollow g.rows g.cols g.codes.now outlets cell.row cell.col

abbrev pub ListsFrom : Grid → List ℕ → Cell → List Dir → ℕ → List ℕ → List ℕ → ℕ → List ℕ → List ℕ → Type 0
ListsFrom g outlets cell = gathering.ListsFrom g.rows g.cols g.codes.now outlets cell.row cell.col

abbrev pub CanGather : Grid → List ℕ → Cell → List ℕ → List ℕ → Type 0
CanGather g outlets cell = gathering.CanGather g.rows g.cols g.codes.now outlets cell.row cell.col

abbrev pub Gathers : Grid → List ℕ → ℕ → List ℕ → List ℕ → ℕ → List ℕ → List ℕ → Type 0
Gathers g = gathering.Gathers g.rows g.cols g.codes.now
