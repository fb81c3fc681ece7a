-- What an engine takes for granted and what the search turns to, in the source's own values.
-- Assumes nothing.
use Rattle.std.specs.Prelude.{List, ℕ, Option}
use Rattle.cells.specs.declared.Cell.{Cell}
use Rattle.ground.specs.Compass.{Dir}
use Rattle.ground.specs.Forest.{Which}
use Rattle.moves.specs.declared.grid.Grid.{Grid}
use Rattle.upstream.specs.declared.filled.FilledGrid.{FilledGrid}
use Rattle.upstream.specs.Turns as turns
use Rattle.upstream.specs.Ready as ready

abbrev pub TurnsTo : Grid → List ℕ → Cell → ℕ → Option Cell → Type 0
TurnsTo g outlets cell = turns.TurnsTo g.rows g.cols g.codes.now outlets cell.row cell.col

-- what an engine takes for granted
abbrev pub Ready : FilledGrid → Type 0
Ready f = ready.Ready f.grid.rows f.grid.cols f.grid.codes.now f.outlets.now f.subaccumulation.now

-- a cell of ground, and the cells of the subwatershed that drain through it
abbrev pub OnGround : FilledGrid → Cell → Type 0
OnGround f cell = ready.OnGround f.grid.rows f.grid.cols f.grid.codes.now cell.row cell.col

abbrev pub cells_at : FilledGrid → Cell → ℕ
cells_at f cell = ready.cells_at f.grid.rows f.grid.cols f.grid.codes.now f.outlets.now cell.row cell.col

-- at which cells a length is met by an edition, as the words tell
abbrev pub met_in : ℕ → FilledGrid → Which Dir
met_in edition f = ready.met_in edition f.subaccumulation.now
