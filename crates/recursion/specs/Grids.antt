-- What the functions of the cycle ask and promise, in the source's own values.
-- Assumes nothing.
use Rattle.std.specs.Prelude.{Bool, List, ℕ, ◌+◌, ◌*◌, Option}
use Rattle.lengths.specs.declared.Length.{Length}
use Rattle.cells.specs.declared.Cell.{Cell}
use Rattle.progress.specs.declared.Progress.{Progress}
use Rattle.upstream.specs.declared.filled.FilledGrid.{FilledGrid}
use Rattle.upstream.specs.Grids.{met_in}
use Rattle.recursion.specs.declared.Turn.{Turn}
use Rattle.recursion.specs.Tracing as tracing

-- the number of a cell
abbrev pub number_in : FilledGrid → Cell → ℕ
number_in f cell = cell.row * f.grid.cols + cell.col

abbrev pub turn_at : FilledGrid → ℕ → Cell → Turn
turn_at f k cell = tracing.turn_at f.grid.cols f.subaccumulation.now k cell.row cell.col

abbrev pub TurnReady : FilledGrid → Cell → ℕ → Type 0
TurnReady f cell = tracing.TurnReady f.grid.rows f.grid.cols f.grid.codes.now f.subaccumulation.now cell.row cell.col

abbrev pub NextTurn : FilledGrid → Cell → ℕ → Option Turn → Type 0
NextTurn f cell = tracing.NextTurn f.grid.rows f.grid.cols f.grid.codes.now f.outlets.now f.subaccumulation.now cell.row cell.col

abbrev pub VisitedAt : ℕ → FilledGrid → Cell → Length → Progress → List ℕ → Progress → List ℕ → Type 0
VisitedAt edition f cell = tracing.VisitedAt edition f.subaccumulation.now (number_in f cell)

abbrev pub CellReady : FilledGrid → Cell → Length → Progress → List ℕ → Type 0
CellReady f cell = tracing.CellReady f.grid.rows f.grid.cols f.grid.codes.now f.outlets.now cell.row cell.col

abbrev pub InflowsReady : FilledGrid → Cell → Length → ℕ → Progress → List ℕ → Type 0
InflowsReady f cell = tracing.InflowsReady f.grid.rows f.grid.cols f.grid.codes.now f.outlets.now cell.row cell.col

abbrev pub CellTraced : ℕ → FilledGrid → Bool → Cell → Length → Progress → List ℕ → Progress → List ℕ → Type 0
CellTraced edition f dropping cell = tracing.CellTraced f.grid.rows f.grid.cols f.grid.codes.now f.outlets.now (met_in edition f) dropping
    cell.row cell.col

abbrev pub InflowsTraced : ℕ → FilledGrid → Bool → Cell → Length → ℕ → Progress → List ℕ → Progress → List ℕ → Type 0
InflowsTraced edition f dropping cell = tracing.InflowsTraced f.grid.rows f.grid.cols f.grid.codes.now f.outlets.now (met_in edition f) dropping
    cell.row cell.col

abbrev pub Traced : ℕ → FilledGrid → Bool → Cell → Progress → List ℕ → Type 0
Traced edition f dropping cell = tracing.Traced f.grid.rows f.grid.cols f.grid.codes.now f.outlets.now (met_in edition f) dropping cell.row cell.col
