-- What the functions of the source ask and promise, in its own values.
-- Assumes nothing.
use Rattle.std.specs.Prelude.{Bool, List, ℕ}
use Rattle.lengths.specs.declared.Length.{Length}
use Rattle.cells.specs.declared.Cell.{Cell}
use Rattle.moves.specs.declared.grid.Grid.{Grid}
use Rattle.progress.specs.declared.Progress.{Progress}
use Rattle.upstream.specs.declared.filled.FilledGrid.{FilledGrid}
use Rattle.upstream.specs.Grids.{met_in}
use Rattle.stack.specs.declared.Pending.{Pending}
use Rattle.stack.specs.declared.Stack.{Stack}
use Rattle.stack.specs.Pending as pending
use Rattle.stack.specs.Near as near
use Rattle.stack.specs.Draining as draining

abbrev pub all_above : Grid → List ℕ → Cell → Length → List Pending
all_above g outlets cell = pending.all_above g.rows g.cols g.codes.now outlets cell.row cell.col

abbrev pub NoneFlowsIn : FilledGrid → Cell → Type 0
NoneFlowsIn f cell = near.NoneFlowsIn f.grid.rows f.grid.cols f.grid.codes.now f.outlets.now cell.row cell.col

abbrev pub CellEntered : ℕ → FilledGrid → Cell → Length → ℕ → Progress → ℕ → List ℕ → Stack → List ℕ → Type 0
CellEntered edition f cell = draining.CellEntered f.grid.rows f.grid.cols f.grid.codes.now f.outlets.now
    (met_in edition f) cell.row cell.col

abbrev pub StackStands : FilledGrid → ℕ → Stack → List ℕ → Type 0
StackStands f = draining.StackStands f.grid.rows f.grid.cols f.grid.codes.now f.outlets.now

abbrev pub StackTurned : ℕ → FilledGrid → Bool → ℕ → Stack → List ℕ → Stack → List ℕ → Type 0
StackTurned edition f = draining.StackTurned f.grid.rows f.grid.cols f.grid.codes.now f.outlets.now (met_in edition f)

abbrev pub StackTraced : ℕ → FilledGrid → Bool → Cell → List ℕ → Progress → List ℕ → Type 0
StackTraced edition f dropping cell = draining.StackTraced f.grid.rows f.grid.cols f.grid.codes.now f.outlets.now
    (met_in edition f) dropping cell.row cell.col
