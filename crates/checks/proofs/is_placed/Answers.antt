-- `checks::is_placed` meets its contract: a number beyond the grid, and a cell by its code.
-- Assumes nothing.
use Rattle.moves.specs.Grids.{ground_of}
use Rattle.checks.proofs.Cells.{placed_by_code}
use mathlib.Core.Path.{refl}
use Rattle.checks.proofs.is_placed.Goals as goal

pub returns-then-at-grid : goal.returns-then-at-grid
returns-then-at-grid c =
    placed_by_code (ground_of c.args.grid) _ _ refl c.if-at-grid.true
