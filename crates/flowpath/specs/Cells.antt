-- The cell where the code's walk is: where it begins, and one step on; the walk stays at its end.
-- Assumes nothing.
use Rattle.std.specs.Prelude.{◌≡◌, ℕ, ◌+◌, ◌*◌}
use Rattle.std.proofs.Math.Option.{none, some}
use Rattle.cells.specs.Numbers.{RowAndColumn}
use Rattle.lengths.specs.Rule.{counts}
use Rattle.ground.specs.Grid.{Grid, next}
use Rattle.moves.specs.declared.Walk.{Walk}

-- the number of the cell where a walk is
abbrev pub cell_of : ℕ → Walk → ℕ
cell_of cols w = w.cell.row * cols + w.cell.col

-- a walk that begins at a cell
pub record BeginsAt (cols number : ℕ) (w : Walk) : Type 0 where
  pub cell : RowAndColumn cols number w.cell.row w.cell.col
  pub no_steps : w.length ≡ counts 0 0

module _ (g : Grid) where
  -- the cell one step on
  unfoldable pub cell_on : ℕ → ℕ
  cell_on c = elim (next g c) [ none ↦ c | some h ↦ h.cell ]
