-- A scan of all cells by number, with row and column carried along: what is true of the words and the number of cells
-- passed, turn by turn.
-- Assumes nothing.
use mathlib.Core.List.{List}
use Prim.Native.Nat.{ℕ, ◌*◌, ◌≤◌}
use Rattle.cells.specs.Numbers.{RowAndColumn}
use Rattle.lists.specs.Slices.{Kept}

pub record Scan (P : List ℕ → ℕ → Type 0) (rows cols : ℕ) (old new : List ℕ) (row col at : ℕ) : Type 0 where
  pub cell : RowAndColumn cols at row col
  pub at_in : at ≤ rows * cols
  pub holds : P new at
  pub kept : Kept (rows * cols) old new
