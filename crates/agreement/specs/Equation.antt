-- Check 14 at one cell, and along a row.
-- Assumes nothing.
use Rattle.std.specs.Prelude.{◌≡◌, Bool, true, false, List, ℕ, ◌+◌, ◌*◌, ◌≤◌, ◌<◌, get_or, eqb}
use Rattle.ground.specs.Grid.{Grid}
use Rattle.ground.specs.Accumulation.{balance, agrees}

-- does the list fulfil the accumulation's equation at a cell?
abbrev pub agrees_at : Grid → List ℕ → ℕ → Bool
agrees_at g a x = eqb (get_or a x 0) (balance g a x)

-- r is an answer for the cells of a row from column `first` to before column `end`: true says that it does at each of
-- them, false that it does not at some cell of the grid
pub record AgreesAlong (g : Grid) (a : List ℕ) (row first end : ℕ) (r : Bool) : Type 0 where
  pub holds : r ≡ true → (col : ℕ) → first ≤ col → col < end → agrees_at g a (row * g.cols + col) ≡ true
  pub fails : r ≡ false → agrees g a ≡ false
