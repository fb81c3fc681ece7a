-- The outlets' test at one cell, by its code.
-- Assumes nothing.
use mathlib.Core.Path.{◌≡◌, sym}
use mathlib.Core.Bool.{false, not}
use Prim.Native.Nat.{ℕ, ◌≤◌, ◌<◌}
use native.Mathlib.Omega.{arith}
use lib.ListN.{get_or}
use lib.Dec.{eqb}
use borrow.Author.Tests.{lt-ltb, le-ltb}
use Rattle.ground.specs.Grid.{Grid, cell_count}
use Rattle.ground.proofs.Cells.{code_inside}
use Rattle.checks.specs.Tests.{is_placed}

-- 16 beyond the grid, and at a cell of it
module _ (g : Grid) (x at : ℕ) (is : at ≡ x) where
  pub not_placed : cell_count g ≤ at → false ≡ is_placed g x
  not_placed h = sym (rw (le-ltb x (cell_count g) (omega arith)))

  pub placed_by_code : at < cell_count g → not (eqb (get_or g.codes at 0) 0) ≡ is_placed g x
  placed_by_code h =
      let k : x < cell_count g = omega arith in
      rw (lt-ltb x (cell_count g) k, is, code_inside g x k)
