-- The accumulation's equation at one cell, by its code.
-- Assumes nothing.
use mathlib.Core.Path.{◌≡◌}
use mathlib.Core.List.{List}
use Prim.Native.Nat.{ℕ, ◌+◌, ◌*◌, ◌≤◌, ◌<◌}
use native.Mathlib.Numerals.{add-one}
use lib.ListN.{get_or}
use lib.Dec.{eqb}
use Rattle.lists.specs.Lists.{sum_of}
use Rattle.ground.specs.Grid.{Grid, cell_count, inflow_record}
use Rattle.ground.proofs.Cells.{null_at, ground_at, ground_balance, null_balance}
use Rattle.moves.proofs.Spots.{size, inside as cell_inside}
use Rattle.inflows.specs.Values.{HasCell}
use Rattle.agreement.specs.Equation.{agrees_at}

module _ (g : Grid) (x : ℕ) (h : x < cell_count g) where
  -- at a null cell, and at a cell of ground: by the value there and the sum of its inflows
  module _ (a : List ℕ) {value : ℕ} (is : value ≡ get_or a x 0) where
    pub null_agrees : get_or g.codes x 0 ≡ 0 → eqb value 0 ≡ agrees_at g a x
    null_agrees e = rw (is, null_balance g a x (null_at g x h e))

    pub ground_agrees : {sum : ℕ} → sum ≡ sum_of (inflow_record g a x) → (get_or g.codes x 0 ≡ 0 → ⊥)
        → eqb value (sum + 1) ≡ agrees_at g a x
    ground_agrees e f = rw (is, e, add-one (sum_of (inflow_record g a x)), ground_balance g a x (ground_at g x h f))

-- a cell's number is below R × C
pub inside : {rows cols row col : ℕ} {codes a : List ℕ} → HasCell rows cols codes a row col
    → (row * cols + col < rows * cols) × (rows * cols ≤ 4096 * 4096)
inside has = (cell_inside has.on, size has.on.grid.sides)
