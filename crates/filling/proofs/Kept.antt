-- A lent grid of words, and a cell of it.
-- Assumes nothing.
use mathlib.Core.List.{List}
use Prim.Native.Nat.{ℕ, ◌*◌, ◌≤◌, ◌<◌}
use native.Mathlib.Omega.{arith}
use Rattle.moves.proofs.Spots.{size, inside}
use Rattle.filling.specs.Filling.{Fillable, FillableAt}
use Rattle.lists.specs.Slices.{Kept}

-- a lent grid is as large as it was
pub fillable_kept : {rows cols n : ℕ} {codes outlets l m : List ℕ} → Kept n l m → Fillable rows cols codes outlets l
    → Fillable rows cols codes outlets m
fillable_kept k f = record {
  grid = f.grid;
  some_cols = f.some_cols;
  has_words = omega (arith, k.same_length, f.has_words);
  on_ground = f.on_ground;
}

-- a cell's number is below R × C
pub at_inside : {rows cols row col at : ℕ} {codes outlets steps l : List ℕ}
    → FillableAt rows cols codes outlets steps l row col at → (at < rows * cols) × (rows * cols ≤ 4096 * 4096)
at_inside f =
    let n = f.numbered in
    (omega (arith, n.is_at, inside n.on), size n.on.grid.sides)
