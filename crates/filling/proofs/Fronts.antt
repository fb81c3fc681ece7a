-- The front of a lent list, which is filled, and the rest, which is kept.
-- Assumes nothing.
use mathlib.Core.Path.{◌≡◌, ap, ◌∙◌}
use mathlib.Core.Bool.{true}
use mathlib.Core.List.{List, ◌++◌}
use Prim.Native.Nat.{ℕ, ◌≤◌, ◌<◌}
use native.Mathlib.Omega.{arith}
use lib.ListN.{length, get_or, drop, get_or-append}
use Rattle.ground.specs.Grid.{Grid, cell_count}
use Rattle.ground.specs.Accumulation.{subaccumulation, subaccumulations}
use Rattle.ground.proofs.Ground.{grid_length, grid_at}
use Rattle.lists.proofs.Overlaid.{overlaid_front}
use Rattle.filling.specs.Filling.{filled_if}

-- what is filled where there is room: the list, and the number at a cell
module _ (g : Grid) (outlets old : List ℕ) (room : cell_count g ≤ length old) where
  long : length (subaccumulations g outlets) ≡ cell_count g
  long = grid_length (subaccumulation g outlets) (cell_count g)

  pub filled_front : filled_if g outlets true old ≡ subaccumulations g outlets ++ drop (cell_count g) old
  filled_front = overlaid_front (subaccumulations g outlets) old (omega (arith, long))
      ∙ ap (λ (n : ℕ). subaccumulations g outlets ++ drop n old) long

  pub filled_at : (x : ℕ) → x < cell_count g → get_or (filled_if g outlets true old) x 0 ≡ subaccumulation g outlets x
  filled_at x h = ap (λ (l : List ℕ). get_or l x 0) filled_front
      ∙ get_or-append (subaccumulations g outlets) (drop (cell_count g) old) 0 x (omega (arith, long))
      ∙ grid_at (subaccumulation g outlets) (cell_count g) x h
