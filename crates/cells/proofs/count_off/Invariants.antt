-- `cells::count_off` meets its contract. The invariant: the rows counted off and what is left make up the number.
-- Assumes nothing.
use mathlib.Core.Path.{◌≡◌}
use Prim.Native.Nat.{◌+◌, ◌*◌, ◌≤◌}
use Rattle.cells.proofs.count_off.Given as goal

abbrev pub invariant-loop-col : goal.invariant-loop-col
invariant-loop-col l = (l.row * l.cols + l.col ≡ l.number) × (l.row + l.col ≤ l.number)

abbrev pub decreases-loop-col : goal.decreases-loop-col
decreases-loop-col l = l.col
