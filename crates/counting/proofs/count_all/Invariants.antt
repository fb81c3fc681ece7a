-- `counting::count_all` meets its contract. The invariant: the rows before one are counted.
-- Assumes nothing.
use Prim.Native.Nat.{◌*◌}
use Rattle.ground.specs.Grid.{grid_of}
use Rattle.counting.specs.Counting.{Counts}
use Rattle.counting.proofs.count_all.Given as goal

abbrev pub invariant-loop-row : goal.invariant-loop-row
invariant-loop-row l = Counts (grid_of l.grid.rows l.grid.cols l.grid.codes.now) (l.row * l.grid.cols) l.initial.words l.words
