-- `counting::word_at` meets its contract. The invariant: the inflows among the first k neighbours are counted.
-- Assumes nothing.
use Prim.Native.Nat.{◌+◌, ◌*◌}
use Rattle.ground.specs.Grid.{grid_of}
use Rattle.counting.proofs.Words.{SoFar}
use Rattle.counting.proofs.word_at.Given as goal

abbrev pub invariant-loop-k : goal.invariant-loop-k
invariant-loop-k l =
    SoFar (grid_of l.grid.rows l.grid.cols l.grid.codes.now) (l.cell.row * l.grid.cols + l.cell.col) l.k l.word
