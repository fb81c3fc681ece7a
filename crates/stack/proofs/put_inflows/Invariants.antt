-- `stack::put_inflows` meets its contract: what lies in the directions from k on is put on.
-- Assumes nothing.
use lib.ListN.{drop}
use Rattle.ground.specs.Compass.{dirs}
use Rattle.ground.specs.Grid.{grid_of}
use Rattle.stack.specs.Pending.{inflows_above, PutOn}
use Prim.Native.Nat.{◌+◌, ◌*◌}
use Rattle.stack.proofs.put_inflows.Given as goal

abbrev pub invariant-loop-k : goal.invariant-loop-k
invariant-loop-k l =
    PutOn (inflows_above (grid_of l.grid.rows l.grid.cols l.grid.codes.now) l.outlets (l.cell.row * l.grid.cols + l.cell.col) l.len (drop l.k dirs))
    l.top l.initial.work l.at l.work
