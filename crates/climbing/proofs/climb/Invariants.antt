-- `climbing::climb` meets its contract. The invariant: the traversal stands at a cell. The measure: cells without a
-- length count double, and the steps to the outlet once. Assumes nothing.
use Prim.Native.Nat.{◌+◌, ◌*◌, ◌%◌, ◌^◌}
use lib.ListN.{get_or}
use Rattle.lengthgrids.specs.Grids.{held_by, SameGrids}
use Rattle.climbing.specs.Giving.{blanks}
use Rattle.climbing.proofs.Climbing.{Standing}
use Rattle.climbing.proofs.climb.Given as goal

abbrev pub invariant-loop-k : goal.invariant-loop-k
invariant-loop-k l =
    SameGrids l.initial.grids l.grids
    × Standing l.grid.rows l.grid.cols l.grid.codes.now l.outlets l.steps l.place l.p.cell.row l.p.cell.col l.p.at l.p.turn
    (held_by l.initial.grids) (held_by l.grids)

abbrev pub decreases-loop-k : goal.decreases-loop-k
decreases-loop-k l =
    2 * blanks (l.grid.rows * l.grid.cols) l.grids.down_straight.now l.grids.down_diagonal.now
    + (get_or l.grids.down_straight.now l.p.at 0 + get_or l.grids.down_diagonal.now l.p.at 0 % 2 ^ 31)
