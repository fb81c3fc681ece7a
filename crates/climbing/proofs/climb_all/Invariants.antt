-- `climbing::climb_all` meets its contract. The invariant: the subwatersheds of the first j outlets are left.
-- Assumes nothing.
use Prim.Native.Nat.{◌*◌}
use Rattle.ground.specs.Grid.{grid_of}
use Rattle.lengthgrids.specs.Grids.{held_by, SameGrids, GridsKept}
use Rattle.climbing.specs.Giving.{Resting}
use Rattle.climbing.proofs.climb_all.Given as goal

abbrev pub invariant-loop-j : goal.invariant-loop-j
invariant-loop-j l =
    SameGrids l.initial.grids l.grids
    × Resting (grid_of l.grid.rows l.grid.cols l.grid.codes.now) l.outlets l.j (held_by l.grids)
    × GridsKept (l.grid.rows * l.grid.cols) (held_by l.initial.grids) (held_by l.grids)
