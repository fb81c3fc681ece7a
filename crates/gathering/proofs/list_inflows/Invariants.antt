-- `gathering::list_inflows` meets its contract: the first k directions are listed, and then the next.
-- Assumes nothing.
use lib.ListN.{take}
use Rattle.ground.specs.Compass.{dirs}
use Rattle.gathering.specs.Gathering.{ListsFrom}
use Rattle.gathering.proofs.list_inflows.Given as goal

abbrev pub invariant-loop-k : goal.invariant-loop-k
invariant-loop-k l =
    ListsFrom l.grid.rows l.grid.cols l.grid.codes.now l.outlets l.cell.row l.cell.col (take l.k dirs) l.n l.initial.words l.initial.list l.end l.words l.list
