-- `gathering::gather` meets its contract: the newest listed cell is always the next to have its tributaries listed.
-- Assumes nothing.
use Prim.Native.Nat.{◌+◌, ◌-◌, ◌*◌}
use lib.ListN.{length}
use Rattle.gathering.proofs.Gathering.{Gathered}
use Rattle.gathering.proofs.gather.Given as goal

abbrev pub invariant-loop-k : goal.invariant-loop-k
invariant-loop-k l =
    Gathered l.grid.rows l.grid.cols l.grid.codes.now l.outlets (l.fn.cell.row * l.grid.cols + l.fn.cell.col) l.initial.words l.initial.list l.n l.k l.words l.list

abbrev pub decreases-loop-k : goal.decreases-loop-k
decreases-loop-k l = length l.initial.list - l.k
