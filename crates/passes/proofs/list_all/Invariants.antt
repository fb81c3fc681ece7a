-- `passes::list_all` meets its contract. The invariant: the first j outlets are listed, and storing what is left of
-- both lists stores all.
-- Assumes nothing.
use Rattle.ground.specs.Grid.{grid_of}
use Rattle.passes.specs.Passes.{WorkKept}
use Rattle.passes.proofs.Listing.{Listing}
use Rattle.passes.proofs.list_all.Given as goal

abbrev pub invariant-loop-j : goal.invariant-loop-j
invariant-loop-j l =
    Listing l.edition (grid_of l.filled.grid.rows l.filled.grid.cols l.filled.grid.codes.now) l.filled.outlets.now l.initial.starts l.initial.counts
    l.j l.total l.starts l.counts
    × WorkKept (grid_of l.filled.grid.rows l.filled.grid.cols l.filled.grid.codes.now) l.filled.outlets.now l.initial.work l.work
