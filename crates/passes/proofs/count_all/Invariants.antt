-- `passes::count_all` meets its contract. The invariant: the outlets before the place are counted.
-- Assumes nothing.
use Rattle.ground.specs.Grid.{grid_of}
use Rattle.passes.specs.Passes.{WorkKept}
use Rattle.passes.proofs.Counting.{Counting}
use Rattle.passes.proofs.count_all.Given as goal

abbrev pub invariant-loop-place : goal.invariant-loop-place
invariant-loop-place l =
    Counting l.edition (grid_of l.filled.grid.rows l.filled.grid.cols l.filled.grid.codes.now) l.filled.outlets.now l.place l.s
    × WorkKept (grid_of l.filled.grid.rows l.filled.grid.cols l.filled.grid.codes.now) l.filled.outlets.now l.initial.work l.work
