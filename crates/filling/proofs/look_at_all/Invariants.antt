-- `filling::look_at_all` meets its contract. The invariant: the cells before `at` are looked at.
-- Assumes nothing.
use Rattle.ground.specs.Grid.{grid_of}
use Rattle.filling.specs.Filling.{Looked}
use Rattle.filling.proofs.Scans.{Scan}
use Rattle.filling.proofs.look_at_all.Given as goal

abbrev pub invariant-loop-at : goal.invariant-loop-at
invariant-loop-at l =
    Scan (λ w x. Looked (grid_of l.grid.rows l.grid.cols l.grid.codes.now) l.outlets w x l.done) l.grid.rows l.grid.cols l.initial.words l.words
    l.cell.row l.cell.col l.at
