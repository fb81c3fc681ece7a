-- `counting::count_part` meets its contract. The invariant: the part's cells before the column are counted.
-- Assumes nothing.
use Rattle.ground.specs.Grid.{grid_of}
use Rattle.counting.specs.Counting.{CountsRow}
use Rattle.counting.proofs.count_part.Given as goal

abbrev pub invariant-loop-col : goal.invariant-loop-col
invariant-loop-col l = CountsRow (grid_of l.grid.rows l.grid.cols l.grid.codes.now) l.row l.from l.col l.initial.words l.words
