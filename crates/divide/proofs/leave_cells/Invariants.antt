-- `divide::leave_cells` meets its contract. The invariant: the cells so far are left.
-- Assumes nothing.
use Rattle.divide.specs.Divides.{LeavesCells}
use Rattle.divide.proofs.leave_cells.Given as goal

abbrev pub invariant-loop-number : goal.invariant-loop-number
invariant-loop-number l = LeavesCells l.grid.rows l.grid.cols l.number-index l.list l.initial.words l.words
