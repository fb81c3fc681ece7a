-- `recursion::next_turn` meets its contract: in all directions passed over there was nothing to turn to.
-- Assumes nothing.
use Rattle.recursion.specs.Tracing.{NoneThere}
use Rattle.recursion.proofs.next_turn.Given as goal

abbrev pub invariant-loop-n : goal.invariant-loop-n
invariant-loop-n l = NoneThere l.filled.grid.rows l.filled.grid.cols l.filled.grid.codes.now l.filled.outlets.now l.cell.row l.cell.col l.k l.n
