-- `counting::count_all` meets its contract. The invariant: the rows before one are counted.
-- Assumes nothing.
use Rattle.counting.proofs.Rows.{rows_step}
use Rattle.counting.proofs.count_all.Goals as goal

pub loop-row-preserved : goal.loop-row-preserved
loop-row-preserved c = rows_step c.loop-row.invariant c.count_row.ensures
