-- `checks::check_grid` meets its contract: our table's codes are handed on.
-- Assumes nothing.
use Rattle.ground.specs.Tables.{table1}
use Rattle.checks.proofs.check_grid.Goals as goal

pub returns : goal.returns
returns c = c.check_grid_in.ensures table1 c.ours.ensures
