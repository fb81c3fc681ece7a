-- `lengths::Length::farthest` meets its contract: n diagonal steps at once.
-- Assumes nothing.
use Rattle.lengths.proofs.Laws.{farthest_is}
use Rattle.lengths.proofs.Length.farthest.Goals as goal

pub returns : goal.returns
returns c = farthest_is c.args.self c.args.n
