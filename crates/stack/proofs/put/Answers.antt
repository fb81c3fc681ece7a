-- `stack::put` meets its contract.
-- Assumes nothing.
use Rattle.stack.proofs.Putting.{put_one}
use Rattle.stack.proofs.put.Goals as goal

pub returns : goal.returns
returns c = let a = c.args in put_one a.work.now a.n a.cell.row a.cell.col a.len c.requires.0 c.requires.2
