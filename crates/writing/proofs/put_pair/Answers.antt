-- `writing::put_pair` meets its contract: a mark, a number, and another after them.
-- Assumes nothing.
use Rattle.writing.proofs.Puts.{puts_then}
use Rattle.writing.proofs.put_pair.Goals as goal

pub returns : goal.returns
returns c =
    let a = c.args in
    puts_then c.put-after.ensures (puts_then c.put_number-middle.ensures c.put_number.ensures)
