-- `inflows::inflows_of` meets its contract: each value is that of its neighbour.
-- Assumes nothing.
use borrow.Author.Rules.{rules}
use Rattle.inflows.proofs.InflowRecord.{record_is}
use Rattle.inflows.proofs.inflows_of.Goals as goal

pub returns : goal.returns
returns c =
    let made = c.from_fn.ensures.items in
    record_is _ _ _ _ made.long (λ j h. let here = made.at j 0 h in search rules)
