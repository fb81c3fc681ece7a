-- `inflows::inner_inflows` meets its contract, as `inflows_of` does.
-- Assumes nothing.
use borrow.Author.Rules.{rules}
use Rattle.inflows.proofs.InflowRecord.{record_is}
use Rattle.inflows.proofs.inner_inflows.Goals as goal

pub returns : goal.returns
returns c =
    let made = c.from_fn.ensures.items in
    record_is _ _ _ _ made.long (λ j h. let here = made.at j 0 h in search rules)
