-- `gathering::list_inflows` meets its contract: the first k directions are listed, and then the next.
-- Assumes nothing.
use native.Mathlib.Omega.{arith}
use Rattle.gathering.proofs.Listing.{lists_first, can_one, lists_next}
use Rattle.gathering.proofs.list_inflows.Goals as goal

pub loop-k-init : goal.loop-k-init
loop-k-init c = lists_first c.requires

pub list_inflow-end-requires : goal.list_inflow-end-requires
list_inflow-end-requires c =
    can_one c.requires c.loop-k.invariant (omega arith)

pub loop-k-preserved : goal.loop-k-preserved
loop-k-preserved c =
    lists_next c.requires c.loop-k.invariant (omega arith) c.list_inflow-end.ensures
