-- `upstream::inflow` meets its contract, whether the cell is known as an inner one or not.
-- Assumes nothing.
use Rattle.upstream.proofs.inflow.Goals as goal

pub inner_inflow-requires : goal.inner_inflow-requires
inner_inflow-requires c = let p = c.requires in record { on = p.0; inner = p.1 c.if-inner.true }
