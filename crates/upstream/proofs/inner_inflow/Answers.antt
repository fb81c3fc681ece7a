-- `upstream::inner_inflow` meets its contract: the neighbour is on the grid, and its code tells.
-- Assumes nothing.
use Rattle.upstream.proofs.Inner.{inner_coded, inner_away, inner_in}
use Rattle.upstream.proofs.inner_inflow.Goals as goal

pub bounds-grid-row : goal.bounds-grid-row
bounds-grid-row c = inner_coded c.requires c.args.k c.neighbour_at-n.ensures

pub returns-then-grid-row : goal.returns-then-grid-row
returns-then-grid-row c =
    inner_away c.requires c.args.k c.neighbour_at-n.ensures c.if-grid-row.true

pub returns : goal.returns
returns c =
    inner_in c.requires c.args.k c.neighbour_at-n.ensures c.if-grid-row.false
