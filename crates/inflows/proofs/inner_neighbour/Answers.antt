-- `inflows::inner_neighbour` meets its contract: the neighbour is on the grid, and its code tells.
-- Assumes nothing.
use native.Mathlib.Omega.{arith}
use Rattle.inflows.proofs.InflowRecord.{inner_inside, beside}
use Rattle.inflows.proofs.inner_neighbour.Goals as goal

pub bounds-grid-at : goal.bounds-grid-at
bounds-grid-at c = omega (
  arith,
  inner_inside c.requires.on c.requires.inner c.args.k c.neighbour_at-n.ensures,
  c.requires.on.grid.has_codes,
)

pub returns : goal.returns
returns c = beside c.requires c.args.k c.neighbour_at-n.ensures
