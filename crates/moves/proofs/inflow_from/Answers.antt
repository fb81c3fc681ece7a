-- `moves::inflow_from` meets its contract: a law for each of the ways to look.
-- Assumes nothing.
use native.Mathlib.Omega.{arith}
use Rattle.moves.proofs.Spots.{spot_inside}
use Rattle.moves.proofs.Inflow.{inflow_off, inflow_away, inflow_in_lem}
use Rattle.moves.proofs.inflow_from.Goals as goal

pub returns-in_err-beside : goal.returns-in_err-beside
returns-in_err-beside c = rw c.from_residual.ensures
    (inflow_off c.requires c.args.k c.neighbour_at-n.ensures c.spot_at.ensures c.in_err-beside.was)

pub bounds-grid-beside : goal.bounds-grid-beside
bounds-grid-beside c = omega (arith, spot_inside c.spot_at.ensures c.in_ok-beside.was, c.requires.grid.has_codes)

pub returns-then-grid-beside : goal.returns-then-grid-beside
returns-then-grid-beside c =
    inflow_away c.requires c.args.k c.neighbour_at-n.ensures c.spot_at.ensures c.in_ok-beside.was c.if-grid-beside.true

pub returns : goal.returns
returns c =
    inflow_in_lem c.requires c.args.k c.neighbour_at-n.ensures c.spot_at.ensures c.in_ok-beside.was c.if-grid-beside.false
