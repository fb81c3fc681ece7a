-- `moves::flows_by` meets its contract: a law for each way in which a walk ends, and one for its step.
-- Assumes nothing.
use native.Mathlib.Omega.{arith}
use Rattle.moves.proofs.Codes.{led}
use Rattle.moves.proofs.Spots.{spot_inside}
use Rattle.moves.proofs.Flowing.{move_in_reach, flows_off, flows_null, flows_on}
use Rattle.moves.proofs.flows_by.Goals as goal

pub spot_at-requires : goal.spot_at-requires
spot_at-requires c = move_in_reach c.requires.on_cell (led c.requires.leads_by)

pub returns-in_err-to : goal.returns-in_err-to
returns-in_err-to c = rw c.from_residual.ensures
    (flows_off c.requires.on_cell (led c.requires.leads_by) c.spot_at.ensures c.in_err-to.was)

pub bounds-grid-to : goal.bounds-grid-to
bounds-grid-to c = omega (arith, spot_inside c.spot_at.ensures c.in_ok-to.was, c.args.grid.lent.has_codes)

pub returns-then-grid-to-eq0 : goal.returns-then-grid-to-eq0
returns-then-grid-to-eq0 c =
    flows_null c.requires.on_cell (led c.requires.leads_by) c.spot_at.ensures c.in_ok-to.was c.if-grid-to-eq0.true

pub returns : goal.returns
returns c =
    flows_on c.requires.on_cell (led c.requires.leads_by) c.spot_at.ensures c.in_ok-to.was c.if-grid-to-eq0.false
