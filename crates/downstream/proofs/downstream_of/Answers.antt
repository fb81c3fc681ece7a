-- `downstream::downstream_of` meets its contract: a law for each way in which a walk ends, and one for its step.
-- Assumes nothing.
use native.Mathlib.Omega.{arith}
use Rattle.downstream.proofs.Flowing.{led_in_reach, number_is, to_inside, ends_nowhere, ends_off, ends_null, flows_there}
use Rattle.downstream.proofs.downstream_of.Goals as goal

pub returns-in_err-m : goal.returns-in_err-m
returns-in_err-m c = rw c.from_residual.ensures (ends_nowhere c.requires c.lead_of.ensures c.in_err-m.was)

pub spot_at-requires : goal.spot_at-requires
spot_at-requires c = led_in_reach c.requires c.lead_of.ensures c.in_ok-m.was

pub returns-in_err-cell : goal.returns-in_err-cell
returns-in_err-cell c = rw c.from_residual-in_err-cell.ensures
    (ends_off c.requires c.lead_of.ensures c.in_ok-m.was c.spot_at.ensures c.in_err-cell.was)

pub overflow_sub-to : goal.overflow_sub-to
overflow_sub-to c = omega (
  arith,
  number_is c.requires c.lead_of.ensures c.in_ok-m.was c.spot_at.ensures c.in_ok-cell.was c.place_of.ensures,
)

pub bounds-grid-to : goal.bounds-grid-to
bounds-grid-to c =
    to_inside c.requires c.lead_of.ensures c.in_ok-m.was c.spot_at.ensures c.in_ok-cell.was c.place_of.ensures

pub returns-then-grid-to-eq0 : goal.returns-then-grid-to-eq0
returns-then-grid-to-eq0 c =
    ends_null c.requires c.lead_of.ensures c.in_ok-m.was c.spot_at.ensures c.in_ok-cell.was c.place_of.ensures
    c.if-grid-to-eq0.true

pub returns : goal.returns
returns c =
    flows_there c.requires c.lead_of.ensures c.in_ok-m.was c.spot_at.ensures c.in_ok-cell.was c.place_of.ensures
    c.if-grid-to-eq0.false
