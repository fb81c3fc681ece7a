-- `report::put_outlets` meets its contract: the lines of the outlets before a place are put.
-- Assumes nothing.
use mathlib.Core.Path.{◌≡◌, sym, ap}
use native.Mathlib.Omega.{arith}
use lib.ListN.{length}
use Rattle.answers.specs.Entries.{catchment}
use Rattle.lines.proofs.Appending.{appends_none, appends_as}
use Rattle.report.specs.Desk.{outlets_lines}
use Rattle.report.proofs.Outlets.{next_outlet, no_outlets}
use Rattle.report.proofs.put_outlets.Goals as goal

pub loop-place-init : goal.loop-place-init
loop-place-init c =
    let a = c.args in
    let judged = catchment a.rows a.cols a.codes.now a.accumulation.now a.outlets.now in
    appends_as (sym (no_outlets judged)) (appends_none a.at a.text.now)

pub loop-place-preserved : goal.loop-place-preserved
loop-place-preserved c =
    let a = c.args in
    let judged = catchment a.rows a.cols a.codes.now a.accumulation.now a.outlets.now in
    next_outlet judged c.loop-place.place c.loop-place.invariant c.put_outlet_at-to.ensures

pub returns : goal.returns
returns c =
    let a = c.args in
    let judged = catchment a.rows a.cols a.codes.now a.accumulation.now a.outlets.now in
    let e : c.loop-place.place ≡ length a.outlets.now = omega arith in
    appends_as (ap (outlets_lines judged 0) e) c.loop-place.invariant
