-- `report::check_tracing` meets its contract: the first place, and then all.
-- Assumes nothing.
use mathlib.Core.Path.{sym}
use Rattle.answers.specs.Entries.{catchment}
use Rattle.report.proofs.Refusals.{first_refuses, first_passes, handed}
use Rattle.report.proofs.check_tracing.Goals as goal

pub returns-in_err-check_outlet : goal.returns-in_err-check_outlet
returns-in_err-check_outlet c =
    let a = c.args in
    let judged = catchment a.rows a.cols a.codes.now a.accumulation.now a.outlets.now in
    let told = c.in_err-check_outlet.ensures in
    handed _ c.from_residual.result c.from_residual.ensures.1 (first_refuses judged told.0 told.1) told.1

pub returns : goal.returns
returns c =
    let a = c.args in
    let judged = catchment a.rows a.cols a.codes.now a.accumulation.now a.outlets.now in
    rw (sym (first_passes judged c.in_ok-check_outlet.ensures)) c.check_each.ensures
