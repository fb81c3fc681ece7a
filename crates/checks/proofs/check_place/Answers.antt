-- `checks::check_place` meets its contract: the refusal of the checks before, or the last one.
-- Assumes nothing.
use mathlib.Core.Path.{sym}
use Rattle.answers.specs.Entries.{catchment, outlet_checks}
use Rattle.checks.proofs.Numbers.{beyond_list, place_passes}
use Rattle.checks.proofs.Refused.{refused}
use Rattle.checks.proofs.check_place.Goals as goal

pub returns-in_err-check_outlets : goal.returns-in_err-check_outlets
returns-in_err-check_outlets c =
    let a = c.args in
    let judged = catchment a.rows a.cols a.codes.now a.accumulation.now a.outlets.now in
    refused _ c.from_residual.result (outlet_checks judged a.lent.now) _
    c.from_residual.ensures.1 c.in_err-check_outlets.ensures

pub returns-then-outlets-place : goal.returns-then-outlets-place
returns-then-outlets-place c =
    let a = c.args in
    let judged = catchment a.rows a.cols a.codes.now a.accumulation.now a.outlets.now in
    beyond_list judged a.place a.lent.now (sym c.in_ok-check_outlets.ensures) c.if-outlets-place.true

pub returns : goal.returns
returns c =
    let a = c.args in
    let judged = catchment a.rows a.cols a.codes.now a.accumulation.now a.outlets.now in
    place_passes judged a.place a.lent.now (sym c.in_ok-check_outlets.ensures) c.if-outlets-place.false
