-- `accumulation::subaccumulate` meets its contract.
-- Assumes nothing.
use mathlib.Core.Path.{refl, ◌∙◌}
use mathlib.Core.Logic.{inl}
use Rattle.answers.specs.Entries.{catchment}
use Rattle.checks.proofs.Refused.{told, not_0}
use Rattle.accumulation.proofs.Subaccumulated.{refused, passed_fillable, filled}
use Rattle.accumulation.proofs.subaccumulate.Goals as goal

pub check_outlets-requires : goal.check_outlets-requires
check_outlets-requires c = inl refl

pub returns-in_err-check_outlets : goal.returns-in_err-check_outlets
returns-in_err-check_outlets c =
    let a = c.args in
    let is = c.from_residual.ensures.1 in
    refused (catchment a.rows a.cols a.codes.now a.accumulation.now a.outlets.now) a.subaccumulation.now
    (told _ c.from_residual.result is ∙ c.in_err-check_outlets.ensures) (not_0 _ c.from_residual.result is)

pub invariant_of-fill : goal.invariant_of-fill
invariant_of-fill c =
    let a = c.args in
    let f = passed_fillable (catchment a.rows a.cols a.codes.now a.accumulation.now a.outlets.now) a.subaccumulation.now
    c.in_ok-check_outlets.ensures refl in
    record { lent = f.grid }

pub fill-requires : goal.fill-requires
fill-requires c =
    let a = c.args in
    passed_fillable (catchment a.rows a.cols a.codes.now a.accumulation.now a.outlets.now) a.subaccumulation.now
    c.in_ok-check_outlets.ensures refl

pub returns : goal.returns
returns c =
    let a = c.args in
    filled (catchment a.rows a.cols a.codes.now a.accumulation.now a.outlets.now) a.subaccumulation.now
    c.in_ok-check_outlets.ensures c.fill.ensures
