-- `accumulation::accumulate` meets its contract.
-- Assumes nothing.
use mathlib.Core.Path.{sym, ◌∙◌}
use Rattle.checks.proofs.Refused.{told, not_0}
use Rattle.accumulation.proofs.Accumulated.{refused, fillable, filled}
use Rattle.accumulation.proofs.accumulate.Goals as goal

pub returns-in_err-check_grid : goal.returns-in_err-check_grid
returns-in_err-check_grid c =
    let a = c.args in
    let is = c.from_residual.ensures.1 in
    refused a.rows a.cols a.codes.now a.accumulation.now (told _ c.from_residual.result is ∙ c.in_err-check_grid.ensures)
    (not_0 _ c.from_residual.result is)

pub invariant_of-fill : goal.invariant_of-fill
invariant_of-fill c =
    let a = c.args in
    record { lent = (fillable a.rows a.cols a.codes.now a.accumulation.now (sym c.in_ok-check_grid.ensures)).grid }

pub fill-requires : goal.fill-requires
fill-requires c =
    let a = c.args in
    fillable a.rows a.cols a.codes.now a.accumulation.now (sym c.in_ok-check_grid.ensures)

pub returns-then-not-fill : goal.returns-then-not-fill
returns-then-not-fill c =
    let a = c.args in
    let f = c.fill in
    rw c.if-not-fill.true at
    (filled a.rows a.cols a.codes.now a.accumulation.now (sym c.in_ok-check_grid.ensures) f.result f.ensures)

pub returns : goal.returns
returns c =
    let a = c.args in
    let f = c.fill in
    rw c.if-not-fill.false at
    (filled a.rows a.cols a.codes.now a.accumulation.now (sym c.in_ok-check_grid.ensures) f.result f.ensures)
