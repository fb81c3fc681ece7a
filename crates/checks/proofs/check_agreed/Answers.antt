-- `checks::check_agreed` meets its contract: the refusal of the checks before, or the last one.
-- Assumes nothing.
use mathlib.Core.Path.{sym, ◌∙◌}
use mathlib.Core.Logic.{inl}
use native.Mathlib.Omega.{arith}
use Rattle.ground.specs.Grid.{grid_of}
use Rattle.answers.specs.Entries.{grid_checks}
use Rattle.checks.proofs.Passed.{sized, sized_lent}
use Rattle.checks.proofs.Numbers.{disagrees, agreement_passes}
use Rattle.checks.proofs.Refused.{refused}
use Rattle.checks.proofs.check_agreed.Goals as goal

pub returns-in_err-check_grid : goal.returns-in_err-check_grid
returns-in_err-check_grid c =
    let a = c.args in
    refused _ c.from_residual.result (grid_checks (grid_of a.rows a.cols a.codes.now) a.lent.now) _
    c.from_residual.ensures.1 c.in_err-check_grid.ensures

pub invariant_of-grid : goal.invariant_of-grid
invariant_of-grid c =
    let a = c.args in
    let s = sized (grid_of a.rows a.cols a.codes.now) a.lent.now _ 0 (inl (omega arith)) (sym c.in_ok-check_grid.ensures) in
    record { lent = s.grid }

pub agrees_all-requires : goal.agrees_all-requires
agrees_all-requires c =
    let a = c.args in
    sized_lent a.accumulation.now c.requires
    (sized (grid_of a.rows a.cols a.codes.now) a.lent.now _ 0 (inl (omega arith)) (sym c.in_ok-check_grid.ensures))

pub returns-then-not-agrees_all : goal.returns-then-not-agrees_all
returns-then-not-agrees_all c =
    disagrees _ _ _ (sym c.in_ok-check_grid.ensures) (sym c.agrees_all.ensures ∙ c.if-not-agrees_all.true)

pub returns : goal.returns
returns c =
    agreement_passes _ _ _ (sym c.in_ok-check_grid.ensures) (sym c.agrees_all.ensures ∙ c.if-not-agrees_all.false)
