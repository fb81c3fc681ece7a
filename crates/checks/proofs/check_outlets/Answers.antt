-- `checks::check_outlets` meets its contract: the refusal of the checks before, or the first of 15, 16, 17 that fails.
-- Assumes nothing.
use mathlib.Core.Path.{sym, ◌∙◌}
use mathlib.Core.Logic.{inl}
use native.Mathlib.Omega.{arith}
use Rattle.ground.specs.Grid.{grid_of}
use Rattle.answers.specs.Entries.{catchment, agreed_checks}
use Rattle.checks.proofs.Passed.{sized}
use Rattle.checks.proofs.Numbers.{not_few, not_all_placed, listed_twice, outlets_pass}
use Rattle.checks.proofs.Refused.{refused}
use Rattle.checks.proofs.check_outlets.Goals as goal

pub returns-in_err-check_agreed : goal.returns-in_err-check_agreed
returns-in_err-check_agreed c =
    let a = c.args in
    refused _ c.from_residual.result
    (agreed_checks (grid_of a.rows a.cols a.codes.now) a.accumulation.now a.lent.now) _
    c.from_residual.ensures.1 c.in_err-check_agreed.ensures

pub invariant_of-grid : goal.invariant_of-grid
invariant_of-grid c =
    let a = c.args in
    let s = sized (grid_of a.rows a.cols a.codes.now) a.lent.now _ 0 (inl (omega arith)) (sym c.in_ok-check_agreed.ensures) in
    record { lent = s.grid }

pub returns-then-not-few_enough : goal.returns-then-not-few_enough
returns-then-not-few_enough c =
    let a = c.args in
    let judged = catchment a.rows a.cols a.codes.now a.accumulation.now a.outlets.now in
    not_few judged a.lent.now (sym c.in_ok-check_agreed.ensures)
    (sym c.few_enough.ensures ∙ c.if-not-few_enough.true)

pub returns-then-not-all_placed : goal.returns-then-not-all_placed
returns-then-not-all_placed c =
    let a = c.args in
    let judged = catchment a.rows a.cols a.codes.now a.accumulation.now a.outlets.now in
    not_all_placed judged a.lent.now (sym c.in_ok-check_agreed.ensures)
    (sym c.few_enough.ensures ∙ c.if-not-few_enough.false)
    (sym c.all_placed.ensures ∙ c.if-not-all_placed.true)

pub returns-then-not-all_different : goal.returns-then-not-all_different
returns-then-not-all_different c =
    let a = c.args in
    let judged = catchment a.rows a.cols a.codes.now a.accumulation.now a.outlets.now in
    listed_twice judged a.lent.now (sym c.in_ok-check_agreed.ensures)
    (sym c.few_enough.ensures ∙ c.if-not-few_enough.false)
    (sym c.all_placed.ensures ∙ c.if-not-all_placed.false) (sym c.all_different.ensures ∙ c.if-not-all_different.true)

pub returns : goal.returns
returns c =
    let a = c.args in
    let judged = catchment a.rows a.cols a.codes.now a.accumulation.now a.outlets.now in
    outlets_pass judged a.lent.now (sym c.in_ok-check_agreed.ensures)
    (sym c.few_enough.ensures ∙ c.if-not-few_enough.false)
    (sym c.all_placed.ensures ∙ c.if-not-all_placed.false) (sym c.all_different.ensures ∙ c.if-not-all_different.false)
