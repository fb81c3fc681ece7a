-- `report::check_each` meets its contract: what is left to ask answers for all.
-- Assumes nothing.
use mathlib.Core.Path.{◌≡◌, sym, ap, ◌∙◌}
use Prim.Native.Nat.{ℕ, ◌-◌}
use native.Mathlib.Omega.{arith}
use lib.ListN.{length}
use Rattle.answers.specs.Entries.{catchment}
use Rattle.report.specs.Desk.{first_number, numbers_from}
use Rattle.report.proofs.Refusals.{refuses_at, passes_at, none_left, handed}
use Rattle.report.proofs.check_each.Goals as goal

pub loop-place-init : goal.loop-place-init
loop-place-init c =
    let a = c.args in
    let judged = catchment a.rows a.cols a.codes.now a.accumulation.now a.outlets.now in
    let count = length a.outlets.now in
    let e : count - 0 ≡ count = omega arith in
    ap (λ (n : ℕ). first_number (numbers_from judged 0 n)) e

pub returns-in_err-check_outlet : goal.returns-in_err-check_outlet
returns-in_err-check_outlet c =
    let a = c.args in
    let judged = catchment a.rows a.cols a.codes.now a.accumulation.now a.outlets.now in
    let told = c.in_err-check_outlet.ensures in
    handed _ c.from_residual.result c.from_residual.ensures.1
    (refuses_at judged c.loop-place.place (length a.outlets.now) c.loop-place-test.true told.0 told.1
    ∙ c.loop-place.invariant) told.1

pub loop-place-preserved : goal.loop-place-preserved
loop-place-preserved c =
    let a = c.args in
    let judged = catchment a.rows a.cols a.codes.now a.accumulation.now a.outlets.now in
    passes_at judged c.loop-place.place (length a.outlets.now) c.loop-place-test.true c.in_ok-check_outlet.ensures
    ∙ c.loop-place.invariant

pub returns : goal.returns
returns c =
    let a = c.args in
    let judged = catchment a.rows a.cols a.codes.now a.accumulation.now a.outlets.now in
    let e : length a.outlets.now - c.loop-place.place ≡ 0 = omega (arith, c.loop-place-test.false) in
    sym c.loop-place.invariant
    ∙ ap (λ (n : ℕ). first_number (numbers_from judged c.loop-place.place n)) e ∙ none_left judged c.loop-place.place
