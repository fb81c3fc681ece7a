-- `drawing::judge` meets its contract: a law for each refusal, and one for a path that is accepted.
-- Assumes nothing.
use Rattle.std.proofs.Common.{ℕ, refl, sym, ap, ◌∙◌, Option, ok_or}
use mathlib.Core.Logic.{inl}
use native.Mathlib.Omega.{arith}
use Rattle.answers.specs.declared.Refusal.TheVariants.{Start}
use Rattle.answers.specs.Drawing.{drawing_of}
use Rattle.drawing.proofs.Judging.{chosen, same_err, refused_early, refused_22, refused_23, accepted}
use Rattle.drawing.proofs.judge.Goals as goal

pub check_place-requires : goal.check_place-requires
check_place-requires c = inl refl

pub returns-in_err-check_place : goal.returns-in_err-check_place
returns-in_err-check_place c =
    let a = c.args in
    let q = drawing_of a.rows a.cols a.codes.now a.accumulation.now a.outlets.now a.place a.start in
    refused_early q a.path.now _ c.from_residual.result c.from_residual.ensures.1 c.in_err-check_place.ensures

pub offset_bounds-outlets-place : goal.offset_bounds-outlets-place
offset_bounds-outlets-place c =
    let a = c.args in
    let q = drawing_of a.rows a.cols a.codes.now a.accumulation.now a.outlets.now a.place a.start in
    let h = chosen q (sym c.in_ok-check_place.ensures) in
    omega (arith, h.in_list, h.few_outlets)

pub bounds-outlets-place : goal.bounds-outlets-place
bounds-outlets-place c =
    let a = c.args in
    let q = drawing_of a.rows a.cols a.codes.now a.accumulation.now a.outlets.now a.place a.start in
    omega (arith, (chosen q (sym c.in_ok-check_place.ensures)).in_list)

pub invariant_of-grid : goal.invariant_of-grid
invariant_of-grid c =
    let a = c.args in
    let q = drawing_of a.rows a.cols a.codes.now a.accumulation.now a.outlets.now a.place a.start in
    record { lent = (chosen q (sym c.in_ok-check_place.ensures)).surveyed.grid }

pub path_length-cells-requires : goal.path_length-cells-requires
path_length-cells-requires c =
    let a = c.args in
    let q = drawing_of a.rows a.cols a.codes.now a.accumulation.now a.outlets.now a.place a.start in
    (chosen q (sym c.in_ok-check_place.ensures)).surveyed

pub returns-in_err-count : goal.returns-in_err-count
returns-in_err-count c =
    let a = c.args in
    let q = drawing_of a.rows a.cols a.codes.now a.accumulation.now a.outlets.now a.place a.start in
    let none = c.in_err-count.ensures.ok_part in
    let is = same_err c.from_residual-in_err-count.result c.from_residual-in_err-count.ensures.1
    ∙ c.in_err-count.ensures.value ∙ ap (λ (o : Option ℕ). ok_or o Start) none in
    rw is (refused_22 q a.path.now (sym c.in_ok-check_place.ensures) (sym none ∙ c.path_length-cells.ensures))

pub returns-then-path-count : goal.returns-then-path-count
returns-then-path-count c =
    let a = c.args in
    let q = drawing_of a.rows a.cols a.codes.now a.accumulation.now a.outlets.now a.place a.start in
    refused_23 q a.path.now (sym c.in_ok-check_place.ensures) (sym c.in_ok-count.ensures.ok_part ∙ c.path_length-cells.ensures)
    c.if-path-count.true

pub returns : goal.returns
returns c =
    let a = c.args in
    let q = drawing_of a.rows a.cols a.codes.now a.accumulation.now a.outlets.now a.place a.start in
    accepted q a.path.now (sym c.in_ok-check_place.ensures) (sym c.in_ok-count.ensures.ok_part ∙ c.path_length-cells.ensures)
    c.if-path-count.false
