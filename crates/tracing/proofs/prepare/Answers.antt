-- `tracing::prepare` meets its contract.
-- Assumes nothing.
use mathlib.Core.Path.{refl}
use mathlib.Core.Logic.{inl}
use native.Mathlib.Omega.{arith}
use Rattle.answers.specs.Entries.{catchment}
use Rattle.tracing.proofs.Filled.{place_listed, place_small, place_fillable, outlet_in_grid, is_prepared, is_barred}
use Rattle.tracing.proofs.prepare.Goals as goal

pub check_place-requires : goal.check_place-requires
check_place-requires c = inl refl

pub returns-in_err-check_place : goal.returns-in_err-check_place
returns-in_err-check_place c =
    let a = c.args in
    is_barred (catchment a.rows a.cols a.codes.now a.accumulation.now a.outlets.now) a.place a.subaccumulation.now _
    c.from_residual.result c.from_residual.ensures.1 c.in_err-check_place.ensures

pub invariant_of-fill : goal.invariant_of-fill
invariant_of-fill c =
    let a = c.args in
    let f = place_fillable (catchment a.rows a.cols a.codes.now a.accumulation.now a.outlets.now) a.subaccumulation.now refl
    a.place c.in_ok-check_place.ensures in
    record { lent = f.grid }

pub fill-requires : goal.fill-requires
fill-requires c =
    let a = c.args in
    place_fillable (catchment a.rows a.cols a.codes.now a.accumulation.now a.outlets.now) a.subaccumulation.now refl
    a.place c.in_ok-check_place.ensures

pub offset_bounds-outlets-place : goal.offset_bounds-outlets-place
offset_bounds-outlets-place c =
    let a = c.args in
    omega (
      arith,
      place_small (catchment a.rows a.cols a.codes.now a.accumulation.now a.outlets.now)
          a.subaccumulation.now refl a.place c.in_ok-check_place.ensures,
    )

pub bounds-outlets-place : goal.bounds-outlets-place
bounds-outlets-place c =
    let a = c.args in
    place_listed (catchment a.rows a.cols a.codes.now a.accumulation.now a.outlets.now) a.subaccumulation.now refl
    a.place c.in_ok-check_place.ensures

pub bounds-subaccumulation-outlets : goal.bounds-subaccumulation-outlets
bounds-subaccumulation-outlets c =
    let a = c.args in
    outlet_in_grid (catchment a.rows a.cols a.codes.now a.accumulation.now a.outlets.now) a.subaccumulation.now refl
    a.place c.in_ok-check_place.ensures c.fill.ensures

pub returns : goal.returns
returns c =
    let a = c.args in
    is_prepared (catchment a.rows a.cols a.codes.now a.accumulation.now a.outlets.now) a.subaccumulation.now refl
    a.place c.in_ok-check_place.ensures c.fill.ensures
