-- `tracingall::trace_all` meets its contract.
-- Assumes nothing.
use mathlib.Core.Path.{refl}
use native.Mathlib.Omega.{arith}
use Rattle.answers.specs.Entries.{catchment}
use Rattle.answers.proofs.Refusals.{has_number}
use Rattle.alloutlets.specs.AllOutlets.{lent_all}
use Rattle.tracingall.proofs.Filled.{outlets_within, most_is, all_fresh, traceable}
use Rattle.tracingall.proofs.Deciding.{all_25, all_first, all_20, all_23, all_searched}
use Rattle.tracingall.proofs.trace_all.Goals as goal

pub returns-in-Err : goal.returns-in-Err
returns-in-Err c =
    let a = c.args in
    let e = c.in-Err.ensures in
    all_25 a.edition (catchment a.rows a.cols a.codes.now a.accumulation.now a.outlets.now) (lent_all a.subaccumulation.now a.starts.now a.counts.now a.work.now) e.0
    (rw e.1 at c.refused_all.ensures)

pub returns-in-Err-subaccumulate : goal.returns-in-Err-subaccumulate
returns-in-Err-subaccumulate c =
    let a = c.args in
    all_first a.edition (catchment a.rows a.cols a.codes.now a.accumulation.now a.outlets.now) (lent_all a.subaccumulation.now a.starts.now a.counts.now a.work.now) c.in_default.ensures.0
    c.in-Err-subaccumulate.ensures (has_number c.in-Err-subaccumulate.refusal)
    c.refused_all-in-Err-subaccumulate.ensures

pub most_cells-requires : goal.most_cells-requires
most_cells-requires c =
    let a = c.args in
    outlets_within {c = (catchment a.rows a.cols a.codes.now a.accumulation.now a.outlets.now)} refl c.in_default-subaccumulate.ensures refl

pub returns-then-work-end : goal.returns-then-work-end
returns-then-work-end c =
    let a = c.args in
    let s = c.in_default-subaccumulate.ensures in
    let most = most_is {c = (catchment a.rows a.cols a.codes.now a.accumulation.now a.outlets.now)} refl s refl c.most_cells.ensures in
    all_20 a.edition (catchment a.rows a.cols a.codes.now a.accumulation.now a.outlets.now) (lent_all a.subaccumulation.now a.starts.now a.counts.now a.work.now) c.in_default.ensures.0 s refl
    (omega (arith, most)) c.refused_all-then-work-end.ensures

pub returns-then-counts-outlets : goal.returns-then-counts-outlets
returns-then-counts-outlets c =
    let a = c.args in
    let s = c.in_default-subaccumulate.ensures in
    let most = most_is {c = (catchment a.rows a.cols a.codes.now a.accumulation.now a.outlets.now)} refl s refl c.most_cells.ensures in
    all_23 a.edition (catchment a.rows a.cols a.codes.now a.accumulation.now a.outlets.now) (lent_all a.subaccumulation.now a.starts.now a.counts.now a.work.now) c.in_default.ensures.0 s refl
    (omega (arith, most)) c.if-counts-outlets.true c.refused_all-then-counts-outlets.ensures

pub invariant_of-grid : goal.invariant_of-grid
invariant_of-grid c =
    let a = c.args in
    let s = c.in_default-subaccumulate.ensures in
    let fresh = all_fresh {c = (catchment a.rows a.cols a.codes.now a.accumulation.now a.outlets.now)} refl s refl in
    record { lent = fresh.grid_lent }

pub search_by-requires : goal.search_by-requires
search_by-requires c =
    let a = c.args in
    let s = c.in_default-subaccumulate.ensures in
    let most = most_is {c = (catchment a.rows a.cols a.codes.now a.accumulation.now a.outlets.now)} refl s refl c.most_cells.ensures in record {
      fresh = all_fresh {c = (catchment a.rows a.cols a.codes.now a.accumulation.now a.outlets.now)} refl s refl;
      traceable = traceable {c = (catchment a.rows a.cols a.codes.now a.accumulation.now a.outlets.now)} refl s refl
          (omega (arith, most));
      end_value = (omega (arith, most), c.if-counts-outlets.false);
    }

pub returns : goal.returns
returns c =
    let a = c.args in
    let s = c.in_default-subaccumulate.ensures in
    let most = most_is {c = (catchment a.rows a.cols a.codes.now a.accumulation.now a.outlets.now)} refl s refl c.most_cells.ensures in
    let r = c.search_by.ensures in
    rw r.subaccumulation_unchanged
    (all_searched a.edition (catchment a.rows a.cols a.codes.now a.accumulation.now a.outlets.now) (lent_all a.subaccumulation.now a.starts.now a.counts.now a.work.now) c.in_default.ensures.0 s refl
    (omega (arith, most)) c.if-counts-outlets.false r.searches_all)
