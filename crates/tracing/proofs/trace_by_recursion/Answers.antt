-- `tracing::trace_by_recursion` meets its contract.
-- Assumes nothing.
use mathlib.Core.Path.{refl}
use native.Mathlib.Omega.{arith}
use Rattle.answers.specs.Entries.{catchment}
use Rattle.answers.specs.Tracings.{call_of, lent}
use Rattle.tracing.proofs.Filled.{prepared_fresh, prepared_chosen}
use Rattle.tracing.proofs.Deciding.{recursion_25, recursion_first, recursion_19, recursion_whole}
use Rattle.tracing.proofs.trace_by_recursion.Goals as goal

pub returns-in-Err : goal.returns-in-Err
returns-in-Err c =
    let a = c.args in
    let e = c.in-Err.ensures in
    recursion_25 (call_of a.edition a.rows a.cols a.codes.now a.accumulation.now a.outlets.now a.place a.dropping) (lent a.subaccumulation.now a.starts.now) e.0
    (rw (c.number.ensures, e.1) at c.refused.ensures)

pub returns-in-Err-prepare : goal.returns-in-Err-prepare
returns-in-Err-prepare c =
    let a = c.args in
    recursion_first (call_of a.edition a.rows a.cols a.codes.now a.accumulation.now a.outlets.now a.place a.dropping) (lent a.subaccumulation.now a.starts.now) c.in_default.ensures.0
    c.in-Err-prepare.ensures (rw c.number-in-Err-prepare.ensures at c.refused-in-Err-prepare.ensures)

pub returns-then-cells-gt4096 : goal.returns-then-cells-gt4096
returns-then-cells-gt4096 c =
    let a = c.args in
    recursion_19 (call_of a.edition a.rows a.cols a.codes.now a.accumulation.now a.outlets.now a.place a.dropping) (lent a.subaccumulation.now a.starts.now) c.in_default.ensures.0
    c.in-Ok.ensures (omega arith)
    (rw c.number-then-cells-gt4096.ensures at c.refused-then-cells-gt4096.ensures)

pub invariant_of-grid : goal.invariant_of-grid
invariant_of-grid c =
    let a = c.args in
    let p = c.in-Ok.ensures in
    let fresh = prepared_fresh {c = (catchment a.rows a.cols a.codes.now a.accumulation.now a.outlets.now)} refl p in
    record { lent = fresh.grid_lent }

pub by_recursion-requires : goal.by_recursion-requires
by_recursion-requires c =
    let a = c.args in
    let p = c.in-Ok.ensures in record {
      fresh = prepared_fresh {c = (catchment a.rows a.cols a.codes.now a.accumulation.now a.outlets.now)} refl p;
      chosen = prepared_chosen {c = (catchment a.rows a.cols a.codes.now a.accumulation.now a.outlets.now)} refl p;
      place_bound = omega (arith, p.counted);
    }

pub returns : goal.returns
returns c =
    let a = c.args in
    let r = c.by_recursion.ensures in
    rw r.subaccumulation_unchanged
    (recursion_whole (call_of a.edition a.rows a.cols a.codes.now a.accumulation.now a.outlets.now a.place a.dropping) (lent a.subaccumulation.now a.starts.now) c.in_default.ensures.0
    c.in-Ok.ensures (omega arith) r.lists)
