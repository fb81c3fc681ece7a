-- `tracing::trace_by_stack` meets its contract.
-- Assumes nothing.
use mathlib.Core.Path.{refl}
use native.Mathlib.Omega.{arith}
use Rattle.answers.specs.Entries.{catchment}
use Rattle.answers.specs.Tracings.{call_of, lent}
use Rattle.tracing.proofs.Filled.{prepared_fresh, prepared_chosen}
use Rattle.tracing.proofs.Deciding.{stack_25, stack_first, stack_20, stack_whole}
use Rattle.tracing.proofs.trace_by_stack.Goals as goal

pub returns-in-Err : goal.returns-in-Err
returns-in-Err c =
    let a = c.args in
    let e = c.in-Err.ensures in
    stack_25 (call_of a.edition a.rows a.cols a.codes.now a.accumulation.now a.outlets.now a.place a.dropping) (lent a.subaccumulation.now a.starts.now) a.work.now e.0
    (rw (c.number.ensures, e.1) at c.refused.ensures)

pub returns-in-Err-prepare : goal.returns-in-Err-prepare
returns-in-Err-prepare c =
    let a = c.args in
    stack_first (call_of a.edition a.rows a.cols a.codes.now a.accumulation.now a.outlets.now a.place a.dropping) (lent a.subaccumulation.now a.starts.now) a.work.now
    c.in_default.ensures.0 c.in-Err-prepare.ensures (rw c.number-in-Err-prepare.ensures at c.refused-in-Err-prepare.ensures)

pub returns-then-work-cells : goal.returns-then-work-cells
returns-then-work-cells c =
    let a = c.args in
    stack_20 (call_of a.edition a.rows a.cols a.codes.now a.accumulation.now a.outlets.now a.place a.dropping) (lent a.subaccumulation.now a.starts.now) a.work.now
    c.in_default.ensures.0 c.in-Ok.ensures (omega arith)
    (rw c.number-then-work-cells.ensures at c.refused-then-work-cells.ensures)

pub invariant_of-grid : goal.invariant_of-grid
invariant_of-grid c =
    let a = c.args in
    let p = c.in-Ok.ensures in
    let fresh = prepared_fresh {c = (catchment a.rows a.cols a.codes.now a.accumulation.now a.outlets.now)} refl p in
    record { lent = fresh.grid_lent }

pub by_stack-requires : goal.by_stack-requires
by_stack-requires c =
    let a = c.args in
    let p = c.in-Ok.ensures in record {
      fresh = prepared_fresh {c = (catchment a.rows a.cols a.codes.now a.accumulation.now a.outlets.now)} refl p;
      chosen = prepared_chosen {c = (catchment a.rows a.cols a.codes.now a.accumulation.now a.outlets.now)} refl p;
      cells_value = (p.counted, omega arith);
    }

pub returns : goal.returns
returns c =
    let a = c.args in
    let r = c.by_stack.ensures in
    rw r.subaccumulation_unchanged
    (stack_whole (call_of a.edition a.rows a.cols a.codes.now a.accumulation.now a.outlets.now a.place a.dropping) (lent a.subaccumulation.now a.starts.now) a.work.now
    c.in_default.ensures.0 c.in-Ok.ensures (omega arith) r.lists_and_clears)
