-- The two functions of the cycle meet their contracts.
-- Assumes nothing.
use mathlib.Core.Path.{sym, subst}
use Prim.Native.Nat.{◌+◌}
use native.Mathlib.Omega.{arith}
use Rattle.upstream.specs.Ready.{met_in}
use Rattle.recursion.specs.Tracing.{InflowsReady, InflowsTraced}
use Rattle.recursion.proofs.Cell.{cells_read, has_room, inflows_ready, cell_traced}
use Rattle.recursion.proofs.Inflows.{inflows_done, fewer, small_cells, cells_lent, testable}
use Rattle.recursion.proofs.Inflows.{drop_ready, drop_traced, cell_ready, rest_ready, rest_traced}
use Rattle.recursion.proofs.+trace_cell_trace_inflows.Goals as goal

-- ---- tracing a cell

pub trace_cell-visit_at-q-requires-clause-paths_bound :
    goal.trace_cell-visit_at-q-requires-clause-paths_bound
trace_cell-visit_at-q-requires-clause-paths_bound t c = has_room c.requires.ready c.requires.cell_ready

pub trace_cell-trace_inflows-requires : goal.trace_cell-trace_inflows-requires
trace_cell-trace_inflows-requires t c =
    let r = c.requires in
    (omega (arith, c.decreases), (r.ready, inflows_ready r.ready r.cell_ready c.visit_at-q.ensures))

pub trace_cell-returns : goal.trace_cell-returns
trace_cell-returns t c =
    let r = c.requires in
    let i = c.trace_inflows in
    cell_traced r.ready r.cell_ready c.visit_at-q.ensures c.args.dropping i.result i.new.found i.ensures

-- ---- tracing its inflows

pub trace_inflows-returns-in_default : goal.trace_inflows-returns-in_default
trace_inflows-returns-in_default t c =
    let a = c.args in
    let r = c.requires in
    inflows_done r.ready (met_in a.edition a.filled.now.subaccumulation.now) a.dropping r.inflows_ready c.in_default.ensures

pub trace_inflows-is_dropped-requires : goal.trace_inflows-is_dropped-requires
trace_inflows-is_dropped-requires t c =
    let a = c.args in
    let r = c.requires in
    let h = testable r.ready (met_in a.edition a.filled.now.subaccumulation.now) a.dropping r.inflows_ready
    c.in-Some.ensures c.plus-longer.ensures in
    (omega (arith, h), omega (arith, h), omega (arith, h))

pub trace_inflows-drop_cells-q-requires : goal.trace_inflows-drop_cells-q-requires
trace_inflows-drop_cells-q-requires t c =
    let a = c.args in
    let r = c.requires in
    omega (
      arith,
      small_cells r.ready (met_in a.edition a.filled.now.subaccumulation.now) a.dropping r.inflows_ready
          c.in-Some.ensures,
    )

pub trace_inflows-trace_inflows-requires : goal.trace_inflows-trace_inflows-requires
trace_inflows-trace_inflows-requires t c =
    let a = c.args in
    let r = c.requires in
    let n = c.in-Some in (
      omega (arith, c.decreases, n.ensures.from, n.ensures.last),
      (
        r.ready,
        subst (λ q. InflowsReady a.filled.now.grid.rows a.filled.now.grid.cols a.filled.now.grid.codes.now a.filled.now.outlets.now a.cell.row a.cell.col a.len (n.t.k + 1) q
            a.found.now) (sym c.drop_cells-q.ensures)
            (drop_ready r.ready (met_in a.edition a.filled.now.subaccumulation.now) a.dropping r.inflows_ready n.ensures c.plus-longer.ensures c.is_dropped.ensures),
      ),
    )

pub trace_inflows-returns-then-is_dropped : goal.trace_inflows-returns-then-is_dropped
trace_inflows-returns-then-is_dropped t c =
    let a = c.args in
    let r = c.requires in
    let n = c.in-Some in
    let i = c.trace_inflows in
    let met = met_in a.edition a.filled.now.subaccumulation.now in
    drop_traced r.ready met a.dropping r.inflows_ready n.ensures c.plus-longer.ensures
    c.is_dropped.ensures c.if-is_dropped.true i.result i.new.found
    (subst (λ q. InflowsTraced a.filled.now.grid.rows a.filled.now.grid.cols a.filled.now.grid.codes.now a.filled.now.outlets.now met a.dropping a.cell.row a.cell.col a.len
    (n.t.k + 1) q a.found.now i.result i.new.found) c.drop_cells-q.ensures i.ensures)

pub trace_inflows-trace_cell-q-requires : goal.trace_inflows-trace_cell-q-requires
trace_inflows-trace_cell-q-requires t c =
    let a = c.args in
    let ready = c.requires.ready in
    let here = c.requires.inflows_ready in
    let n = c.in-Some in
    let met = met_in a.edition a.filled.now.subaccumulation.now in (
      omega (
        arith,
        c.decreases,
        fewer ready met a.dropping here n.ensures,
        cells_lent ready met a.dropping here n.ensures,
        cells_read ready a.cell.row a.cell.col here.row_in here.col_in,
      ),
      (
        ready,
        cell_ready ready met a.dropping here n.ensures c.plus-longer.ensures c.is_dropped.ensures
            c.if-is_dropped.false,
      ),
    )

pub trace_inflows-trace_inflows-requires-2 : goal.trace_inflows-trace_inflows-requires-2
trace_inflows-trace_inflows-requires-2 t c =
    let a = c.args in
    let r = c.requires in
    let n = c.in-Some in (
      omega (arith, c.decreases, n.ensures.from, n.ensures.last),
      (
        r.ready,
        rest_ready r.ready (met_in a.edition a.filled.now.subaccumulation.now) a.dropping r.inflows_ready n.ensures c.plus-longer.ensures c.is_dropped.ensures c.if-is_dropped.false
            c.trace_cell-q.ensures,
      ),
    )

pub trace_inflows-returns : goal.trace_inflows-returns
trace_inflows-returns t c =
    let a = c.args in
    let r = c.requires in
    let i = c.trace_inflows-2 in
    rest_traced r.ready (met_in a.edition a.filled.now.subaccumulation.now) a.dropping r.inflows_ready c.in-Some.ensures c.plus-longer.ensures c.is_dropped.ensures c.if-is_dropped.false c.trace_cell-q.ensures
    i.result i.new.found i.ensures
