-- `recursion::trace` meets its contract: the search enters the outlet.
-- Assumes nothing.
use Rattle.upstream.specs.Ready.{met_in}
use Rattle.recursion.proofs.Cell.{inflows_ready, cell_traced, outlet_ready, traced}
use Rattle.recursion.proofs.trace.Goals as goal

pub trace_inflows-requires-clause-inflows_ready : goal.trace_inflows-requires-clause-inflows_ready
trace_inflows-requires-clause-inflows_ready c =
    let r = c.requires in
    let cell = outlet_ready r.ready r.on_ground c.begin.ensures c.none-none.ensures c.args.found.now r.cells_bound.0
    r.cells_bound.1 in
    inflows_ready r.ready cell c.visit_at-p.ensures

pub returns : goal.returns
returns c =
    let r = c.requires in
    let i = c.trace_inflows in
    let cell = outlet_ready r.ready r.on_ground c.begin.ensures c.none-none.ensures c.args.found.now r.cells_bound.0
    r.cells_bound.1 in
    traced r.ready r.on_ground c.begin.ensures c.none-none.ensures (met_in c.args.edition c.args.filled.subaccumulation.now)
    c.args.dropping c.args.found.now i.result i.new.found
    (cell_traced r.ready cell c.visit_at-p.ensures c.args.dropping i.result i.new.found i.ensures)
