-- `report::put_outlet_at` meets its contract.
-- Assumes nothing.
use Rattle.answers.specs.Entries.{catchment}
use Rattle.lines.proofs.Appending.{appends_as}
use Rattle.report.proofs.Outlets.{outlet_is}
use Rattle.report.proofs.put_outlet_at.Goals as goal

pub returns : goal.returns
returns c =
    let a = c.args in
    let judged = catchment a.rows a.cols a.codes.now a.accumulation.now a.outlets.now in
    appends_as (outlet_is judged a.place c.value_at-cell.ensures c.trace_by_stack-t.ensures.traces) c.put_traced.ensures
