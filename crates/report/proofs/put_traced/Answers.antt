-- `report::put_traced` meets its contract.
-- Assumes nothing.
use Rattle.answers.specs.Tracings.{lent}
use Rattle.lines.proofs.Appending.{appends_none, appends_both, appends_as}
use Rattle.report.proofs.Outlets.{found_lines, other_lines}
use Rattle.report.proofs.put_traced.Goals as goal

pub returns-in_default : goal.returns-in_default
returns-in_default c =
    let a = c.args in
    appends_as
    (other_lines a.cols a.place a.cell a.t (lent a.subaccumulation.now a.starts.now) c.in_default.not-Found)
    (appends_none a.at a.text.now)

pub returns : goal.returns
returns c =
    let a = c.args in
    appends_as
    (found_lines a.cols a.place a.cell a.t (lent a.subaccumulation.now a.starts.now)
    c.in-Found.is c.count_off-outlet.ensures c.value_at.ensures c.first_of.ensures)
    (appends_both c.put_outlet-to.ensures c.put_starts.ensures)
