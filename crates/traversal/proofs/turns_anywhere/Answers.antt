-- `traversal::turns_anywhere` meets its contract, by the neighbour that is found.
-- Assumes nothing.
use native.Mathlib.Omega.{arith}
use lib.Arith.{digits_lt}
use Rattle.traversal.proofs.Turning.{spot_away, spot_here}
use Rattle.traversal.proofs.turns_anywhere.Goals as goal

pub bounds-marks-from : goal.bounds-marks-from
bounds-marks-from c =
    let f = c.inflow_from.ensures in
    omega (arith, digits_lt (f.row_in _ c.in-Some.is) (f.col_in _ c.in-Some.is), c.requires.has_marks)

pub returns-in-Some : goal.returns-in-Some
returns-in-Some c = spot_here c.requires.on_cell.1 c.inflow_from.ensures _ c.in-Some.is

pub returns-in-None : goal.returns-in-None
returns-in-None c = spot_away c.requires.on_cell.1 c.inflow_from.ensures _ c.in-None.is
