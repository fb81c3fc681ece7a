-- `inflows::inflow_at` meets its contract: the value of the neighbour that is found, or 0.
-- Assumes nothing.
use native.Mathlib.Omega.{arith}
use lib.Arith.{digits_lt}
use Rattle.inflows.proofs.InflowRecord.{value_off, value_in}
use Rattle.inflows.proofs.inflow_at.Goals as goal

pub bounds-accumulation-from : goal.bounds-accumulation-from
bounds-accumulation-from c =
    let from = c.inflow_from.ensures in
    omega (arith, digits_lt (from.row_in _ c.in-Some.is) (from.col_in _ c.in-Some.is), c.requires.has_accumulation)

pub returns-in-None : goal.returns-in-None
returns-in-None c = value_off c.requires c.args.k c.inflow_from.ensures c.in-None.is

pub returns-in-Some : goal.returns-in-Some
returns-in-Some c = value_in c.requires c.args.k c.inflow_from.ensures c.in-Some.is
