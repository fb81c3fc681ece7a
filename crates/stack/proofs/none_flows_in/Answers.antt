-- `stack::none_flows_in` meets its contract, by the outlets' numbers or by the sum of what flows in.
-- Assumes nothing.
use mathlib.Core.Path.{sym, ◌∙◌}
use native.Mathlib.Omega.{arith}
use borrow.Author.Tests.{eqb-true, not-true}
use Rattle.stack.proofs.Near.{none_near}
use Rattle.stack.proofs.Climbing.{one_cell, not_outlet}
use Rattle.stack.proofs.none_flows_in.Goals as goal

pub returns-then-filled-lt16 : goal.returns-then-filled-lt16
returns-then-filled-lt16 c =
    let a = c.args in λ e.
    none_near a.filled.grid.rows a.filled.grid.cols a.filled.grid.codes.now a.filled.outlets.now a.cell.row a.cell.col c.requires.on_ground.col_in
    (sym c.lies_near.ensures ∙ not-true c.lies_near.result e)

pub overflow_sub-n : goal.overflow_sub-n
overflow_sub-n c = omega (arith, one_cell c.requires.ready c.requires.on_ground, c.requires.n_value)

pub returns : goal.returns
returns c =
    let p = c.requires in
    let sum = c.cells_above in
    λ e len.
    not_outlet c.requires.ready p.on_ground len c.inflows_of-inflows.ensures p.n_value
    (omega (arith, sum.ensures, eqb-true sum.result c.from.result e, c.from.ensures))
