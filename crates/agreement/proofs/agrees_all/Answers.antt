-- `agreement::agrees_all` meets its contract. The loop's invariant: the equation holds at every cell before the row.
-- Assumes nothing.
use mathlib.Core.Path.{◌≡◌}
use native.Mathlib.Omega.{arith}
use Rattle.agreement.proofs.Rows.{before_none, before_row, before_all}
use Rattle.agreement.proofs.agrees_all.Goals as goal

pub loop-row-init : goal.loop-row-init
loop-row-init c = before_none _ _ _ (omega arith)

pub returns : goal.returns
returns c =
    let e : c.loop-row.row ≡ c.args.grid.rows = omega arith in
    before_all _ _ _ (rw e) c.loop-row.invariant

pub loop-row-preserved : goal.loop-row-preserved
loop-row-preserved c = before_row _ _ c.loop-row.invariant c.if-not-row_agrees.ensures
