-- `agreement::agrees_all` meets its contract. The loop's invariant: the equation holds at every cell before the row.
-- Assumes nothing.
use Prim.Native.Nat.{◌*◌}
use Rattle.ground.specs.Grid.{grid_of}
use Rattle.agreement.proofs.Rows.{AgreesBefore}
use Rattle.agreement.proofs.agrees_all.Given as goal

abbrev pub invariant-loop-row : goal.invariant-loop-row
invariant-loop-row l = AgreesBefore (grid_of l.grid.rows l.grid.cols l.grid.codes.now) l.accumulation (l.row * l.grid.cols)
