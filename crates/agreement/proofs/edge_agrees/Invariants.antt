-- `agreement::edge_agrees` meets its contract. The loop's invariant: the equation holds from column 1 to before `col`.
-- Assumes nothing.
use mathlib.Core.Bool.{true}
use Rattle.ground.specs.Grid.{grid_of}
use Rattle.agreement.specs.Equation.{AgreesAlong}
use Rattle.agreement.proofs.edge_agrees.Given as goal

abbrev pub invariant-loop-col : goal.invariant-loop-col
invariant-loop-col l = AgreesAlong (grid_of l.grid.rows l.grid.cols l.grid.codes.now) l.accumulation l.row 1 l.col true
