-- `agreement::edge_agrees` meets its contract. The loop's invariant: the equation holds from column 1 to before `col`.
-- Assumes nothing.
use mathlib.Core.Path.{sym}
use native.Mathlib.Omega.{arith}
use Rattle.agreement.proofs.Rows.{has_cell, stops, along_fails}
use Rattle.agreement.proofs.edge_agrees.Goals as goal

pub returns-then-not-agrees_at : goal.returns-then-not-agrees_at
returns-then-not-agrees_at c =
    along_fails (stops (has_cell c.requires (omega arith)) (sym c.if-not-agrees_at.ensures))
