-- `agreement::row_agrees` meets its contract: the first column, the last one, and those between.
-- Assumes nothing.
use mathlib.Core.Path.{sym, ◌∙◌}
use native.Mathlib.Omega.{arith}
use Rattle.agreement.proofs.Rows.{has_cell, stops, along_fails}
use Rattle.agreement.proofs.row_agrees.Goals as goal
use Rattle.agreement.proofs.row_agrees.Goals.{then-not-agrees_at-via-then-not-agrees_at}
use Rattle.agreement.proofs.row_agrees.Goals.{then-not-agrees_at-via-else-not-agrees_at+then-not-agrees_at-2}

pub returns-then-not-agrees_at : goal.returns-then-not-agrees_at
returns-then-not-agrees_at c =
    elim c.then-not-agrees_at.branch [
      | then-not-agrees_at-via-then-not-agrees_at w ↦ along_fails
          (stops (has_cell c.requires c.requires.lent.some_cols) (sym c.agrees_at.ensures ∙ w.if-not-agrees_at.true))
      | then-not-agrees_at-via-else-not-agrees_at+then-not-agrees_at-2 w ↦ along_fails
          (stops (has_cell c.requires (omega arith)) (sym w.agrees_at-else-not-agrees_at.ensures
          ∙ w.if-not-agrees_at-2.true))
    ]
