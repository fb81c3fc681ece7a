-- `agreement::inside_agrees` meets its contract. The loop's invariant: `agreed` is the answer from column 1 to before
-- `col`.
-- Assumes nothing.
use mathlib.Core.Path.{sym, ◌∙◌}
use native.Mathlib.Omega.{arith}
use Rattle.agreement.proofs.Rows.{inner_cell, stops, along_with}
use Rattle.agreement.proofs.inside_agrees.Goals as goal

pub loop-col-preserved : goal.loop-col-preserved
loop-col-preserved c =
    along_with _ _ c.loop-col.invariant c.agrees_inside-agreed.ensures
    (λ e. stops (inner_cell c.requires (omega arith) (omega arith)).has (sym c.agrees_inside-agreed.ensures ∙ e))
