-- `counting::flows_in` meets its contract, by the neighbour that is found.
-- Assumes nothing.
use mathlib.Core.Path.{◌∙◌}
use Rattle.counting.proofs.Words.{flows_if}
use Rattle.counting.proofs.flows_in.Goals as goal

pub returns : goal.returns
returns c = c.is_some.ensures ∙ flows_if _ c.inflow_from.ensures
