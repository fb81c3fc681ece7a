-- `writing::put` meets its contract.
-- Assumes nothing.
use mathlib.Core.Path.{refl}
use Rattle.writing.proofs.put.Goals as goal

pub returns : goal.returns
returns c = record { lands = refl; holds = c.copy.ensures }
