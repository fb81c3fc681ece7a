-- `lengthgrids::mark` meets its contract. The invariant: the outlets so far are marked.
-- Assumes nothing.
use mathlib.Core.Path.{refl}
use Rattle.lengthgrids.proofs.Marking.{marked_more}
use Rattle.lengthgrids.proofs.mark.Goals as goal

pub loop-at-preserved : goal.loop-at-preserved
loop-at-preserved c =
    let h = c.loop-at-test.true in
    marked_more refl h (c.requires.1 c.loop-at.at-index h) c.requires.0 c.loop-at.invariant
