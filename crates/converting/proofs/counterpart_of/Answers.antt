-- `converting::counterpart_of` meets its contract. The loop's invariant: `found` is the counterpart by the first k places.
-- Assumes nothing.
use mathlib.Core.Path.{refl, ◌∙◌}
use Rattle.converting.specs.Rewriting.{counterpart}
use Rattle.converting.proofs.Rewriting.{found_there, not_there}
use Rattle.converting.proofs.counterpart_of.Goals as goal
use Rattle.converting.proofs.counterpart_of.Goals.{then-known-code, else-known-code}

pub loop-k-init : goal.loop-k-init
unfolding counterpart
loop-k-init c = refl

pub loop-k-preserved : goal.loop-k-preserved
loop-k-preserved c =
    elim c.if-known-code.branch [
      | then-known-code w ↦ w.found-is ∙ found_there _ _ _ _ w.if-known-code.true
      | else-known-code w ↦ w.found-is ∙ not_there _ _ _ _ w.if-known-code.false c.loop-k.invariant
    ]
