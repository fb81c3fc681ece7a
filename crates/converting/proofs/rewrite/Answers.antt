-- `converting::rewrite` meets its contract. The loop's invariant: the first codes are rewritten.
-- Assumes nothing.
use Rattle.converting.proofs.Rewriting.{rewrite_none, rewrite_next}
use Rattle.converting.proofs.rewrite.Goals as goal

pub loop-at-init : goal.loop-at-init
loop-at-init c = rewrite_none

pub counterpart_of-requires : goal.counterpart_of-requires
counterpart_of-requires c = c.requires.pairs

pub loop-at-preserved : goal.loop-at-preserved
loop-at-preserved c = rewrite_next c.requires c.loop-at-test.true c.loop-at.invariant c.counterpart_of.ensures
