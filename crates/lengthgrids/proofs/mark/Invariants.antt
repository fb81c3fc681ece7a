-- `lengthgrids::mark` meets its contract. The invariant: the outlets so far are marked.
-- Assumes nothing.
use Rattle.lengthgrids.specs.Grids.{MarkedWith}
use Rattle.lengthgrids.proofs.mark.Given as goal

abbrev pub invariant-loop-at : goal.invariant-loop-at
invariant-loop-at l = MarkedWith l.n l.outlets l.at-index l.to l.initial.marks l.marks
