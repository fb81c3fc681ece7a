-- `converting::rewrite` meets its contract. The loop's invariant: the first codes are rewritten.
-- Assumes nothing.
use Rattle.converting.specs.Rewriting.{Rewritten}
use Rattle.converting.proofs.rewrite.Given as goal

abbrev pub invariant-loop-at : goal.invariant-loop-at
invariant-loop-at l = Rewritten l.n l.at l.from l.to l.codes l.initial.converted l.converted
