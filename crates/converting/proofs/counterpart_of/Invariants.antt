-- `converting::counterpart_of` meets its contract. The loop's invariant: `found` is the counterpart by the first k places.
-- Assumes nothing.
use mathlib.Core.Path.{◌≡◌}
use Rattle.converting.specs.Rewriting.{counterpart}
use Rattle.converting.proofs.counterpart_of.Given as goal

abbrev pub invariant-loop-k : goal.invariant-loop-k
invariant-loop-k l = l.found ≡ counterpart l.k l.from l.to l.code
