-- `lists::is_among` meets its contract. The loop's invariant: what is left from k on decides.
-- Assumes nothing.
use mathlib.Core.Path.{◌≡◌}
use lib.ListN.{drop}
use Rattle.lists.specs.Lists.{member}
use Rattle.lists.proofs.is_among.Given as goal

abbrev pub invariant-loop-k : goal.invariant-loop-k
invariant-loop-k l = member l.x (drop l.from l.list) ≡ member l.x (drop l.k l.list)
