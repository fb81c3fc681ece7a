-- `checks::all_different` meets its contract. The loop's invariant: what is left from i on decides.
-- Assumes nothing.
use mathlib.Core.Path.{◌≡◌}
use lib.ListN.{drop}
use Rattle.lists.specs.Lists.{different}
use Rattle.checks.proofs.all_different.Given as goal

abbrev pub invariant-loop-i : goal.invariant-loop-i
invariant-loop-i l = different l.outlets ≡ different (drop l.i l.outlets)
