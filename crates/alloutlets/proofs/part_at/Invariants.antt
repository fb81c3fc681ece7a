-- `alloutlets::part_at` meets its contract. The invariant: the part would begin after the counts looked at.
-- Assumes nothing.
use mathlib.Core.Path.{◌≡◌}
use Prim.Native.Nat.{◌≤◌}
use lib.ListN.{take}
use Rattle.lists.specs.Lists.{sum_of}
use Rattle.alloutlets.proofs.part_at.Given as goal

abbrev pub invariant-loop-more : goal.invariant-loop-more
invariant-loop-more l = (l.begin ≡ sum_of (take l.more-index l.counts)) × (l.begin ≤ l.n)
