-- `tracingall::most_cells` meets its contract. The invariant: the most so far, or that of the outlets that are left, is
-- the most of all.
-- Assumes nothing.
use mathlib.Core.Path.{◌≡◌}
use mathlib.Core.List.{map}
use Prim.Native.Nat.{max}
use lib.ListN.{get_or, drop}
use Rattle.lists.specs.Lists.{greatest_of}
use Rattle.tracingall.proofs.most_cells.Given as goal

abbrev pub invariant-loop-outlet : goal.invariant-loop-outlet
invariant-loop-outlet l =
    max l.most (greatest_of (map (λ o. get_or l.subaccumulation o 0) (drop l.outlet-index l.outlets)))
    ≡ greatest_of (map (λ o. get_or l.subaccumulation o 0) l.outlets)
