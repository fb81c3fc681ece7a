-- A network cut at some cells: a cut cell flows nowhere, and is nobody's inflow. Cut at the outlets, what it
-- accumulates is the subaccumulation. Assumes nothing.
use Rattle.std.specs.Prelude.{Bool, cond, not, List, ℕ}
use Rattle.std.proofs.Math.Option.{Option, none}
use Rattle.lists.specs.Lists.{only}
use Rattle.ground.specs.Grid.{Link}

module _ {S : Type 0} (isCut : ℕ → Bool) where
  abbrev pub cut_next : (ℕ → Option (Link S)) → ℕ → Option (Link S)
  cut_next next y = cond (isCut y) none (next y)

  -- the links from cells that are not cut
  abbrev pub uncut : List (Link S) → List (Link S)
  uncut ks = only (λ k. not (isCut k.cell)) ks

  abbrev pub cut_ups : (ℕ → List (Link S)) → ℕ → List (Link S)
  cut_ups ups x = uncut (ups x)
