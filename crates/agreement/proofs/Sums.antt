-- The sum of the inflows of 32 bits each is far below 2 ^ 64.
-- Assumes nothing.
use mathlib.Core.Bool.{Bool, true, false, cond}
use mathlib.Core.List.{List, [], ◌∷◌, map}
use mathlib.Core.Option.{Option, none, some}
use Prim.Native.Nat.{ℕ, ◌*◌, ◌≤◌, ◌<◌, ◌^◌}
use native.Mathlib.Omega.{arith}
use lib.ListN.{length, get_or}
use Rattle.lists.specs.Lists.{sum_of}
use Rattle.ground.specs.Compass.{Dir, dirs}
use Rattle.ground.specs.Grid.{Grid, flows_in, neighbour, inflow_value, inflow_record}

module _ (g : Grid) (a : List ℕ) (small : (y : ℕ) → get_or a y 0 < 2 ^ 32) where
  value_small : (d : Dir) (o : Option ℕ) → inflow_value g a d o < 2 ^ 32
  value_small d none = omega arith
  value_small d (some y) = go (flows_in g d (some y))
    where
      go : (b : Bool) → cond b (get_or a y 0) 0 < 2 ^ 32
      go true = small y
      go false = omega arith

  sum_small : (x : ℕ) (ds : List Dir)
      → sum_of (map (λ d. inflow_value g a d (neighbour g x d)) ds) ≤ length ds * 2 ^ 32
  unfolding sum_of
  sum_small x [] = omega arith
  sum_small x (d ∷ ds) = omega (arith, value_small d (neighbour g x d), sum_small x ds)

  pub record_small : (x : ℕ) → sum_of (inflow_record g a x) ≤ 8 * 2 ^ 32
  unfolding inflow_record
  record_small x = sum_small x dirs
