-- The search neighbour by neighbour, over a grid: the words in which the engines promise it.
-- Assumes nothing.
use Rattle.std.specs.Prelude.{cond, not, ◌&&◌, List, [], ◌∷◌, ℕ, ◌+◌}
use Rattle.std.proofs.Math.Option.{Option, none, some}
use Rattle.lengths.specs.Lengths.{Lengths}
use Rattle.lists.specs.Lists.{member}
use Rattle.ground.specs.Compass.{Dir, dirs}
use Rattle.ground.specs.Grid.{Grid, neighbour, flows_in, inflows, inflows_from}
use Rattle.ground.specs.Accumulation.{subaccumulation}
use Rattle.ground.specs.Forest.{grow, forest}
use Rattle.search.specs.Search.{State, Rule, visit, search_above}

-- the neighbour of x in a direction, if it flows in and is no outlet: what the search turns to there
abbrev pub unless_outlet : Grid → List ℕ → Dir → Option ℕ → Option ℕ
unless_outlet g outlets d none = none
unless_outlet g outlets d (some y) = cond (flows_in g d (some y) && not (member y outlets)) (some y) none

unfoldable pub inflow_in : Grid → List ℕ → ℕ → Dir → Option ℕ
inflow_in g outlets x d = unless_outlet g outlets d (neighbour g x d)

-- the cells of what the search turns to, over these directions
abbrev pub cells_of : Grid → List ℕ → Option ℕ → ℕ
cells_of g outlets none = 0
cells_of g outlets (some y) = subaccumulation g outlets y

unfoldable pub cells_in : Grid → List ℕ → List Dir → ℕ → ℕ
cells_in g outlets [] x = 0
cells_in g outlets (d ∷ ds) x = cells_of g outlets (inflow_in g outlets x d) + cells_in g outlets ds x

module _ (𝓛 : Lengths Dir) (rule : Rule 𝓛) (g : Grid) (outlets : List ℕ) where
  open 𝓛 use {Len}

  -- what the search does with those neighbours of x that lie in these directions, from length d
  unfoldable pub turn_to : List Dir → ℕ → Len → State 𝓛 → State 𝓛
  turn_to ds x d st =
      search_above 𝓛 rule d st (grow (inflows g) (λ c. member c outlets) (forest g outlets) (inflows_from g ds x))

  -- a cell is visited at length l, then all its neighbours
  unfoldable pub enter : ℕ → Len → State 𝓛 → State 𝓛
  enter y l st = turn_to dirs y l (visit 𝓛 rule st y l (forest g outlets y))
