-- Where the source is and what it turns to: the neighbours that flow in and are not marked.
-- Assumes nothing.
use Rattle.std.specs.Prelude.{◌≡◌, cond, List, ℕ, ◌+◌, ◌*◌, ◌≤◌, ◌<◌, ◌^◌, length, get_or, ltb, Bool, true, false, Option, Some, None}
use Rattle.std.proofs.Math.Option.{Option as Maybe, none, some}
use Rattle.traversal.specs.declared.Position.{Position}
use Rattle.ground.specs.Compass.{Dir, opposite, place_of}
use Rattle.ground.specs.Grid.{Grid, Link, grid_of, neighbour, next}
use Rattle.moves.specs.Moves.{dir_at}
use Rattle.moves.specs.Walks.{inflow_from}
use Rattle.inflows.specs.Values.{Inner}
use Rattle.downstream.specs.Flowing.{Numbered}

-- a neighbour that flows in, if it has no mark
abbrev pub if_unmarked : List ℕ → Maybe ℕ → Maybe ℕ
if_unmarked marks none = none
if_unmarked marks (some y) = cond (ltb (get_or marks y 0) (2 ^ 31)) (some y) none

unfoldable pub unmarked_from : Grid → List ℕ → ℕ → Dir → Maybe ℕ
unmarked_from g marks x d = if_unmarked marks (inflow_from g x d)

abbrev pub is_found : Maybe ℕ → Bool
is_found none = false
is_found (some y) = true

-- is there one to turn to in the k-th direction?
abbrev pub turns_to : Grid → List ℕ → ℕ → ℕ → Bool
turns_to g marks x k = is_found (unmarked_from g marks x (dir_at k))

-- a position on a lent grid with its offsets
abbrev pub OnPosition : ℕ → ℕ → List ℕ → List ℕ → Position → Type 0
OnPosition rows cols codes offsets p = Numbered rows cols codes offsets p.cell.row p.cell.col p.at

-- and marks for each cell
pub record Turning (rows cols : ℕ) (codes offsets marks : List ℕ) (p : Position) : Type 0 where
  pub on : OnPosition rows cols codes offsets p
  pub has_marks : rows * cols ≤ length marks
  pub turn_small : p.turn ≤ 8

-- at a cell of which all eight neighbours are on the grid
pub record InnerTurning (rows cols : ℕ) (codes offsets marks : List ℕ) (p : Position) : Type 0 where
  pub turning : Turning rows cols codes offsets marks p
  pub inner : Inner rows cols p.cell.row p.cell.col

-- the neighbours from the k-th on to before another have none to turn to
pub record Passed (g : Grid) (marks : List ℕ) (x k r : ℕ) : Type 0 where
  pub at_least : k ≤ r
  pub at_most : r ≤ 8
  pub none_there : (j : ℕ) → k ≤ j → j < r → unmarked_from g marks x (dir_at j) ≡ none

-- and that other has; or none of the eight has
pub record NextTurn (g : Grid) (marks : List ℕ) (x k : ℕ) (r : Option ℕ) : Type 0 where
  pub all_passed : r ≡ None → Passed g marks x k 8
  pub passed : (n : ℕ) → r ≡ Some n → Passed g marks x k n
  pub is_turn : (n : ℕ) → r ≡ Some n → n < 8
  pub found : (n : ℕ) → r ≡ Some n → (y : ℕ) × (unmarked_from g marks x (dir_at n) ≡ some y)

-- the k-th neighbour is on the grid
abbrev pub HasNeighbour : Grid → ℕ → ℕ → Type 0
HasNeighbour g x k = (y : ℕ) × (neighbour g x (dir_at k) ≡ some y)

-- and the position after a move there
pub record MovedTo (rows cols : ℕ) (codes offsets : List ℕ) (p : Position) (k turn : ℕ) (r : Position) : Type 0 where
  pub is_there : neighbour (grid_of rows cols codes) p.at (dir_at k) ≡ some r.at
  pub on : OnPosition rows cols codes offsets r
  pub is_turn : r.turn ≡ turn

-- a cell flows to another
abbrev pub HasNext : Grid → ℕ → Type 0
HasNext g x = (h : Link Dir) × (next g x ≡ some h)

-- and the position there turns to what comes after the neighbour that it came from
pub record WentDown (rows cols : ℕ) (codes offsets : List ℕ) (p r : Position) : Type 0 where
  pub step : Dir
  pub flows : next (grid_of rows cols codes) p.at ≡ some (record { cell = r.at; step = step })
  pub on : OnPosition rows cols codes offsets r
  pub is_turn : r.turn ≡ place_of (opposite step) + 1
