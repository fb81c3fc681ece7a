-- What the functions of the cycle ask and promise, in the words of the search.
-- Assumes nothing.
use Rattle.std.specs.Prelude.{◌≡◌, Bool, true, List, ℕ, ◌+◌, ◌*◌, ◌≤◌, ◌<◌, length, get_or, drop, Option, Some, None}
use Rattle.std.proofs.Math.Option.{none, some}
use Rattle.lengths.specs.declared.Length.{Length}
use Rattle.ground.specs.Compass.{Dir, dirs, opposite, step_of, squares}
use Rattle.ground.specs.Grid.{grid_of, ground}
use Rattle.ground.specs.Accumulation.{subaccumulation}
use Rattle.ground.specs.Forest.{Which}
use Rattle.moves.specs.Lent.{OnCell}
use Rattle.moves.specs.Moves.{dir_at}
use Rattle.search.specs.Search.{State, tracing_rule}
use Rattle.search.specs.Neighbours.{inflow_in, cells_in, turn_to, enter}
use Rattle.notes.specs.Notes.{cells_held, met_by}
use Rattle.progress.specs.declared.Progress.{Progress}
use Rattle.progress.specs.Starts.{state_of, Visited}
use Rattle.upstream.specs.Ready.{Searched}
use Rattle.recursion.specs.declared.Turn.{Turn}

-- the turn to neighbour k, at a row and a column: its cells by what is lent, and its step down
abbrev pub turn_at : ℕ → List ℕ → ℕ → ℕ → ℕ → Turn
turn_at cols subaccumulations k row col = record {
  k = k;
  cell = record { row = row; col = col };
  cells = cells_held (get_or subaccumulations (row * cols + col) 0);
  step = step_of (opposite (dir_at k));
}

-- a cell whose neighbours are looked at, from k on
pub record TurnReady (rows cols : ℕ) (codes subaccumulations : List ℕ) (row col k : ℕ) : Type 0 where
  pub on : OnCell rows cols codes row col
  pub has_subaccumulations : rows * cols ≤ length subaccumulations
  pub within : k ≤ 8

-- in no direction from k on and before n is there something to turn to
abbrev pub NoneThere : (rows cols : ℕ) (codes outlets : List ℕ) (row col k n : ℕ) → Type 0
NoneThere rows cols codes outlets row col k n = (i : ℕ) → k ≤ i → i < n
    → inflow_in (grid_of rows cols codes) outlets (row * cols + col) (dir_at i) ≡ none

-- a turn is to the next direction, from k on, in which there is something to turn to
pub record IsNext (rows cols : ℕ) (codes outlets subaccumulations : List ℕ) (row col k : ℕ) (t : Turn) : Type 0 where
  pub from : k ≤ t.k
  pub last : t.k < 8
  pub skipped : NoneThere rows cols codes outlets row col k t.k
  pub there : inflow_in (grid_of rows cols codes) outlets (row * cols + col) (dir_at t.k) ≡ some (t.cell.row * cols + t.cell.col)
  pub row_in : t.cell.row < rows
  pub col_in : t.cell.col < cols
  pub is_turn : t ≡ turn_at cols subaccumulations t.k t.cell.row t.cell.col

-- the next turn, from k on, or none where there is none
abbrev pub NextTurn : (rows cols : ℕ) (codes outlets subaccumulations : List ℕ) (row col k : ℕ) → Option Turn → Type 0
NextTurn rows cols codes outlets subaccumulations row col k None = NoneThere rows cols codes outlets row col k 8
NextTurn rows cols codes outlets subaccumulations row col k (Some t) =
    IsNext rows cols codes outlets subaccumulations row col k t

-- a cell was visited, and its length met if its word says so by the edition
pub record VisitedAt (edition : ℕ) (subaccumulations : List ℕ) (x : ℕ) (len : Length) (p : Progress) (old : List ℕ)
    (r : Progress) (new : List ℕ) : Type 0 where
  pub visited : Visited old new 4096 x (met_by edition (get_or subaccumulations x 0)) len p r
  pub room : length new ≡ length old

-- the search has this many cells to go at most, of the 4,096 for which there is room; lengths are no more than cells
pub record Bounded (cells steps : ℕ) (p : Progress) : Type 0 where
  pub cells_fit : p.visited + p.dropped + cells ≤ 4096
  pub steps_fit : steps + cells ≤ 4096
  pub few_paths : p.paths ≤ p.visited

pub record CellReady (rows cols : ℕ) (codes outlets : List ℕ) (row col : ℕ) (len : Length) (p : Progress)
    (found : List ℕ) : Type 0 where
  pub room : length found ≡ 4096
  pub row_in : row < rows
  pub col_in : col < cols
  pub solid : ground (grid_of rows cols codes) (row * cols + col) ≡ true
  pub bounded : Bounded (subaccumulation (grid_of rows cols codes) outlets (row * cols + col))
      (len.straight + len.diagonal) p

pub record InflowsReady (rows cols : ℕ) (codes outlets : List ℕ) (row col : ℕ) (len : Length) (k : ℕ) (p : Progress)
    (found : List ℕ) : Type 0 where
  pub room : length found ≡ 4096
  pub row_in : row < rows
  pub col_in : col < cols
  pub solid : ground (grid_of rows cols codes) (row * cols + col) ≡ true
  pub within : k ≤ 8
  pub bounded : Bounded (cells_in (grid_of rows cols codes) outlets (drop k dirs) (row * cols + col))
      (len.straight + len.diagonal + 1) p

-- so many cells were visited or dropped
pub record Counted (cells : ℕ) (p r : Progress) : Type 0 where
  pub cells_done : r.visited + r.dropped ≡ p.visited + p.dropped + cells
  pub few_paths : r.paths ≤ r.visited

-- a cell was entered
pub record CellTraced (rows cols : ℕ) (codes outlets : List ℕ) (met : Which Dir) (dropping : Bool) (row col : ℕ)
    (len : Length) (p : Progress) (old : List ℕ) (r : Progress) (new : List ℕ) : Type 0 where
  pub state : ◌≡◌ {A = State squares} (state_of r new 4096)
      (enter squares (tracing_rule squares met dropping) (grid_of rows cols codes) outlets (row * cols + col) len
      (state_of p old 4096))
  pub room : length new ≡ 4096
  pub counted : Counted (subaccumulation (grid_of rows cols codes) outlets (row * cols + col)) p r

-- the neighbours from k on were turned to
pub record InflowsTraced (rows cols : ℕ) (codes outlets : List ℕ) (met : Which Dir) (dropping : Bool) (row col : ℕ)
    (len : Length) (k : ℕ) (p : Progress) (old : List ℕ) (r : Progress) (new : List ℕ) : Type 0 where
  pub state : ◌≡◌ {A = State squares} (state_of r new 4096)
      (turn_to squares (tracing_rule squares met dropping) (grid_of rows cols codes) outlets (drop k dirs) (row * cols + col)
      len (state_of p old 4096))
  pub room : length new ≡ 4096
  pub counted : Counted (cells_in (grid_of rows cols codes) outlets (drop k dirs) (row * cols + col)) p r

-- the whole search, with the starts before the end of the array
pub record Traced (rows cols : ℕ) (codes outlets : List ℕ) (met : Which Dir) (dropping : Bool) (row col : ℕ)
    (r : Progress) (new : List ℕ) : Type 0 where
  pub searched : Searched (grid_of rows cols codes) outlets met dropping (row * cols + col) 4096 r new
  pub room : length new ≡ 4096
