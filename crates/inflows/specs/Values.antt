-- The inflow record as the source fills it, value by value.
-- Assumes nothing.
use Rattle.std.specs.Prelude.{◌≡◌, Bool, List, ℕ, ◌+◌, ◌*◌, ◌≤◌, ◌<◌, length}
use Rattle.std.proofs.Math.Option.{some}
use Rattle.inflows.specs.declared.Beside.{Beside}
use Rattle.ground.specs.Grid.{Grid, grid_of, neighbour, flows_in, inflow_value}
use Rattle.moves.specs.Lent.{OnCell}
use Rattle.moves.specs.Moves.{dir_at}

-- what the inflow record holds at place k
abbrev pub value_at : Grid → List ℕ → ℕ → ℕ → ℕ
value_at g a x k = inflow_value g a (dir_at k) (neighbour g x (dir_at k))

-- does neighbour k flow in?
abbrev pub flows_at : Grid → ℕ → ℕ → Bool
flows_at g x k = flows_in g (dir_at k) (neighbour g x (dir_at k))

-- a cell of a grid whose codes and accumulation are lent
pub record HasCell (rows cols : ℕ) (codes accumulation : List ℕ) (row col : ℕ) : Type 0 where
  pub on : OnCell rows cols codes row col
  pub has_accumulation : rows * cols ≤ length accumulation

-- a cell of which all eight neighbours are on the grid
pub record Inner (rows cols row col : ℕ) : Type 0 where
  pub has_above : 1 ≤ row
  pub has_below : row + 1 < rows
  pub has_left : 1 ≤ col
  pub has_right : col + 1 < cols

-- such a cell of a grid whose codes are lent
pub record InnerOn (rows cols : ℕ) (codes : List ℕ) (row col : ℕ) : Type 0 where
  pub on : OnCell rows cols codes row col
  pub inner : Inner rows cols row col

-- and one of a grid whose codes and accumulation are lent
pub record InnerCell (rows cols : ℕ) (codes accumulation : List ℕ) (row col : ℕ) : Type 0 where
  pub has : HasCell rows cols codes accumulation row col
  pub inner : Inner rows cols row col

-- neighbour k of an inner cell: its number, and whether it flows in
pub record LiesBeside (rows cols : ℕ) (codes : List ℕ) (row col k : ℕ) (r : Beside) : Type 0 where
  pub inside : r.at < rows * cols
  pub is_there : neighbour (grid_of rows cols codes) (row * cols + col) (dir_at k) ≡ some r.at
  pub is_inflow : r.flows ≡ flows_at (grid_of rows cols codes) (row * cols + col) k
