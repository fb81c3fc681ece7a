-- Where a cell flows, what flows into it, and the walk, as the source finds them.
-- Assumes nothing.
use Rattle.std.specs.Prelude.{◌≡◌, cond, List, ℕ, ◌+◌, ◌*◌, ◌<◌, ◌^◌, Option, Some, None}
use Rattle.std.proofs.Math.Option.{Option as Maybe, none, some}
use Rattle.cells.specs.declared.Cell.{Cell}
use Rattle.lengths.specs.declared.Length.{Length}
use Rattle.moves.specs.declared.Walk.{Walk}
use Rattle.ground.specs.Compass.{Dir, squares}
use Rattle.ground.specs.Grid.{Grid, grid_of, neighbour, next, flows_in}
use Rattle.ground.specs.Walk.{At, stride}
use Rattle.moves.specs.Lent.{OnCell}
use Rattle.moves.specs.Moves.{spot_cell, dir_at}

-- a cell flows to another, in some direction
abbrev pub Flows : Grid → ℕ → ℕ → Type 0
Flows g x y = (d : Dir) × (next g x ≡ some (record { cell = y; step = d }))

-- the cell that a cell flows to, or none where its walk ends
pub record FlowsTo (g : Grid) (x : ℕ) (r : Option Cell) : Type 0 where
  pub ends_here : r ≡ None → next g x ≡ none
  pub goes_on : (cell : Cell) → r ≡ Some cell → Flows g x (cell.row * g.cols + cell.col)
  pub row_in : (cell : Cell) → r ≡ Some cell → cell.row < g.rows
  pub col_in : (cell : Cell) → r ≡ Some cell → cell.col < g.cols

-- the neighbour in a direction, if it flows in
abbrev pub if_flows_in : Grid → Dir → Maybe ℕ → Maybe ℕ
if_flows_in g d none = none
if_flows_in g d (some y) = cond (flows_in g d (some y)) (some y) none

unfoldable pub inflow_from : Grid → ℕ → Dir → Maybe ℕ
inflow_from g x d = if_flows_in g d (neighbour g x d)

-- neighbour k of a cell, or none where none flows in from there
pub record FlowsFrom (rows cols : ℕ) (codes : List ℕ) (row col k : ℕ) (r : Option Cell) : Type 0 where
  pub is_cell : spot_cell cols r ≡ inflow_from (grid_of rows cols codes) (row * cols + col) (dir_at k)
  pub row_in : (cell : Cell) → r ≡ Some cell → cell.row < rows
  pub col_in : (cell : Cell) → r ≡ Some cell → cell.col < cols

-- 01: the state of a walk, its cell and its straight and diagonal steps
abbrev pub state_of : ℕ → Walk → At Length
state_of cols w = record { cell = w.cell.row * cols + w.cell.col; len = w.length }

-- one step of it; at the walk's end the state stays
unfoldable pub stepped_on : Grid → At Length → At Length
stepped_on g s = elim (stride squares (next g) s) [ none ↦ s | some t ↦ t ]

-- a walk on the grid; its counts are below the largest number of cells, so that one more fits
pub record OnGrid (rows cols : ℕ) (codes : List ℕ) (w : Walk) : Type 0 where
  pub on : OnCell rows cols codes w.cell.row w.cell.col
  pub straight_small : w.length.straight < 2 ^ 24
  pub diagonal_small : w.length.diagonal < 2 ^ 24

-- the walk after one step, still on the grid
pub record WalkedOn (g : Grid) (w r : Walk) : Type 0 where
  pub is_state : state_of g.cols r ≡ stepped_on g (state_of g.cols w)
  pub row_in : r.cell.row < g.rows
  pub col_in : r.cell.col < g.cols
