-- The grid: cells and their codes, neighbours, where a cell flows, what flows into it.
-- Assumes nothing.
use Rattle.std.specs.Prelude.{Bool, false, cond, not, List, [], ◌∷◌, map, ℕ, ◌+◌, ◌*◌, ◌/◌, ◌%◌, get_or, eqb, ltb}
use Rattle.std.proofs.Math.Option.{Option, none, some}
use Rattle.ground.specs.Compass.{Dir, dirs, opposite, shifted, row_shift, col_shift}
use Rattle.ground.specs.Tables.{Table, table1, pond, dir_of, points_in}

-- 01, The ground: so many rows and columns, and a code for each cell. The codes stand row by row in the first R × C
-- places of the list; 02: they are of a table
pub record Grid : Type 0 where
  pub table : Table
  pub rows : ℕ
  pub cols : ℕ
  pub codes : List ℕ

abbrev pub grid_in : Table → ℕ → ℕ → List ℕ → Grid
grid_in table rows cols codes = record { table = table; rows = rows; cols = cols; codes = codes }

-- a grid of our table, as all entries but the converter take it
abbrev pub grid_of : ℕ → ℕ → List ℕ → Grid
grid_of = grid_in table1

-- a cell, and the step between it and another
pub record Link (S : Type 0) : Type 0 where
  pub cell : ℕ
  pub step : S

-- the number of the cell in a row and a column, if both are on the grid
abbrev pub cell_at : ℕ → Option ℕ → Option ℕ → Option ℕ
cell_at cols none col = none
cell_at cols (some row) none = none
cell_at cols (some row) (some col) = some (row * cols + col)

module _ (g : Grid) where
  -- the number of cells
  abbrev pub cell_count : ℕ
  cell_count = g.rows * g.cols

  -- the code of a cell; beyond the grid there is no ground
  unfoldable pub code_at : ℕ → ℕ
  code_at x = cond (ltb x cell_count) (get_or g.codes x 0) 0

  -- a null cell, of code 0, has no ground
  abbrev pub ground : ℕ → Bool
  ground x = not (eqb (code_at x) 0)

  -- 02, U4: a pond has ground, and its code points in no direction
  abbrev pub is_pond : ℕ → Bool
  is_pond x = eqb (code_at x) pond

  -- the neighbour in a direction, if it is on the grid: by row and column, and never by the cell number alone
  unfoldable pub neighbour : ℕ → Dir → Option ℕ
  neighbour x d = cell_at g.cols
      (shifted (row_shift d) g.rows (x / g.cols))
      (shifted (col_shift d) g.cols (x % g.cols))

  -- the direction that a cell's code points in
  abbrev pub flow : ℕ → Option Dir
  flow x = dir_of g.table (code_at x)

  -- a step onto a neighbour: not off the grid, nor to a null cell
  abbrev pub onto : Dir → Option ℕ → Option (Link Dir)
  onto d none = none
  onto d (some y) = cond (ground y) (some (record { cell = y; step = d })) none

  abbrev pub along : ℕ → Option Dir → Option (Link Dir)
  along x none = none
  along x (some d) = onto d (neighbour x d)

  -- where a cell flows: a walk ends where this is none, off the grid, before a null cell or at a pond
  unfoldable pub next : ℕ → Option (Link Dir)
  next x = along x (flow x)

  -- a neighbour flows in if its code points back: in the direction opposite to the one in which it lies
  abbrev pub flows_in : Dir → Option ℕ → Bool
  flows_in d none = false
  flows_in d (some y) = points_in g.table (opposite d) (code_at y)

  -- 01's inflow record, a term of its own: in neighbour order, the number of each neighbour that flows in, and 0 for
  -- the others
  abbrev pub inflow_value : List ℕ → Dir → Option ℕ → ℕ
  inflow_value a d none = 0
  inflow_value a d (some y) = cond (flows_in d (some y)) (get_or a y 0) 0

  unfoldable pub inflow_record : List ℕ → ℕ → List ℕ
  inflow_record a x = map (λ d. inflow_value a d (neighbour x d)) dirs

  -- the neighbours that flow in, in order, each with its step down
  abbrev pub inflow : Dir → Option ℕ → List (Link Dir) → List (Link Dir)
  inflow d none ks = ks
  inflow d (some y) ks = cond (flows_in d (some y)) (record { cell = y; step = opposite d } ∷ ks) ks

  abbrev pub inflows_from : List Dir → ℕ → List (Link Dir)
  inflows_from [] x = []
  inflows_from (d ∷ ds) x = inflow d (neighbour x d) (inflows_from ds x)

  -- those of a cell of ground
  unfoldable pub inflows : ℕ → List (Link Dir)
  inflows x = cond (ground x) (inflows_from dirs x) []
