-- What the functions of the source hand back: the step of a code, the neighbours in order, the cell that a shift leads
-- to. Assumes nothing.
use Rattle.std.specs.Prelude.{◌≡◌, ℕ, ◌+◌, ◌*◌, ◌≤◌, ◌<◌, get_or, Option, Some, None}
use Rattle.std.proofs.Math.Option.{Option as Maybe, none, some}
use Rattle.cells.specs.declared.Cell.{Cell}
use Rattle.lengths.specs.declared.Step.{Step}
use Rattle.lengths.specs.declared.Step.TheVariants.{Straight}
use Rattle.moves.specs.declared.Move.{Move}
use Rattle.moves.specs.declared.Neighbour.{Neighbour}
use Rattle.ground.specs.Compass.{Dir, NE, dirs, opposite, step_of, Shift, less, as_is, more, row_shift, col_shift, shifted}
use Rattle.ground.specs.Tables.{table1, dir_of}
use Rattle.ground.specs.Grid.{cell_at}
use Rattle.moves.specs.Lent.{Sides}

-- a shift as a number: the change plus one, so that no number is negative
abbrev pub shift_number : Shift → ℕ
shift_number less = 0
shift_number as_is = 1
shift_number more = 2

-- 01: what the code of a direction gives, the change of row and of column and whether the step is straight or diagonal
abbrev pub move_of : Dir → Move
move_of d = record { row = shift_number (row_shift d); col = shift_number (col_shift d); step = step_of d }

-- a lead by a move of these numbers
abbrev pub by_move : ℕ → ℕ → Step → Option Move
by_move row col step = Some (record { row = row; col = col; step = step })

-- the code of a null cell or of a pond leads nowhere, as does what is no code
abbrev pub lead_by : Maybe Dir → Option Move
lead_by none = None
lead_by (some d) = Some (move_of d)

-- where a code byte leads
unfoldable pub lead_of : ℕ → Option Move
lead_of code = lead_by (dir_of table1 code)

-- a code byte leads by a move
abbrev pub LeadsBy : ℕ → Move → Type 0
LeadsBy code m = Some m ≡ lead_of code

-- the step of a lead
abbrev pub step_by : Option Move → Step
step_by None = Straight
step_by (Some m) = m.step

-- a cell of the grid, and a change of its row and of its column
pub record InReach (rows cols row col down right : ℕ) : Type 0 where
  pub sides : Sides rows cols
  pub row_in : row < rows
  pub col_in : col < cols
  pub down_small : down ≤ 2
  pub right_small : right ≤ 2

-- the number of the cell that is found
abbrev pub spot_cell : ℕ → Option Cell → Maybe ℕ
spot_cell cols None = none
spot_cell cols (Some cell) = some (cell.row * cols + cell.col)

-- what lies in a direction is the neighbour, and on the grid
pub record Spotted (rows cols row col down right : ℕ) (r : Option Cell) : Type 0 where
  pub is_cell : (d : Dir) → down ≡ shift_number (row_shift d) → right ≡ shift_number (col_shift d)
      → spot_cell cols r ≡ cell_at cols (shifted (row_shift d) rows row) (shifted (col_shift d) cols col)
  pub row_in : (cell : Cell) → r ≡ Some cell → cell.row < rows
  pub col_in : (cell : Cell) → r ≡ Some cell → cell.col < cols

-- the neighbours by their places in 01's order
abbrev pub dir_at : ℕ → Dir
dir_at k = get_or dirs k NE

-- a neighbour of these numbers
abbrev pub near_by : ℕ → ℕ → ℕ → Neighbour
near_by row col back = record { row = row; col = col; back = back }

-- the neighbour in a direction, with the code by which it flows in
abbrev pub neighbour_of : Dir → Neighbour
neighbour_of d = near_by (shift_number (row_shift d)) (shift_number (col_shift d)) (table1.code_of (opposite d))
