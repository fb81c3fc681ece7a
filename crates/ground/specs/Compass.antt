-- The eight directions: their order and their steps.
-- Assumes nothing.
use Rattle.std.specs.Prelude.{cond, List, [], ◌∷◌, ℕ, zero, suc, ltb}
use Rattle.std.proofs.Math.Option.{Option, none, some}
use Rattle.lengths.specs.declared.Step.{Step}
use Rattle.lengths.specs.declared.Step.TheVariants.{Straight, Diagonal}
use Rattle.lengths.specs.Lengths.{Lengths, square_cells, stepped_by}

pub data Dir : Type 0 where
  E SE S SW W NW N NE : Dir

-- 01's neighbour order: clockwise from east
abbrev pub dirs : List Dir
dirs = E ∷ SE ∷ S ∷ SW ∷ W ∷ NW ∷ N ∷ NE ∷ []

-- a direction's place in that order
abbrev pub place_of : Dir → ℕ
place_of E = 0
place_of SE = 1
place_of S = 2
place_of SW = 3
place_of W = 4
place_of NW = 5
place_of N = 6
place_of NE = 7

abbrev pub opposite : Dir → Dir
opposite E = W
opposite SE = NW
opposite S = N
opposite SW = NE
opposite W = E
opposite NW = SE
opposite N = S
opposite NE = SW

-- one less, the same, one more: of a row or a column number
pub data Shift : Type 0 where
  less as_is more : Shift

-- row numbers grow to the south, column numbers to the east
abbrev pub row_shift : Dir → Shift
row_shift E = as_is
row_shift SE = more
row_shift S = more
row_shift SW = more
row_shift W = as_is
row_shift NW = less
row_shift N = less
row_shift NE = less

abbrev pub col_shift : Dir → Shift
col_shift E = more
col_shift SE = more
col_shift S = as_is
col_shift SW = less
col_shift W = less
col_shift NW = less
col_shift N = as_is
col_shift NE = more

-- a number shifted, if it stays below the bound
abbrev pub shifted : Shift → ℕ → ℕ → Option ℕ
shifted less bound zero = none
shifted less bound (suc x) = some x
shifted as_is bound x = some x
shifted more bound x = cond (ltb (suc x) bound) (some (suc x)) none

-- whether a direction's step is straight or diagonal
abbrev pub step_of : Dir → Step
step_of E = Straight
step_of SE = Diagonal
step_of S = Straight
step_of SW = Diagonal
step_of W = Straight
step_of NW = Diagonal
step_of N = Straight
step_of NE = Diagonal

-- lengths of square cells by directions
abbrev pub squares : Lengths Dir
squares = stepped_by step_of SE square_cells
