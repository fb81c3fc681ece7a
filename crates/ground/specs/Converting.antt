-- A grid's codes in another table.
-- Assumes nothing.
use Rattle.std.specs.Prelude.{List, map, ℕ, take}
use Rattle.std.proofs.Math.Option.{Option, none, some}
use Rattle.ground.specs.Compass.{Dir}
use Rattle.ground.specs.Tables.{Table, dir_of}
use Rattle.ground.specs.Grid.{Grid, grid_in, cell_count}

-- 02: a cell keeps its direction; a code of no direction, a null cell's or a pond's, is the same in every table
abbrev pub code_by : Table → ℕ → Option Dir → ℕ
code_by to code none = code
code_by to code (some d) = to.code_of d

unfoldable pub recoded : Table → Table → ℕ → ℕ
recoded from to code = code_by to code (dir_of from code)

module _ (g : Grid) (to : Table) where
  -- the code of each cell in the other table
  unfoldable pub converted_codes : List ℕ
  converted_codes = map (recoded g.table to) (take (cell_count g) g.codes)

  -- the grid of them
  abbrev pub converted : Grid
  converted = grid_in to g.rows g.cols converted_codes
