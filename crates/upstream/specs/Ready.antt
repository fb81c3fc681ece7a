-- What an engine takes for granted: sizes, agreement of some accumulation, and the subaccumulation in the words of a lent
-- grid, which may have notes above it.
-- Assumes nothing.
use Rattle.std.specs.Prelude.{◌≡◌, Bool, true, ◌&&◌, List, ℕ, ◌+◌, ◌-◌, ◌*◌, ◌≤◌, ◌<◌, length, get_or}
use Rattle.lengths.specs.declared.Length.{Length}
use Rattle.lengths.specs.Lengths.{farthest}
use Rattle.ground.specs.Compass.{Dir, squares}
use Rattle.ground.specs.Grid.{Grid, grid_of, ground}
use Rattle.ground.specs.Walk.{At}
use Rattle.ground.specs.Accumulation.{agrees, subaccumulation}
use Rattle.ground.specs.Subwatershed.{in_subwatershed}
use Rattle.ground.specs.Forest.{Which, forest}
use Rattle.moves.specs.Lent.{LentGrid}
use Rattle.search.specs.Search.{State, below_greatest, tracing_rule, search_from}
use Rattle.search.specs.Editions.{meets_by}
use Rattle.notes.specs.Notes.{cells_held, met_by}
use Rattle.progress.specs.declared.Progress.{Progress}
use Rattle.progress.specs.Starts.{state_of}

pub record Ready (rows cols : ℕ) (codes outlets subaccumulations : List ℕ) : Type 0 where
  pub grid : LentGrid rows cols codes
  pub has_subaccumulations : rows * cols ≤ length subaccumulations
  pub lent : List ℕ
  pub agreed : agrees (grid_of rows cols codes) lent ≡ true
  pub filled : (x : ℕ) → x < rows * cols → cells_held (get_or subaccumulations x 0)
      ≡ subaccumulation (grid_of rows cols codes) outlets x

-- at which cells a length is met by an edition, as their words tell
abbrev pub met_in : ℕ → List ℕ → Which Dir
met_in edition subaccumulations c above = met_by edition (get_or subaccumulations c 0)

-- and they tell it rightly of the subwatershed of o
abbrev pub MetAt : ℕ → Grid → List ℕ → ℕ → List ℕ → Type 0
MetAt edition g outlets o subaccumulations = (x : ℕ) → in_subwatershed g outlets o x ≡ true
    → met_in edition subaccumulations x (forest g outlets x) ≡ meets_by edition g outlets o x (forest g outlets x)

-- the cells of the subwatershed that drain through a cell
abbrev pub cells_at : ℕ → ℕ → List ℕ → List ℕ → ℕ → ℕ → ℕ
cells_at rows cols codes outlets row col = subaccumulation (grid_of rows cols codes) outlets (row * cols + col)

-- the rule's test of a neighbour of n cells, by its own length: that of the cell it is entered from and the step
abbrev pub drops_at : Bool → List (At Length) → Length → ℕ → Bool
drops_at dropping gs own n = dropping && below_greatest squares gs (farthest squares own (n - 1))

-- a cell of ground, by its row and column
pub record OnGround (rows cols : ℕ) (codes : List ℕ) (row col : ℕ) : Type 0 where
  pub row_in : row < rows
  pub col_in : col < cols
  pub solid : ground (grid_of rows cols codes) (row * cols + col) ≡ true

-- the search's own state, its starts before an end, and its counts
pub record Searched (g : Grid) (outlets : List ℕ) (met : Which Dir) (dropping : Bool) (o end : ℕ) (r : Progress)
    (new : List ℕ) : Type 0 where
  pub state : ◌≡◌ {A = State squares} (state_of r new end)
      (search_from squares (tracing_rule squares met dropping) o (forest g outlets o))
  pub all_cells : r.visited + r.dropped ≡ subaccumulation g outlets o
  pub few_paths : r.paths ≤ r.visited
