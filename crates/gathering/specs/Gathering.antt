-- The cells of a subwatershed, listed from the outlet on and noted as inside.
-- Assumes nothing.
use Rattle.std.specs.Prelude.{◌≡◌, true, cond, List, [], ◌∷◌, ◌++◌, map, ℕ, ◌+◌, ◌-◌, ◌*◌, ◌/◌, ◌%◌, ◌≤◌, ◌<◌, length, get_or, set, take}
use Rattle.std.proofs.Math.Option.{Option, none, some}
use Rattle.lists.specs.Lists.{member}
use Rattle.lists.specs.Slices.{Kept}
use Rattle.ground.specs.Compass.{Dir}
use Rattle.ground.specs.Grid.{Grid, grid_of, ground}
use Rattle.ground.specs.Accumulation.{agrees, subaccumulation}
use Rattle.ground.specs.Subwatershed.{in_subwatershed}
use Rattle.search.specs.Neighbours.{inflow_in}
use Rattle.moves.specs.Lent.{LentGrid, OnCell}
use Rattle.notes.specs.Notes.{with_inside, Noted}

-- a cell stands in a list as row × 4,096 + column
abbrev pub cell_of : ℕ → ℕ → ℕ
cell_of cols number = number / 4096 * cols + number % 4096

-- the cells of the first n numbers
abbrev pub listed : ℕ → List ℕ → ℕ → List ℕ
listed cols list n = map (cell_of cols) (take n list)

-- all of them on the grid
pub record OnList (rows cols : ℕ) (list : List ℕ) (n : ℕ) : Type 0 where
  pub within : n ≤ length list
  pub row_in : (i : ℕ) → i < n → get_or list i 0 / 4096 < rows
  pub col_in : (i : ℕ) → i < n → get_or list i 0 % 4096 < cols

-- what flows into a cell from these directions and is no outlet
abbrev pub with_some : Option ℕ → List ℕ → List ℕ
with_some none ys = ys
with_some (some y) ys = y ∷ ys

unfoldable pub tributaries : Grid → List ℕ → ℕ → List Dir → List ℕ
tributaries g outlets x [] = []
tributaries g outlets x (d ∷ ds) = with_some (inflow_in g outlets x d) (tributaries g outlets x ds)

-- these cells, of n, are noted as inside, and no word else changes
pub record Enters (n : ℕ) (cells old new : List ℕ) : Type 0 where
  pub kept : Kept n old new
  pub words : (x : ℕ) → get_or new x 0 ≡ cond (member x cells) (with_inside (get_or old x 0)) (get_or old x 0)

-- these cells follow the first n of a list; there are r now, and none of those before or beyond changed
pub record Follow (rows cols : ℕ) (cells : List ℕ) (n : ℕ) (old : List ℕ) (r : ℕ) (new : List ℕ) : Type 0 where
  pub listed_are : listed cols new r ≡ listed cols old n ++ cells
  pub count : r ≡ n + length cells
  pub on_list : OnList rows cols new r
  pub before : (i : ℕ) → i < n → get_or new i 0 ≡ get_or old i 0
  pub kept : Kept r old new

-- a cell whose inflows are to be listed, and room for so many
pub record CanFollow (rows cols : ℕ) (codes outlets : List ℕ) (row col n : ℕ) (grid list : List ℕ) (more : ℕ)
    : Type 0 where
  pub on : OnCell rows cols codes row col
  pub noted : Noted (grid_of rows cols codes) outlets grid
  pub on_list : OnList rows cols list n
  pub room : n + more ≤ length list

-- the tributaries of a cell from these directions are entered and follow in the list
pub record ListsFrom (rows cols : ℕ) (codes outlets : List ℕ) (row col : ℕ) (ds : List Dir) (n : ℕ) (grid list : List ℕ)
    (r : ℕ) (grid' list' : List ℕ) : Type 0 where
  pub follow : Follow rows cols (tributaries (grid_of rows cols codes) outlets (row * cols + col) ds) n list r list'
  pub enters : Enters (rows * cols) (tributaries (grid_of rows cols codes) outlets (row * cols + col) ds) grid grid'

-- a list in which number k and number l changed places
unfoldable pub exchanged : List ℕ → ℕ → ℕ → List ℕ
exchanged list k l = set (set list l (get_or list k 0)) k (get_or list l 0)

-- the last of n numbers stands at k now, and is answered
pub record NewestFirst (k n : ℕ) (list : List ℕ) (r : ℕ) (list' : List ℕ) : Type 0 where
  pub list_is : list' ≡ exchanged list k (n - 1)
  pub number : r ≡ get_or list' k 0

-- an outlet of the list, with room for the cells of its subwatershed
pub record CanGather (rows cols : ℕ) (codes outlets : List ℕ) (row col : ℕ) (grid list : List ℕ) : Type 0 where
  pub grid_lent : LentGrid rows cols codes
  pub accumulation : List ℕ
  pub agreed : agrees (grid_of rows cols codes) accumulation ≡ true
  pub row_in : row < rows
  pub col_in : col < cols
  pub solid : ground (grid_of rows cols codes) (row * cols + col) ≡ true
  pub outlet_is : member (row * cols + col) outlets ≡ true
  pub noted : Noted (grid_of rows cols codes) outlets grid
  pub room : subaccumulation (grid_of rows cols codes) outlets (row * cols + col) ≤ length list

-- the cells of its subwatershed, and no others, are listed and entered
pub record Gathers (rows cols : ℕ) (codes outlets : List ℕ) (o : ℕ) (grid list : List ℕ) (r : ℕ) (grid' list' : List ℕ)
    : Type 0 where
  pub on_list : OnList rows cols list' r
  pub cells : (c : ℕ) → member c (listed cols list' r) ≡ in_subwatershed (grid_of rows cols codes) outlets o c
  pub few : r ≤ subaccumulation (grid_of rows cols codes) outlets o
  pub kept : Kept (subaccumulation (grid_of rows cols codes) outlets o) list list'
  pub enters : Enters (rows * cols) (listed cols list' r) grid grid'
