-- Which cells of the lent grid are noted as enclosed, and how the notes come and go.
-- Assumes nothing.
use Rattle.std.specs.Prelude.{◌≡◌, Bool, true, false, cond, not, ◌&&◌, ◌||◌, List, [], ◌∷◌, ℕ, ◌*◌, ◌≤◌, ◌<◌, ◌^◌, length, get_or, ltb}
use Rattle.std.proofs.Math.Option.{Option, none, some}
use Rattle.lists.specs.Lists.{member}
use Rattle.lists.specs.Slices.{Kept}
use Rattle.ground.specs.Compass.{Dir, dirs}
use Rattle.ground.specs.Grid.{Grid, grid_of, neighbour, ground}
use Rattle.ground.specs.Accumulation.{agrees, subaccumulation}
use Rattle.ground.specs.Subwatershed.{in_subwatershed}
use Rattle.ground.specs.Divide.{on_divide}
use Rattle.moves.specs.Lent.{LentGrid, OnCell}
use Rattle.notes.specs.Notes.{cells_held, with_outlet, with_enclosed, without_inside, Noted}
use Rattle.gathering.specs.Gathering.{listed, OnList}

-- these cells, of n, have their words changed so, and no others
pub record Changes (change : ℕ → ℕ) (n : ℕ) (which : ℕ → Bool) (old new : List ℕ) : Type 0 where
  pub kept : Kept n old new
  pub words : (x : ℕ) → get_or new x 0 ≡ cond (which x) (change (get_or old x 0)) (get_or old x 0)

-- the outlets are noted
abbrev pub NotesOutlets : ℕ → List ℕ → List ℕ → List ℕ → Type 0
NotesOutlets n outlets = Changes with_outlet n (λ x. member x outlets)

-- all notes of the first n words are gone
pub record ClearsNotes (n : ℕ) (old new : List ℕ) : Type 0 where
  pub kept : Kept n old new
  pub words : (x : ℕ) → x < n → get_or new x 0 ≡ cells_held (get_or old x 0)

-- a neighbour off the grid, or not noted as inside
abbrev pub is_outside : List ℕ → Option ℕ → Bool
is_outside grid none = true
is_outside grid (some y) = ltb (get_or grid y 0) (2 ^ 31)

abbrev pub outside_in : Grid → List ℕ → ℕ → List Dir → Bool
outside_in g grid x [] = false
outside_in g grid x (d ∷ ds) = is_outside grid (neighbour g x d) || outside_in g grid x ds

-- has a cell such a neighbour?
unfoldable pub beside_outside : Grid → List ℕ → ℕ → Bool
beside_outside g grid x = outside_in g grid x dirs

-- a cell of a grid with a word for each cell
pub record HasWords (rows cols : ℕ) (codes grid : List ℕ) (row col : ℕ) : Type 0 where
  pub on : OnCell rows cols codes row col
  pub has_room : rows * cols ≤ length grid

-- listed cells of a grid with a word for each cell
pub record HasList (rows cols : ℕ) (codes grid list : List ℕ) (n : ℕ) : Type 0 where
  pub grid_lent : LentGrid rows cols codes
  pub has_room : rows * cols ≤ length grid
  pub on_list : OnList rows cols list n

-- of the listed cells those beside no outside one are noted as enclosed
abbrev pub NotesCells : ℕ → ℕ → List ℕ → ℕ → List ℕ → List ℕ → List ℕ → Type 0
NotesCells rows cols codes n list old = Changes with_enclosed (rows * cols)
    (λ x. member x (listed cols list n) && not (beside_outside (grid_of rows cols codes) old x)) old

-- and the listed cells are inside no more
abbrev pub LeavesCells : ℕ → ℕ → ℕ → List ℕ → List ℕ → List ℕ → Type 0
LeavesCells rows cols n list = Changes without_inside (rows * cols) (λ x. member x (listed cols list n))

-- an outlet at a place of the list, a grid with the outlets noted and no cell inside, and room for the outlet's cells
pub record CanNote (rows cols : ℕ) (codes outlets : List ℕ) (place : ℕ) (grid list : List ℕ) : Type 0 where
  pub grid_lent : LentGrid rows cols codes
  pub some_cols : 0 < cols
  pub accumulation : List ℕ
  pub agreed : agrees (grid_of rows cols codes) accumulation ≡ true
  pub in_list : place < length outlets
  pub solid : ground (grid_of rows cols codes) (get_or outlets place 0) ≡ true
  pub noted : Noted (grid_of rows cols codes) outlets grid
  pub none_inside : (x : ℕ) → x < rows * cols → get_or grid x 0 < 2 ^ 31
  pub room : subaccumulation (grid_of rows cols codes) outlets (get_or outlets place 0) ≤ length list

-- the cells that an outlet's subwatershed encloses: they are in it, and not on its divide
abbrev pub enclosed_by : Grid → List ℕ → ℕ → ℕ → Bool
enclosed_by g outlets o x = in_subwatershed g outlets o x && not (on_divide g outlets o x)

-- they are noted; of the list only as many numbers changed as the outlet has cells
pub record NotesEnclosed (g : Grid) (outlets : List ℕ) (o : ℕ) (n : ℕ) (grid list grid' list' : List ℕ) : Type 0 where
  pub notes : Changes with_enclosed n (enclosed_by g outlets o) grid grid'
  pub kept : Kept (subaccumulation g outlets o) list list'
