-- The lent subaccumulation grid made ready for searches by an edition, and as it was after them.
-- Assumes nothing.
use Rattle.std.specs.Prelude.{◌≡◌, true, false, cond, List, ℕ, ◌*◌, ◌≤◌, ◌<◌, length, get_or, eqb}
use Rattle.lists.specs.Slices.{Kept}
use Rattle.ground.specs.Grid.{grid_of, ground}
use Rattle.ground.specs.Accumulation.{agrees, subaccumulation}
use Rattle.moves.specs.Lent.{LentGrid}
use Rattle.notes.specs.Notes.{cells_held}
use Rattle.upstream.specs.Ready.{Ready, MetAt}

-- a grid that holds the subaccumulation and no notes, under outlets on ground
pub record Fresh (rows cols : ℕ) (codes outlets words : List ℕ) : Type 0 where
  pub grid_lent : LentGrid rows cols codes
  pub some_cols : 0 < cols
  pub accumulation : List ℕ
  pub agreed : agrees (grid_of rows cols codes) accumulation ≡ true
  pub has_room : rows * cols ≤ length words
  pub filled : (x : ℕ) → x < rows * cols → get_or words x 0 ≡ subaccumulation (grid_of rows cols codes) outlets x
  pub on_ground : (j : ℕ) → j < length outlets → ground (grid_of rows cols codes) (get_or outlets j 0) ≡ true

-- the cells of the outlet at a place
abbrev pub cells_at_place : ℕ → ℕ → List ℕ → List ℕ → ℕ → ℕ
cells_at_place rows cols codes outlets j = subaccumulation (grid_of rows cols codes) outlets (get_or outlets j 0)

-- the outlets from one place to before another, each with room for its cells
pub record Places (rows cols : ℕ) (codes outlets : List ℕ) (first end : ℕ) (list : List ℕ) : Type 0 where
  pub in_order : first ≤ end
  pub in_list : end ≤ length outlets
  pub room : (j : ℕ) → first ≤ j → j < end → cells_at_place rows cols codes outlets j ≤ length list

-- the grid is ready for the searches of these outlets by the edition; by edition 1 nothing changed
pub record Readied (edition rows cols : ℕ) (codes outlets : List ℕ) (first end : ℕ) (old list new list' : List ℕ)
    : Type 0 where
  pub ready : Ready rows cols codes outlets new
  pub met : (j : ℕ) → first ≤ j → j < end → MetAt edition (grid_of rows cols codes) outlets (get_or outlets j 0) new
  pub kept : Kept (rows * cols) old new
  pub unnoted : eqb edition 2 ≡ false → new ≡ old
  -- the list changed in no more numbers than the largest of these outlets has cells
  pub list_kept : (most : ℕ) → ((j : ℕ) → first ≤ j → j < end → cells_at_place rows cols codes outlets j ≤ most)
      → Kept most list list'

-- the notes that the edition asked for are gone from the first n words
pub record Unnoted (edition n : ℕ) (old new : List ℕ) : Type 0 where
  pub kept : Kept n old new
  pub words : (x : ℕ) → x < n → get_or new x 0 ≡ cond (eqb edition 2) (cells_held (get_or old x 0)) (get_or old x 0)
