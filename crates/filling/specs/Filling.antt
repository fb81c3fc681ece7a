-- What filling answers and leaves in the lent grid, and what the functions below it leave on the way.
-- Assumes nothing.
use Rattle.std.specs.Prelude.{◌≡◌, Bool, true, false, cond, List, ℕ, ◌+◌, ◌*◌, ◌%◌, ◌≤◌, ◌<◌, ◌^◌, length, get_or, take, Option, Some, None}
use Rattle.std.proofs.Math.Option.{Option as Maybe}
use Rattle.downstream.specs.declared.NumberedCell.{NumberedCell}
use Rattle.lists.specs.Lists.{member, all_below, sum_of}
use Rattle.ground.specs.Compass.{Dir}
use Rattle.ground.specs.Grid.{Grid, Link, grid_of, cell_count, ground, next, inflows}
use Rattle.ground.specs.Walk.{ends}
use Rattle.ground.specs.Accumulation.{subaccumulations}
use Rattle.ground.specs.Subwatershed.{is_outlet}
use Rattle.lists.specs.Slices.{overlaid, zeros, Kept}
use Rattle.moves.specs.Lent.{LentGrid}
use Rattle.downstream.specs.Flowing.{Numbered}
use Rattle.filling.specs.Cut.{cut_next, cut_ups}
use Rattle.filling.specs.Packed.{flag_if, Flagging, Packed, Walking}

-- a grid with a column, outlets on its ground, and a lent grid that is large enough
pub record Fillable (rows cols : ℕ) (codes outlets words : List ℕ) : Type 0 where
  pub grid : LentGrid rows cols codes
  pub some_cols : 0 < cols
  pub has_words : rows * cols ≤ length words
  pub on_ground : (j : ℕ) → j < length outlets → ground (grid_of rows cols codes) (get_or outlets j 0) ≡ true

-- a cell of it, with its number, and the offsets of the grid's steps
pub record FillableAt (rows cols : ℕ) (codes outlets steps words : List ℕ) (row col at : ℕ) : Type 0 where
  pub fillable : Fillable rows cols codes outlets words
  pub numbered : Numbered rows cols codes steps row col at

-- the flag of a cell
abbrev pub flag_of : List ℕ → ℕ → ℕ
flag_of outlets x = flag_if (member x outlets)

-- a word without its flag
abbrev pub strip_if : Bool → ℕ → ℕ
strip_if b w = cond b (w % 2 ^ 30) w

-- the words of the first j outlets are without their flags
pub record Stripped (n : ℕ) (outlets : List ℕ) (j : ℕ) (old new : List ℕ) : Type 0 where
  pub kept : Kept n old new
  pub words : (x : ℕ) → get_or new x 0 ≡ strip_if (member x (take j outlets)) (get_or old x 0)

module _ (g : Grid) (outlets : List ℕ) where
  -- the network cut at the outlets
  abbrev pub next_cut : ℕ → Maybe (Link Dir)
  next_cut = cut_next (is_outlet g outlets) (next g)

  abbrev pub ups_cut : ℕ → List (Link Dir)
  ups_cut = cut_ups (is_outlet g outlets) (inflows g)

  -- the first j outlets are flagged, and no cell waits for one of them
  unfoldable pub Flagged : List ℕ → ℕ → Type 0
  Flagged words j = Flagging (inflows g) (ground g) (cell_count g) (λ x. get_or words x 0) (λ c. member c (take j outlets))

  -- the cells before n are looked at, so many are done, and nothing is on the way down
  unfoldable pub Looked : List ℕ → ℕ → ℕ → Type 0
  Looked words n done = Packed ups_cut (ground g) (cell_count g) (flag_of outlets) (λ x. get_or words x 0) n
      (λ x. false) done

  -- they are, and the way down is at a cell
  unfoldable pub Down : List ℕ → ℕ → ℕ → ℕ → Type 0
  Down words n here done = Walking ups_cut (ground g) (cell_count g) (flag_of outlets) (λ x. get_or words x 0) n here done

  -- a way down: it is at a cell, or at its end
  pub record Going (looked done : ℕ) (old new : List ℕ) (r : Option NumberedCell) : Type 0 where
    pub is_down : (cell : NumberedCell) → r ≡ Some cell → Down new looked cell.at done
    pub is_at : (cell : NumberedCell) → r ≡ Some cell → cell.at ≡ cell.cell.row * g.cols + cell.cell.col
    pub row_in : (cell : NumberedCell) → r ≡ Some cell → cell.cell.row < g.rows
    pub col_in : (cell : NumberedCell) → r ≡ Some cell → cell.cell.col < g.cols
    pub done_is : r ≡ None → Looked new looked done
    pub kept : Kept (cell_count g) old new

  -- what one step down leaves: where the way goes on, the words add up to less
  pub record Passed (looked done : ℕ) (old new : List ℕ) (r : Option NumberedCell) : Type 0 where
    pub going : Going looked done old new r
    pub less : (cell : NumberedCell) → r ≡ Some cell → sum_of new < sum_of old

  -- does every walk come to its end or to an outlet?
  unfoldable pub cut_free : Bool
  cut_free = all_below (ends next_cut (cell_count g)) (cell_count g)

  -- what the lent grid holds in the end: the subaccumulation, or a 0 for each cell
  abbrev pub filled_if : Bool → List ℕ → List ℕ
  filled_if true old = overlaid (subaccumulations g outlets) old
  filled_if false old = overlaid (zeros (cell_count g)) old

  -- whether it succeeds, and what it leaves
  pub record Fills (old : List ℕ) (free : Bool) (new : List ℕ) : Type 0 where
    pub answers : free ≡ cut_free
    pub leaves : new ≡ filled_if free old
