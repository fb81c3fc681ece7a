-- What drawing takes for granted once checks 10 to 18 are passed, and what it measures before it writes.
-- Assumes nothing.
use Rattle.std.specs.Prelude.{◌≡◌, true, cond, Option, Some, None, List, ℕ, ◌≤◌, ◌<◌, length, get_or}
use Rattle.ground.specs.Grid.{Grid, cell_count, ground}
use Rattle.ground.specs.Accumulation.{agrees}
use Rattle.ground.specs.Subwatershed.{in_subwatershed, path_from}
use Rattle.moves.specs.Lent.{LentGrid}
use Rattle.answers.specs.Entries.{Catchment}

-- the sizes are allowed, the accumulation agrees, and every outlet is a cell of ground
pub record Surveyed (c : Catchment) : Type 0 where
  pub grid : LentGrid c.grid.rows c.grid.cols c.grid.codes
  pub some_cols : 0 < c.grid.cols
  pub has_accumulation : cell_count c.grid ≤ length c.accumulation
  pub agreement : agrees c.grid c.accumulation ≡ true
  pub placed : (j : ℕ) → j < length c.outlets → ground c.grid (get_or c.outlets j 0) ≡ true

-- every outlet has an accumulation
abbrev pub OutletsIn : List ℕ → List ℕ → Type 0
OutletsIn accumulation outlets = (j : ℕ) → j < length outlets → get_or outlets j 0 < length accumulation

-- of the first n outlets none has an accumulation from this value up to the mark: those below the mark are below the
-- value
pub record NoneBetween (n : ℕ) (accumulation outlets : List ℕ) (value mark : ℕ) : Type 0 where
  pub below : (j : ℕ) → j < n → get_or accumulation (get_or outlets j 0) 0 < mark
      → get_or accumulation (get_or outlets j 0) 0 < value

-- a cell, and a mark before which no outlet comes from that cell on
pub record MarkedAt (accumulation outlets : List ℕ) (cell mark : ℕ) : Type 0 where
  pub cell_in : cell < length accumulation
  pub none_between : NoneBetween (length outlets) accumulation outlets (get_or accumulation cell 0) mark

-- how many cells are to be drawn: those of the path, and none where the start is not in the subwatershed
unfoldable pub path_length : Grid → List ℕ → ℕ → ℕ → Option ℕ
path_length g outlets o start =
    cond (in_subwatershed g outlets o start) (Some (length (path_from g outlets start))) None
