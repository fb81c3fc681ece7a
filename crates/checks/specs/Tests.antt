-- The check of one outlet.
-- Assumes nothing.
use Rattle.std.specs.Prelude.{Bool, ◌&&◌, ℕ, ltb}
use Rattle.ground.specs.Grid.{Grid, cell_count, ground}

-- check 16 of one outlet: the number of a cell with ground
abbrev pub is_placed : Grid → ℕ → Bool
is_placed g o = ltb o (cell_count g) && ground g o
