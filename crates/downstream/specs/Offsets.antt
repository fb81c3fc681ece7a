-- What a step adds to a cell's number.
-- Assumes nothing.
use Rattle.std.specs.Prelude.{List, map, ℕ, ◌+◌, ◌*◌}
use Rattle.std.proofs.Math.Option.{Option, none, some}
use Rattle.ground.specs.Compass.{Dir, dirs, place_of, row_shift, col_shift}
use Rattle.moves.specs.Moves.{shift_number}

-- the place of a direction in 01's order, and the last where there is none
abbrev pub place_by : Option Dir → ℕ
place_by none = 7
place_by (some d) = place_of d

-- the change of a cell's number by a step in a direction, plus cols + 1
abbrev pub offset_of : ℕ → Dir → ℕ
offset_of cols d = shift_number (row_shift d) * cols + shift_number (col_shift d)

abbrev pub offsets_of : ℕ → List ℕ
offsets_of cols = map (offset_of cols) dirs
