-- Where the source is on a lent grid, in its own values.
-- Assumes nothing.
use Rattle.std.specs.Prelude.{List, ℕ}
use Rattle.moves.specs.declared.grid.Grid.{Grid}
use Rattle.traversal.specs.declared.Position.{Position}
use Rattle.traversal.specs.Turns as turns

abbrev pub OnPosition : Grid → List ℕ → Position → Type 0
OnPosition g = turns.OnPosition g.rows g.cols g.codes.now

abbrev pub Turning : Grid → List ℕ → List ℕ → Position → Type 0
Turning g = turns.Turning g.rows g.cols g.codes.now

abbrev pub InnerTurning : Grid → List ℕ → List ℕ → Position → Type 0
InnerTurning g = turns.InnerTurning g.rows g.cols g.codes.now

abbrev pub MovedTo : Grid → List ℕ → Position → ℕ → ℕ → Position → Type 0
MovedTo g = turns.MovedTo g.rows g.cols g.codes.now

abbrev pub WentDown : Grid → List ℕ → Position → Position → Type 0
WentDown g = turns.WentDown g.rows g.cols g.codes.now
