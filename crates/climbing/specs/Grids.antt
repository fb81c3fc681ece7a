-- What giving the lengths asks of its callers, in the source's own values.
-- Assumes nothing.
use Rattle.std.specs.Prelude.{List, ℕ}
use Rattle.answers.specs.FlowLengths.{LengthGrids}
use Rattle.moves.specs.declared.grid.Grid.{Grid}
use Rattle.climbing.specs.Giving as giving

abbrev pub Climbable : Grid → List ℕ → LengthGrids → Type 0
Climbable g = giving.Climbable g.rows g.cols g.codes.now
