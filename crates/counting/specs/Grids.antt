-- What counting asks of its callers, in the source's own values.
-- Assumes nothing.
use Rattle.std.specs.Prelude.{List, ℕ}
use Rattle.moves.specs.declared.grid.Grid.{Grid}
use Rattle.counting.specs.Counting as counting

abbrev pub Countable : Grid → List ℕ → Type 0
Countable g = counting.Countable g.rows g.cols g.codes.now
