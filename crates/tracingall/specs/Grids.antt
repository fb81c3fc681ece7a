-- What the searches of all outlets answer and leave, in the source's own values.
-- Assumes nothing.
use Rattle.std.specs.Prelude.{List, ℕ}
use Rattle.alloutlets.specs.declared.TracedAll.{TracedAll}
use Rattle.moves.specs.declared.grid.Grid.{Grid}
use Rattle.moves.specs.Grids.{ground_of}
use Rattle.tracingall.specs.Searching as searching

abbrev pub SearchesAll : ℕ → Grid → List ℕ → List ℕ → List ℕ → List ℕ → TracedAll → List ℕ → List ℕ → List ℕ → Type 0
SearchesAll edition g = searching.SearchesAll edition (ground_of g)
