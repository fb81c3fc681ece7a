-- What making a grid ready asks and leaves, in the source's own values.
-- Assumes nothing.
use Rattle.std.specs.Prelude.{List, ℕ}
use Rattle.moves.specs.declared.grid.Grid.{Grid}
use Rattle.noting.specs.Noting as noting

abbrev pub Fresh : Grid → List ℕ → List ℕ → Type 0
Fresh g = noting.Fresh g.rows g.cols g.codes.now

abbrev pub Places : Grid → List ℕ → ℕ → ℕ → List ℕ → Type 0
Places g = noting.Places g.rows g.cols g.codes.now

abbrev pub Readied : ℕ → Grid → List ℕ → ℕ → ℕ → List ℕ → List ℕ → List ℕ → List ℕ → Type 0
Readied edition g = noting.Readied edition g.rows g.cols g.codes.now
