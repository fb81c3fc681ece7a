-- What drawing takes for granted, in the source's own values.
-- Assumes nothing.
use Rattle.std.specs.Prelude.{List, ℕ}
use Rattle.moves.specs.declared.grid.Grid.{Grid}
use Rattle.answers.specs.Entries.{catchment}
use Rattle.flowpath.specs.Measuring as measuring

-- the sizes are allowed, the accumulation agrees, and every outlet is a cell of ground
abbrev pub Surveyed : Grid → List ℕ → List ℕ → Type 0
Surveyed g accumulation outlets = measuring.Surveyed (catchment g.rows g.cols g.codes.now accumulation outlets)
