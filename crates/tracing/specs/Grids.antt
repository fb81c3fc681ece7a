-- A place of the list of outlets, in the source's own values.
-- Assumes nothing.
use Rattle.std.specs.Prelude.{Bool, List, ℕ, get_or}
use Rattle.search.specs.Tracing.{Tracing}
use Rattle.moves.specs.declared.grid.Grid.{Grid}
use Rattle.moves.specs.Grids.{ground_of}
use Rattle.upstream.specs.declared.filled.FilledGrid.{FilledGrid}
use Rattle.upstream.specs.Ready as ready
use Rattle.tracing.specs.Answering as answering
use Rattle.tracing.specs.Preparing as preparing

abbrev pub Chosen : Grid → List ℕ → ℕ → Type 0
Chosen g = preparing.Chosen g.rows g.cols g.codes.now

abbrev pub cells_of : Grid → List ℕ → ℕ → ℕ
cells_of g = answering.cells_of g.rows g.cols g.codes.now

abbrev pub tracing_at : Grid → List ℕ → ℕ → ℕ → Bool → Tracing
tracing_at g outlets place edition = answering.tracing_at g.rows g.cols g.codes.now outlets place edition

-- the words tell at which cells of the place's subwatershed a length is met by the edition
abbrev pub MetAt : ℕ → FilledGrid → ℕ → Type 0
MetAt edition f place = ready.MetAt edition (ground_of f.grid) f.outlets.now
    (get_or f.outlets.now place 0) f.subaccumulation.now
