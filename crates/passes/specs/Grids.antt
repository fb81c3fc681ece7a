-- What the two passes ask and leave, in the source's own values.
-- Assumes nothing.
use Rattle.std.specs.Prelude.{List, ℕ}
use Rattle.alloutlets.specs.AllOutlets as alloutlets
use Rattle.moves.specs.declared.grid.Grid.{Grid}
use Rattle.moves.specs.Grids.{ground_of}
use Rattle.upstream.specs.declared.filled.FilledGrid.{FilledGrid}
use Rattle.passes.specs.declared.Sums.{Sums}
use Rattle.passes.specs.Passes as passes

abbrev pub path_counts : ℕ → FilledGrid → List ℕ
path_counts edition f = alloutlets.path_counts edition (ground_of f.grid) f.outlets.now

abbrev pub Traceable : Grid → List ℕ → List ℕ → Type 0
Traceable g = passes.Traceable g.rows g.cols g.codes.now

abbrev pub Searchable : ℕ → FilledGrid → List ℕ → Type 0
Searchable edition f = passes.Searchable edition f.grid.rows f.grid.cols f.grid.codes.now f.outlets.now
    f.subaccumulation.now

abbrev pub CountsAll : ℕ → FilledGrid → List ℕ → Sums → List ℕ → Type 0
CountsAll edition f = passes.CountsAll edition (ground_of f.grid) f.outlets.now

abbrev pub ListsAll : ℕ → FilledGrid → List ℕ → List ℕ → List ℕ → List ℕ → List ℕ → List ℕ → Type 0
ListsAll edition f = passes.ListsAll edition (ground_of f.grid) f.outlets.now
