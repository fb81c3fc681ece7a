-- What noting asks of its callers and leaves, in the source's own values.
-- Assumes nothing.
use Rattle.std.specs.Prelude.{List, ℕ}
use Rattle.cells.specs.declared.Cell.{Cell}
use Rattle.moves.specs.declared.grid.Grid.{Grid}
use Rattle.divide.specs.Divides as divides

abbrev pub HasWords : Grid → List ℕ → Cell → Type 0
HasWords g words cell = divides.HasWords g.rows g.cols g.codes.now words cell.row cell.col

abbrev pub HasList : Grid → List ℕ → List ℕ → ℕ → Type 0
HasList g = divides.HasList g.rows g.cols g.codes.now

abbrev pub NotesCells : Grid → ℕ → List ℕ → List ℕ → List ℕ → Type 0
NotesCells g = divides.NotesCells g.rows g.cols g.codes.now

abbrev pub LeavesCells : Grid → ℕ → List ℕ → List ℕ → List ℕ → Type 0
LeavesCells g = divides.LeavesCells g.rows g.cols

abbrev pub CanNote : Grid → List ℕ → ℕ → List ℕ → List ℕ → Type 0
CanNote g = divides.CanNote g.rows g.cols g.codes.now
