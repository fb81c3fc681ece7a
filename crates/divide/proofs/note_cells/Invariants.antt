-- `divide::note_cells` meets its contract. The invariant: of the cells so far those beside no outside one are noted.
-- Assumes nothing.
use Rattle.divide.specs.Divides.{NotesCells}
use Rattle.divide.proofs.note_cells.Given as goal

abbrev pub invariant-loop-number : goal.invariant-loop-number
invariant-loop-number l = NotesCells l.grid.rows l.grid.cols l.grid.codes.now l.number-index l.list l.initial.words l.words
