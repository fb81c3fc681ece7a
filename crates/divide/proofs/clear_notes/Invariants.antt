-- `divide::clear_notes` meets its contract. The invariant: the words so far have no notes.
-- Assumes nothing.
use lib.Dec.{ltb}
use Rattle.notes.specs.Notes.{cells_held}
use Rattle.divide.specs.Divides.{Changes}
use Rattle.divide.proofs.clear_notes.Given as goal

abbrev pub invariant-loop-word : goal.invariant-loop-word
invariant-loop-word l = Changes cells_held l.n (λ x. ltb x l.word-index) l.initial.word-items l.word-items
