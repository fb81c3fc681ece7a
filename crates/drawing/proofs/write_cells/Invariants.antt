-- `drawing::write_cells` meets its contract. The invariant: so many cells are written, and the walk is at the next.
-- Assumes nothing.
use Rattle.moves.specs.Grids.{ground_of}
use Rattle.drawing.proofs.Writing.{Writing}
use Rattle.drawing.proofs.write_cells.Given as goal

abbrev pub invariant-loop-place : goal.invariant-loop-place
invariant-loop-place l =
    Writing (ground_of l.grid) l.start l.initial.place-items l.place-items l.walk l.place-index
