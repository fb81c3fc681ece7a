-- The measure of the cycle: the number of cells, then the neighbours left.
-- Assumes nothing.
use mathlib.Core.List.{List}
use Prim.Native.Nat.{ℕ, ◌+◌, ◌-◌, ◌*◌}
use lib.ListN.{get_or}
use Rattle.notes.specs.Notes.{cells_held}
use Rattle.recursion.proofs.+trace_cell_trace_inflows.Given as goal

-- the cells that the word of a cell holds
abbrev cells_at_word : List ℕ → ℕ → ℕ
cells_at_word words x = cells_held (get_or words x 0)

abbrev pub decreases-trace_cell : goal.decreases-trace_cell
decreases-trace_cell l = cells_at_word l.filled.now.subaccumulation.now (l.cell.row * l.filled.now.grid.cols + l.cell.col) * 10 + 9

abbrev pub decreases-trace_inflows : goal.decreases-trace_inflows
decreases-trace_inflows l = cells_at_word l.filled.now.subaccumulation.now (l.cell.row * l.filled.now.grid.cols + l.cell.col) * 10 + (8 - l.k)
