-- `stack::trace` meets its contract: with each turn fewer cells are pending, and the rest of the search is the same.
-- Assumes nothing.
use mathlib.Core.Path.{◌≡◌}
use Prim.Native.Nat.{ℕ, ◌≤◌}
use lib.ListN.{length, get_or}
use Rattle.ground.specs.Grid.{grid_of}
use Rattle.progress.specs.Starts.{state_of}
use Rattle.upstream.specs.Ready.{met_in}
use Rattle.stack.specs.Pending.{pending}
use Rattle.stack.specs.Draining.{cells_pending, Standing, drain}
use Rattle.stack.proofs.trace.Given as goal

abbrev pub invariant-loop-s : goal.invariant-loop-s
invariant-loop-s l =
    (length l.work ≡ length l.initial.work)
    × Standing (grid_of l.filled.grid.rows l.filled.grid.cols l.filled.grid.codes.now) l.filled.outlets.now l.end l.s l.work
    × (drain (grid_of l.filled.grid.rows l.filled.grid.cols l.filled.grid.codes.now) l.filled.outlets.now (met_in l.edition l.filled.subaccumulation.now) l.dropping
    (pending l.work l.s.top) (state_of l.s.progress l.work l.end)
    ≡ drain (grid_of l.filled.grid.rows l.filled.grid.cols l.filled.grid.codes.now) l.filled.outlets.now (met_in l.edition l.filled.subaccumulation.now) l.dropping
    (pending l.initial.work l.initial.s.top) (state_of l.initial.s.progress l.initial.work l.end))
    × ((i : ℕ) → l.end ≤ i → get_or l.work i 0 ≡ get_or l.initial.work i 0)

abbrev pub decreases-loop-s : goal.decreases-loop-s
decreases-loop-s l =
    cells_pending (grid_of l.filled.grid.rows l.filled.grid.cols l.filled.grid.codes.now) l.filled.outlets.now (pending l.work l.s.top)
