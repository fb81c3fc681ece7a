-- `filling::walk_down` meets its contract. The invariant: the way is at a cell that waits for nothing, or at its end.
-- The measure is what the words add up to. Assumes nothing.
use Rattle.lists.specs.Lists.{sum_of}
use Rattle.ground.specs.Grid.{grid_of}
use Rattle.filling.specs.Filling.{Going}
use Rattle.filling.proofs.Descents.{ahead}
use Rattle.filling.proofs.walk_down.Given as goal

abbrev pub invariant-loop-next : goal.invariant-loop-next
invariant-loop-next l = Going
    (grid_of l.grid.rows l.grid.cols l.grid.codes.now) l.outlets l.looked l.done l.initial.words l.words l.next

abbrev pub decreases-loop-next : goal.decreases-loop-next
decreases-loop-next l = ahead l.next (sum_of l.words)
