-- `filling::flag` meets its contract. The invariant: the first j outlets are flagged.
-- Assumes nothing.
use Prim.Native.Nat.{◌*◌}
use Rattle.lists.specs.Slices.{Kept}
use Rattle.ground.specs.Grid.{grid_of}
use Rattle.filling.specs.Filling.{Flagged}
use Rattle.filling.proofs.flag.Given as goal

abbrev pub invariant-loop-j : goal.invariant-loop-j
invariant-loop-j l =
    Flagged (grid_of l.grid.rows l.grid.cols l.grid.codes.now) l.outlets l.words l.j × Kept (l.grid.rows * l.grid.cols) l.initial.words l.words
