-- `noting::make_ready` meets its contract: the outlets are noted, then one divide after the other.
-- Assumes nothing.
use Prim.Native.Nat.{◌*◌}
use Rattle.lists.specs.Slices.{Kept}
use Rattle.noting.proofs.Readying.{Marked, ListKept}
use Rattle.noting.proofs.make_ready.Given as goal

abbrev pub invariant-loop-j : goal.invariant-loop-j
invariant-loop-j l =
    Marked l.grid.rows l.grid.cols l.grid.codes.now l.outlets l.first l.j l.subaccumulation
    × Kept (l.grid.rows * l.grid.cols) l.initial.subaccumulation l.subaccumulation × ListKept l.grid.rows l.grid.cols l.grid.codes.now l.outlets l.first l.j l.initial.list l.list
