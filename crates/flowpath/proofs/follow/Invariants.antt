-- `flowpath::follow` meets its contract. The invariant: what lies before the walk is what the whole walk has, less the
-- cells passed.
-- Assumes nothing.
use Prim.Native.Nat.{◌+◌, ◌*◌, ◌-◌}
use Rattle.answers.specs.Entries.{catchment}
use Rattle.flowpath.proofs.Following.{Following}
use Rattle.flowpath.proofs.follow.Given as goal

abbrev pub invariant-loop-walk : goal.invariant-loop-walk
invariant-loop-walk l =
    let land = catchment l.grid.rows l.grid.cols l.grid.codes.now l.accumulation l.outlets in
    Following land l.outlet l.start l.walk l.cell l.mark

abbrev pub decreases-loop-walk : goal.decreases-loop-walk
decreases-loop-walk l =
    l.grid.rows * l.grid.cols - (l.walk.length.straight + l.walk.length.diagonal)
