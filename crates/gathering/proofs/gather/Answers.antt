-- `gathering::gather` meets its contract: the newest listed cell is always the next to have its tributaries listed.
-- Assumes nothing.
use Prim.Native.Nat.{◌+◌, ◌*◌}
use Rattle.gathering.specs.Gathering.{Gathers}
use Rattle.gathering.proofs.Gathering.{some_room, gathered_first, can_follow}
use Rattle.gathering.proofs.Gathering.{gathered_next, gathers}
use Rattle.gathering.proofs.gather.Goals as goal

pub bounds-list-0 : goal.bounds-list-0
bounds-list-0 c = some_room c.requires

pub loop-k-init : goal.loop-k-init
loop-k-init c = gathered_first c.requires

pub list_inflows-n-requires : goal.list_inflows-n-requires
list_inflows-n-requires c =
    can_follow c.requires c.loop-k.invariant c.loop-k-test.true
    c.newest_first-number.ensures

pub loop-k-preserved : goal.loop-k-preserved
loop-k-preserved c =
    gathered_next c.requires c.loop-k.invariant c.loop-k-test.true c.newest_first-number.ensures
    c.list_inflows-n.ensures

-- what is gathered at the end
end : (c : goal.After-loop-k) → let a = c.args in
    Gathers a.grid.rows a.grid.cols a.grid.codes.now a.outlets.now (a.cell.row * a.grid.cols + a.cell.col) a.words.now
    a.list.now c.loop-k.n c.loop-k.words c.loop-k.list
end c = gathers c.requires c.loop-k.invariant
    c.loop-k-test.false

pub shape_of-list : goal.shape_of-list
shape_of-list c = (end c).kept.same_length

pub returns : goal.returns
returns c = end c
