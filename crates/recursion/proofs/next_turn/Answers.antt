-- `recursion::next_turn` meets its contract: in all directions passed over there was nothing to turn to.
-- Assumes nothing.
use mathlib.Core.Path.{◌≡◌}
use mathlib.Core.Option.{none}
use Prim.Native.Nat.{◌+◌, ◌*◌}
use native.Mathlib.Omega.{arith}
use lib.Arith.{digits_lt}
use Rattle.moves.proofs.Spots.{size}
use Rattle.ground.specs.Grid.{grid_of}
use Rattle.moves.specs.Moves.{dir_at}
use Rattle.search.specs.Neighbours.{inflow_in}
use Rattle.recursion.proofs.Turning.{one_further, next_found}
use Rattle.upstream.proofs.Turning.{nothing_there}
use Rattle.recursion.proofs.next_turn.Goals as goal

pub turn_at-requires : goal.turn_at-requires
turn_at-requires c =
    let f = c.tributary.ensures in
    let on = c.in-Some in
    let h = digits_lt (f.row_in _ on.is) (f.col_in _ on.is) in
    let p = c.requires in
    (omega (arith, h, p.has_subaccumulations), omega (arith, h, size p.on.grid.sides))

pub returns-in-Some : goal.returns-in-Some
returns-in-Some c =
    let l = c.loop-n in
    next_found l.auto.n (omega arith) l.invariant c.tributary.ensures c.in-Some.is c.turn_at.ensures

pub loop-n-preserved : goal.loop-n-preserved
loop-n-preserved c =
    let l = c.loop-n in
    let a = c.args in
    one_further (λ i. inflow_in (grid_of a.filled.now.grid.rows a.filled.now.grid.cols a.filled.now.grid.codes.now) a.filled.now.outlets.now
    (a.cell.row * a.filled.now.grid.cols + a.cell.col) (dir_at i) ≡ none) a.k l.n l.invariant
    (nothing_there c.tributary.ensures c.in_default.is)
