-- `stack::put_inflows` meets its contract: what lies in the directions from k on is put on.
-- Assumes nothing.
use mathlib.Core.Path.{◌≡◌, ap, ◌∙◌, subst}
use Prim.Native.Nat.{ℕ, ◌+◌, ◌*◌}
use native.Mathlib.Omega.{arith}
use lib.ListN.{length, drop}
use Rattle.lengths.specs.Rule.{plus_step}
use Rattle.ground.specs.Compass.{dirs}
use Rattle.ground.specs.Grid.{grid_of}
use Rattle.upstream.proofs.Turning.{nothing_there, found_there}
use Rattle.stack.specs.Pending.{inflows_above, PutOn}
use Rattle.stack.proofs.Putting.{put_none, passed, room_left, joined}
use Rattle.stack.proofs.put_inflows.Goals as goal

pub loop-k-init : goal.loop-k-init
unfolding inflows_above
loop-k-init c = put_none c.args.work.now c.args.top

pub put-at-requires : goal.put-at-requires
put-at-requires c =
    let a = c.args in
    let l = c.loop-k in
    let f = c.tributary.ensures in
    let cell = c.in-Some.from in
    let is = c.in-Some.is in (
      room_left (grid_of a.grid.rows a.grid.cols a.grid.codes.now) a.outlets.now (a.cell.row * a.grid.cols + a.cell.col) a.len
          l.k (omega arith) (omega arith) l.invariant cell.row cell.col
          (found_there f is) (length l.work) (omega (arith, c.requires.len_in_bounds.0)),
      omega (arith, f.row_in cell is, c.requires.on_cell.grid.sides.rows_small),
      omega (arith, f.col_in cell is, c.requires.on_cell.grid.sides.cols_small),
    )

pub loop-k-preserved-in-Some : goal.loop-k-preserved-in-Some
loop-k-preserved-in-Some c =
    let a = c.args in
    let l = c.loop-k in
    let f = c.tributary.ensures in
    let cell = c.in-Some.from in
    let is = c.in-Some.is in
    joined (grid_of a.grid.rows a.grid.cols a.grid.codes.now) a.outlets.now (a.cell.row * a.grid.cols + a.cell.col) a.len
    l.k (omega arith) (omega arith) l.invariant cell.row cell.col
    (found_there f is) (f.col_in cell is)
    (c.plus-own.ensures ∙ ap (plus_step a.len) c.step_at.ensures)
    c.put-at.ensures

pub loop-k-preserved : goal.loop-k-preserved
loop-k-preserved c =
    let a = c.args in
    let l = c.loop-k in
    passed (grid_of a.grid.rows a.grid.cols a.grid.codes.now) a.outlets.now (a.cell.row * a.grid.cols + a.cell.col) a.len
    l.k (omega arith) (omega arith) l.invariant
    (nothing_there c.tributary.ensures c.in_default.is)

pub returns : goal.returns
returns c =
    let a = c.args in
    let l = c.loop-k in
    let e : l.k ≡ 0 = omega arith in
    subst (λ (k : ℕ). PutOn (inflows_above (grid_of a.grid.rows a.grid.cols a.grid.codes.now) a.outlets.now
    (a.cell.row * a.grid.cols + a.cell.col) a.len (drop k dirs)) a.top a.work.now l.at l.work) e l.invariant
