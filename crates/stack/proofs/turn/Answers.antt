-- `stack::turn` meets its contract: the cell that is taken off is dropped or entered.
-- Assumes nothing.
use mathlib.Core.Path.{◌∙◌}
use native.Mathlib.Omega.{arith}
use Rattle.upstream.specs.Ready.{met_in}
use Rattle.stack.proofs.Climbing.{indexed, read}
use Rattle.stack.proofs.Turning.{pending_room, on_ground, testable, few_dropped, fits, turn_dropped}
use Rattle.stack.proofs.Turning.{turn_entered}
use Rattle.stack.proofs.turn.Goals as goal

pub pending_at-w-requires : goal.pending_at-w-requires
pending_at-w-requires c =
    let s = c.requires.stack_stands in
    omega (arith, pending_room c.requires.ready s.0 s.1, s.0.within, s.1)

pub bounds-filled-w : goal.bounds-filled-w
bounds-filled-w c =
    let s = c.requires.stack_stands in
    omega (arith, indexed c.requires.ready (on_ground c.requires.ready s.0 s.1 c.pending_at-w.ensures))

pub is_dropped-requires : goal.is_dropped-requires
is_dropped-requires c =
    let p = c.requires.ready in
    let s = c.requires.stack_stands in
    let e = c.pending_at-w.ensures in
    testable p s.0 s.1 e (c.cells_held-n.ensures ∙ read p (on_ground p s.0 s.1 e))

pub drop_cells-requires : goal.drop_cells-requires
drop_cells-requires c =
    let p = c.requires.ready in
    let s = c.requires.stack_stands in
    let e = c.pending_at-w.ensures in
    omega (arith, c.cells_held-n.ensures ∙ read p (on_ground p s.0 s.1 e), few_dropped p s.0 s.1 e)

pub returns-then-is_dropped : goal.returns-then-is_dropped
returns-then-is_dropped c =
    let a = c.args in
    let p = c.requires.ready in
    let s = c.requires.stack_stands in
    let e = c.pending_at-w.ensures in
    turn_dropped p s.0 s.1 e (met_in a.edition a.filled.subaccumulation.now) a.dropping
    (c.cells_held-n.ensures ∙ read p (on_ground p s.0 s.1 e))
    c.is_dropped.ensures c.if-is_dropped.true c.drop_cells.ensures

pub enter_cell-requires : goal.enter_cell-requires
enter_cell-requires c =
    let p = c.requires.ready in
    let s = c.requires.stack_stands in
    let e = c.pending_at-w.ensures in
    record { ready = p; on_ground = on_ground p s.0 s.1 e; fits = fits p s.0 s.1 e }

pub returns : goal.returns
returns c =
    let a = c.args in
    let p = c.requires.ready in
    let s = c.requires.stack_stands in
    let e = c.pending_at-w.ensures in
    turn_entered p s.0 s.1 e (met_in a.edition a.filled.subaccumulation.now) a.dropping
    (c.cells_held-n.ensures ∙ read p (on_ground p s.0 s.1 e))
    c.is_dropped.ensures c.if-is_dropped.false c.enter_cell.ensures c.enter_cell.auto.work
