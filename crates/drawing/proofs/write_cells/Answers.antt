-- `drawing::write_cells` meets its contract. The invariant: so many cells are written, and the walk is at the next.
-- Assumes nothing.
use Rattle.drawing.proofs.Writing.{writing_none, inside, writing_on_grid, writing_more, writing_all}
use Rattle.drawing.proofs.write_cells.Goals as goal

pub loop-place-init : goal.loop-place-init
loop-place-init c = writing_none c.args.path.now c.requires c.walk_from-walk.ensures

pub cell_number-requires : goal.cell_number-requires
cell_number-requires c = inside c.args.path.now c.requires c.loop-place.invariant

pub step-walk-requires : goal.step-walk-requires
step-walk-requires c = writing_on_grid c.args.path.now c.requires c.loop-place.invariant c.loop-place-test.true

pub loop-place-preserved : goal.loop-place-preserved
loop-place-preserved c =
    writing_more c.args.path.now c.requires c.loop-place.invariant c.loop-place-test.true
    c.cell_number.ensures c.step-walk.ensures

pub returns : goal.returns
returns c =
    writing_all c.args.path.now c.requires c.loop-place.invariant c.loop-place.auto.place-index-end c.loop-place-test.false
