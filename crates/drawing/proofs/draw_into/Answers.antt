-- `drawing::draw_into` meets its contract: what is judged is written or refused.
-- Assumes nothing.
use Rattle.std.proofs.Common.{arith}
use Rattle.std.proofs.lemmas.Grind.{common_steps}
use Rattle.answers.specs.Drawing.{drawing_of}
use Rattle.drawing.proofs.Accepted.{drawable, drawable_in_part, cells_written}
use Rattle.drawing.proofs.draw_into.Goals as goal

pub invariant_of-grid : goal.invariant_of-grid
invariant_of-grid c =
    let a = c.args in
    let q = drawing_of a.rows a.cols a.codes.now a.accumulation.now a.outlets.now a.place a.start in
    record { lent = (drawable q a.path.now c.in_ok-count.ensures).grid }

pub write_cells-requires : goal.write_cells-requires
write_cells-requires c =
    let a = c.args in
    let q = drawing_of a.rows a.cols a.codes.now a.accumulation.now a.outlets.now a.place a.start in
    drawable_in_part q a.path.now c.in_ok-count.ensures (omega arith)

pub returns : goal.returns
returns c =
    let a = c.args in
    let q = drawing_of a.rows a.cols a.codes.now a.accumulation.now a.outlets.now a.place a.start in
    cells_written q a.path.now c.in_ok-count.ensures (grind (arith, common_steps))
