-- `host::jb_draw` meets its contract: a path has no more cells than 32 bits can count.
-- Assumes nothing.
use Rattle.std.proofs.Common.{arith}
use Rattle.answers.specs.Drawing.{drawing_of}
use Rattle.drawing.proofs.Accepted.{drawn_few}
use Rattle.host.proofs.jb_draw.Goals as goal

pub overflow_cast-drawn : goal.overflow_cast-drawn
overflow_cast-drawn c =
    let a = c.args in
    let q = drawing_of a.rows a.cols a.codes.now a.accumulation.now a.outlets.now a.place a.start in
    omega (arith, c.in-Ok.ensures.counts, drawn_few q a.path.now)
