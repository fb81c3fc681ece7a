-- `drawing::draw` meets its contract: the first places, as many as `draw_into` counts, are the part.
-- Assumes nothing.
use mathlib.Core.Path.{refl, ap, ◌∙◌}
use Prim.Native.Nat.{ℕ}
use native.Mathlib.Omega.{arith}
use lib.ListN.{take, length-take}
use Rattle.answers.specs.Drawing.{drawing_of}
use Rattle.drawing.proofs.Accepted.{part_taken, part_fits}
use Rattle.drawing.proofs.draw.Goals as goal

pub slice_bounds-result-end : goal.slice_bounds-result-end
slice_bounds-result-end c =
    let a = c.args in
    let q = drawing_of a.rows a.cols a.codes.now a.accumulation.now a.outlets.now a.place a.start in
    omega (
      arith,
      c.unwrap_or-count.ensures,
      part_fits q a.path.now c.draw_into-drawn.ensures,
      length-take c.unwrap_or-count.result c.draw_into-drawn.new.path,
    )

pub returns : goal.returns
returns c =
    let a = c.args in
    let q = drawing_of a.rows a.cols a.codes.now a.accumulation.now a.outlets.now a.place a.start in
    let new = c.draw_into-drawn.new.path in (
      ap (λ (n : ℕ). take n new) c.unwrap_or-count.ensures ∙ part_taken q a.path.now c.draw_into-drawn.ensures,
      refl,
    )
