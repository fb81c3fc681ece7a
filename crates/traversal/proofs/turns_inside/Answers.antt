-- `traversal::turns_inside` meets its contract: the neighbour is on the grid, and its code and its mark tell.
-- Assumes nothing.
use mathlib.Core.Path.{◌∙◌}
use native.Mathlib.Omega.{arith}
use borrow.Author.Tests.{ne_eqb}
use Rattle.traversal.proofs.Moving.{cells_small}
use Rattle.traversal.proofs.Turning.{inner_inside, inner_away, inner_here}
use Rattle.traversal.proofs.turns_inside.Goals as goal

pub bounds-grid-y : goal.bounds-grid-y
bounds-grid-y c =
    let s = c.requires.inner in
    omega (arith, inner_inside s.turning.on s.inner c.requires.k_bound, s.turning.on.on.grid.has_codes)

pub offset_bounds-marks-y : goal.offset_bounds-marks-y
offset_bounds-marks-y c =
    let s = c.requires.inner in
    omega (arith, inner_inside s.turning.on s.inner c.requires.k_bound, cells_small s.turning.on)

pub bounds-marks-y : goal.bounds-marks-y
bounds-marks-y c =
    let s = c.requires.inner in
    omega (arith, inner_inside s.turning.on s.inner c.requires.k_bound, s.turning.has_marks)

pub returns-then-grid-y : goal.returns-then-grid-y
returns-then-grid-y c =
    let s = c.requires.inner in
    inner_here s.turning.on s.inner c.requires.k_bound c.neighbour_at.ensures _ c.if-grid-y.true

pub returns-else-grid-y : goal.returns-else-grid-y
returns-else-grid-y c =
    let s = c.requires.inner in
    ne_eqb _ _ c.if-grid-y.false
    ∙ inner_away s.turning.on s.inner c.requires.k_bound c.neighbour_at.ensures _ c.if-grid-y.false
