-- `agreement::agrees_inside` meets its contract: as `agrees_at` does, by what is due at the cell.
-- Assumes nothing.
use mathlib.Core.Path.{◌≡◌, ap, ◌∙◌}
use Prim.Native.Nat.{◌+◌, ◌*◌}
use native.Mathlib.Omega.{arith}
use lib.Dec.{eqb}
use Rattle.lists.specs.Lists.{sum_of}
use Rattle.ground.specs.Grid.{grid_of, inflow_record}
use Rattle.agreement.proofs.Cells.{null_agrees, ground_agrees, inside}
use Rattle.agreement.proofs.Sums.{record_small}
use Rattle.agreement.proofs.agrees_inside.Goals as goal
use Rattle.agreement.proofs.agrees_inside.Goals.{then-grid-at-eq0, else-grid-at-eq0}

-- what was added up is the record's sum
sum_is : (c : goal.Else-grid-at-eq0) → let a = c.args in
    c.sum-sum.result
    ≡ sum_of (inflow_record (grid_of a.grid.rows a.grid.cols a.grid.codes.now) a.accumulation.now
    (a.cell.row * a.grid.cols + a.cell.col))
sum_is c = c.sum-sum.ensures ∙ rw c.inner_inflows.ensures

pub overflow_add-due : goal.overflow_add-due
overflow_add-due c =
    omega (
      arith,
      sum_is c,
      record_small (grid_of c.args.grid.rows c.args.grid.cols c.args.grid.codes.now) c.args.accumulation.now
          (λ y. omega (arith, c.type_inv.accumulation y))
          (c.args.cell.row * c.args.grid.cols + c.args.cell.col),
    )

pub returns : goal.returns
returns c =
    let value = c.from-value in
    elim c.if-grid-at-eq0.branch [
      | then-grid-at-eq0 w ↦ ap (eqb value.result) w.due-is
          ∙ null_agrees _ _ (inside c.requires.has).0 c.args.accumulation.now value.ensures w.if-grid-at-eq0.true
      | else-grid-at-eq0 w ↦ ap (eqb value.result) w.due-is
          ∙ ground_agrees _ _ (inside c.requires.has).0 c.args.accumulation.now value.ensures
          (c.sum-sum.ensures ∙ rw c.inner_inflows.ensures) w.if-grid-at-eq0.false
    ]
