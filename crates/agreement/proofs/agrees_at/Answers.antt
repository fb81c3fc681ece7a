-- `agreement::agrees_at` meets its contract: a null cell has 0, any other 1 more than the sum of its inflow record.
-- Assumes nothing.
use mathlib.Core.Path.{◌≡◌, ◌∙◌}
use Prim.Native.Nat.{◌+◌, ◌*◌}
use native.Mathlib.Omega.{arith}
use Rattle.lists.specs.Lists.{sum_of}
use Rattle.ground.specs.Grid.{grid_of, inflow_record}
use Rattle.agreement.proofs.Cells.{null_agrees, ground_agrees, inside}
use Rattle.agreement.proofs.Sums.{record_small}
use Rattle.agreement.proofs.agrees_at.Goals as goal

pub returns-then-grid-at-eq0 : goal.returns-then-grid-at-eq0
returns-then-grid-at-eq0 c =
    null_agrees _ _ (inside c.requires).0 c.args.accumulation.now c.from-value.ensures
    c.if-grid-at-eq0.true

-- what was added up is the record's sum
sum_is : (c : goal.After-sum-sum) → let a = c.args in
    c.sum-sum.result
    ≡ sum_of (inflow_record (grid_of a.grid.rows a.grid.cols a.grid.codes.now) a.accumulation.now
    (a.cell.row * a.grid.cols + a.cell.col))
sum_is c = c.sum-sum.ensures ∙ rw c.inflows_of.ensures

pub overflow_add-result : goal.overflow_add-result
overflow_add-result c =
    omega (
      arith,
      sum_is c,
      record_small (grid_of c.args.grid.rows c.args.grid.cols c.args.grid.codes.now) c.args.accumulation.now
          (λ y. omega (arith, c.type_inv.accumulation y))
          (c.args.cell.row * c.args.grid.cols + c.args.cell.col),
    )

pub returns : goal.returns
returns c =
    ground_agrees _ _ (inside c.requires).0 c.args.accumulation.now
    c.from-value.ensures
    (sum_is c) c.if-grid-at-eq0.false
