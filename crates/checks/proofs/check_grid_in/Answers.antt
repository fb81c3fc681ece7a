-- `checks::check_grid_in` meets its contract: each refusal is at the first test that fails.
-- Assumes nothing.
use mathlib.Core.Path.{sym, ◌∙◌}
use Prim.Native.Nat.{◌*◌, ◌≤◌}
use native.Mathlib.Nat.{mul-le-mul}
use native.Mathlib.Omega.{arith}
use Rattle.tables.proofs.Faults.{all_in}
use Rattle.checks.proofs.Passed.{side_small}
use Rattle.checks.proofs.Numbers.{no_rows, no_cols, short_codes, no_reach, other_code, grid_passes}
use Rattle.checks.proofs.check_grid_in.Goals as goal
use Rattle.checks.proofs.check_grid_in.Goals.{then-not-is_side-via-then-not-is_side}
use Rattle.checks.proofs.check_grid_in.Goals.{then-not-is_side-via-else-not-is_side+then-not-is_side-2}
use Rattle.checks.proofs.check_grid_in.Goals.{then-codes-n-via-then-codes-n}
use Rattle.checks.proofs.check_grid_in.Goals.{then-codes-n-via-else-codes-n+then-not-all_reach}

pub returns-then-not-is_side : goal.returns-then-not-is_side
returns-then-not-is_side c t e =
    let a = c.args in
    elim c.then-not-is_side.branch [
      | then-not-is_side-via-then-not-is_side w ↦
          no_rows t a.rows a.cols a.codes.now a.lent.now (sym c.is_side.ensures ∙ w.if-not-is_side.true)
      | then-not-is_side-via-else-not-is_side+then-not-is_side-2 w ↦
          no_cols t a.rows a.cols a.codes.now a.lent.now (sym c.is_side.ensures ∙ w.if-not-is_side.false)
          (sym w.is_side-else-not-is_side.ensures ∙ w.if-not-is_side-2.true)
    ]

pub overflow_mul-n : goal.overflow_mul-n
overflow_mul-n c =
    let a = c.args in
    let small : a.rows * a.cols ≤ 4096 * 4096 =
    mul-le-mul (side_small a.rows (sym c.is_side.ensures ∙ c.if-not-is_side.false)).1
    (side_small a.cols (sym c.is_side-else-not-is_side.ensures ∙ c.if-not-is_side-2.false)).1 in
    omega arith

pub returns-then-codes-n : goal.returns-then-codes-n
returns-then-codes-n c t e =
    let a = c.args in
    let row = sym c.is_side.ensures ∙ c.if-not-is_side.false in
    let col = sym c.is_side-else-not-is_side.ensures ∙ c.if-not-is_side-2.false in
    elim c.then-codes-n.branch [
      | then-codes-n-via-then-codes-n w ↦
          short_codes t a.rows a.cols a.codes.now a.lent.now row col w.if-codes-n.true
      | then-codes-n-via-else-codes-n+then-not-all_reach w ↦
          no_reach t a.rows a.cols a.codes.now a.lent.now row col w.if-codes-n.false
          (sym w.all_reach.ensures ∙ w.if-not-all_reach.true)
    ]

pub returns-then-not-all_codes : goal.returns-then-not-all_codes
returns-then-not-all_codes c t e =
    let a = c.args in
    other_code t a.rows a.cols a.codes.now a.lent.now (sym c.is_side.ensures ∙ c.if-not-is_side.false)
    (sym c.is_side-else-not-is_side.ensures ∙ c.if-not-is_side-2.false) c.if-codes-n.false
    (sym c.all_reach.ensures ∙ c.if-not-all_reach.false)
    (sym (c.all_codes.ensures ∙ all_in t e a.codes.now (a.rows * a.cols)) ∙ c.if-not-all_codes.true)

pub returns : goal.returns
returns c t e =
    let a = c.args in
    grid_passes t a.rows a.cols a.codes.now a.lent.now (sym c.is_side.ensures ∙ c.if-not-is_side.false)
    (sym c.is_side-else-not-is_side.ensures ∙ c.if-not-is_side-2.false) c.if-codes-n.false
    (sym c.all_reach.ensures ∙ c.if-not-all_reach.false)
    (sym (c.all_codes.ensures ∙ all_in t e a.codes.now (a.rows * a.cols)) ∙ c.if-not-all_codes.false)
