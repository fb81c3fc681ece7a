-- `reading::rows_from` meets its contract. The loop's invariant: the rows still to come give the number of all.
-- Assumes nothing.
use mathlib.Core.Path.{◌≡◌, ◌∙◌}
use Prim.Native.Nat.{◌+◌, ◌-◌, ◌*◌}
use native.Mathlib.Nat.{suc-mul}
use native.Mathlib.Numerals.{add-one}
use native.Mathlib.Omega.{arith}
use Rattle.std.proofs.lemmas.Result.{err_from_is_err_and}
use Rattle.reading.proofs.Walking.{rows_on, rows_stop, rows_done}
use Rattle.reading.proofs.rows_from.Goals as goal

pub loop-row-preserved : goal.loop-row-preserved
loop-row-preserved c =
    let a = c.args in
    let l = c.loop-row in
    let p = c.in_ok-here.ensures in
    let n : a.rows - (l.row + 1) ≡ a.rows - l.row - 1 = omega arith in (
      rw (add-one l.row, suc-mul l.row (4 + a.cols)) (omega (arith, p.lands, l.invariant.0)),
      omega (arith, p.lands, p.fits),
      rw n
          (l.invariant.2
          ∙ rows_on a.file.now a.rows a.cols l.row l.here.at (a.rows - l.row) (omega arith) _ p),
    )

pub returns-in_err-here : goal.returns-in_err-here
returns-in_err-here c =
    let a = c.args in
    let l = c.loop-row in
    let p = err_from_is_err_and c.from_residual.result c.from_residual.ensures.1 in
    rw (p.1, p.2)
    (l.invariant.2
    ∙ rows_stop a.file.now a.rows a.cols l.row l.here.at (a.rows - l.row) _ (omega arith) c.in_err-here.ensures)

pub returns : goal.returns
returns c =
    let a = c.args in
    let l = c.loop-row in
    let e : l.row ≡ a.rows = omega arith in
    let at : l.here.at ≡ 6 + a.rows * (4 + a.cols) = rw (← e) l.invariant.0 in
    record {
      lands = at;
      fits = omega arith;
      on =
          l.invariant.2
          ∙ rows_done a.file.now a.rows a.cols l.row l.here.at (a.rows - l.row) (omega arith)
          ∙ rw at;
    }
