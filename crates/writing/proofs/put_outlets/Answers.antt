-- `writing::put_outlets` meets its contract. The loop's invariant: the outlets so far are put.
-- Assumes nothing.
use mathlib.Core.Path.{refl, ◌∙◌}
use native.Mathlib.Nat.{mod-le, div-le_self}
use native.Mathlib.Omega.{arith}
use lib.ListN.{get_or}
use Rattle.cells.proofs.Numbers.{is_row_lem, is_col}
use Rattle.spelling.specs.Format.{outlet_records}
use Rattle.writing.proofs.Puts.{puts_none, puts_then, outlets_next, outlets_land}
use Rattle.writing.proofs.put_outlets.Goals as goal

pub loop-outlet-init : goal.loop-outlet-init
unfolding outlet_records
loop-outlet-init c = (refl, puts_none)

pub put_pair-at-requires : goal.put_pair-at-requires
put_pair-at-requires c =
    let l = c.loop-outlet in
    let a = c.args in
    let k = l.outlet-index in
    let o = c.split_number-cell.ensures in
    let n = get_or a.outlets.now k 0 in
    let small = c.requires.2 k c.loop-outlet-test.true in (
      omega (arith, outlets_land a.cols k a.outlets.now l.invariant.1 (omega arith), l.invariant.0),
      omega (arith, small, is_row_lem o, div-le_self n a.cols),
      omega (arith, small, is_col o, mod-le n a.cols),
    )

pub loop-outlet-preserved : goal.loop-outlet-preserved
loop-outlet-preserved c =
    let l = c.loop-outlet in
    let a = c.args in
    let p = c.put_pair-at in (
      p.auto.file ∙ l.invariant.0,
      rw (outlets_next a.cols l.outlet-index a.outlets.now c.loop-outlet-test.true c.split_number-cell.ensures)
          (puts_then l.invariant.1 p.ensures),
    )
