-- `writing::put_rows` meets its contract. The loop's invariant: the rows so far are put.
-- Assumes nothing.
use mathlib.Core.Path.{◌≡◌, refl, ◌∙◌}
use Prim.Native.Nat.{ℕ, ◌<◌, ◌+◌, ◌*◌, ◌≤◌}
use native.Mathlib.Omega.{arith}
use lib.ListN.{length}
use borrow.Author.Rules.{rules}
use Rattle.spelling.specs.Format.{row_records}
use Rattle.spelling.proofs.Sizes.{next_fits}
use Rattle.writing.proofs.Puts.{puts_none, puts_then, part_length, rows_next, rows_land}
use Rattle.writing.proofs.put_rows.Goals as goal

-- the codes of the next row are lent, and it has room in the file
lent : (row rows cols n : ℕ) → row < rows → rows * cols ≤ n → row * cols + cols ≤ n
lent row rows cols n t h = omega (arith, next_fits row rows cols t, h)

fits : (at row rows cols n : ℕ) → row < rows → at ≡ 6 + row * (4 + cols) → 6 + rows * (4 + cols) ≤ n
    → at + (4 + cols) ≤ n
fits at row rows cols n t e h = omega (arith, next_fits row rows (4 + cols) t, e, h)

pub loop-row-init : goal.loop-row-init
unfolding row_records
loop-row-init c = (refl, puts_none)

pub put_row-at-requires : goal.put_row-at-requires
put_row-at-requires c =
    let a = c.args in
    let l = c.loop-row in
    let h = lent l.row a.rows a.cols (length a.codes.now) c.loop-row-test.true c.requires.1 in
    let size = part_length a.cols (l.row * a.cols) a.codes.now h in
    let at = rows_land a.cols l.row a.codes.now l.invariant.1 (omega (arith, h)) in
    let room = fits l.at l.row a.rows a.cols (length a.file.now) c.loop-row-test.true at c.requires.0 in
    (omega (arith, room, l.invariant.0, size), search rules)

pub loop-row-preserved : goal.loop-row-preserved
loop-row-preserved c =
    let a = c.args in
    let l = c.loop-row in
    let p = c.put_row-at in
    (p.auto.file ∙ l.invariant.0, rw (rows_next a.cols l.row a.codes.now) (puts_then l.invariant.1 p.ensures))
