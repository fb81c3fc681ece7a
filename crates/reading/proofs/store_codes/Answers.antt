-- `reading::store_codes` meets its contract.
-- Assumes nothing.
use mathlib.Core.Path.{◌≡◌, sym, ◌∙◌}
use Prim.Native.Nat.{ℕ, ◌+◌, ◌-◌, ◌*◌, ◌≤◌, ◌<◌}
use native.Mathlib.Nat.{suc-mul}
use native.Mathlib.Numerals.{add-one}
use native.Mathlib.Omega.{arith}
use lib.ListN.{length}
use Rattle.spelling.proofs.Sizes.{next_fits}
use Rattle.reading.proofs.Steps.{part_length}
use Rattle.reading.proofs.Stores.{codes_next, codes_stored}
use Rattle.reading.proofs.store_codes.Goals as goal

-- the row that is next stands whole in the file, and has room in the grid
fits : (at row rows cols n : ℕ) → row < rows → at ≡ 6 + row * (4 + cols) → 6 + rows * (4 + cols) ≤ n
    → at + (4 + cols) ≤ n
fits at row rows cols n t e h = omega (arith, next_fits row rows (4 + cols) t, e, h)

room : (row rows cols n : ℕ) → row < rows → rows * cols ≤ n → row * cols + cols ≤ n
room row rows cols n t h = omega (arith, next_fits row rows cols t, h)

pub copy-requires : goal.copy-requires
copy-requires c =
    let a = c.args in
    let l = c.loop-row in
    let f = fits l.at l.row a.rows a.cols (length a.file.now) c.loop-row-test.true l.invariant.0 c.requires.0 in
    omega (
      arith,
      room l.row a.rows a.cols (length a.codes.now) c.loop-row-test.true c.requires.1,
      part_length a.file.now a.cols l.at f,
    )

pub loop-row-preserved : goal.loop-row-preserved
loop-row-preserved c =
    let a = c.args in
    let l = c.loop-row in
    let f = fits l.at l.row a.rows a.cols (length a.file.now) c.loop-row-test.true l.invariant.0 c.requires.0 in
    let n : a.rows - (l.row + 1) ≡ a.rows - l.row - 1 = omega arith in
    let m : (l.row + 1) * a.cols ≡ l.row * a.cols + a.cols =
    rw (add-one l.row) (suc-mul l.row a.cols) in (
      rw (add-one l.row, suc-mul l.row (4 + a.cols)) (omega (arith, l.invariant.0)),
      rw (c.copy.ensures, n, m)
          (l.invariant.1 ∙ codes_next l.codes a.file.now a.cols (l.row * a.cols) l.at (a.rows - l.row) (omega arith) f),
    )

pub returns : goal.returns
returns c =
    let a = c.args in
    let l = c.loop-row in
    codes_stored l.codes a.file.now a.cols (l.row * a.cols) l.at (a.rows - l.row) (omega arith)
    ∙ sym l.invariant.1
