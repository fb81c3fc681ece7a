-- `divide::leave_cells` meets its contract. The invariant: the cells so far are left.
-- Assumes nothing.
use mathlib.Core.Path.{◌≡◌, refl, subst}
use Prim.Native.Nat.{ℕ}
use native.Mathlib.Omega.{arith}
use lib.Seq.{length-take-le}
use Rattle.divide.specs.Divides.{LeavesCells}
use Rattle.divide.proofs.Changing.{changes_none, leaves_more}
use Rattle.divide.proofs.leave_cells.Goals as goal

pub loop-number-init : goal.loop-number-init
loop-number-init c = changes_none (λ x. refl)

pub loop-number-preserved : goal.loop-number-preserved
loop-number-preserved c =
    leaves_more c.requires.on_list c.loop-number-test.true c.requires.has_room c.loop-number.invariant

pub returns : goal.returns
returns c =
    let a = c.args in
    let e : c.loop-number.number-index ≡ a.n = omega (arith, length-take-le a.n a.list.now c.requires.on_list.within) in
    subst (λ (k : ℕ). LeavesCells a.grid.rows a.grid.cols k a.list.now a.words.now c.loop-number.words) e c.loop-number.invariant
