-- `divide::note_cells` meets its contract. The invariant: of the cells so far those beside no outside one are noted.
-- Assumes nothing.
use mathlib.Core.Path.{◌≡◌, refl, ap, subst}
use mathlib.Core.Bool.{not}
use Prim.Native.Nat.{ℕ}
use native.Mathlib.Omega.{arith}
use lib.Seq.{length-take-le}
use Rattle.divide.specs.Divides.{NotesCells}
use Rattle.divide.proofs.Changing.{changes_none, notes_more, notes_past}
use Rattle.divide.proofs.note_cells.Goals.{then-not-is_beside, else-not-is_beside}
use Rattle.divide.proofs.note_cells.Goals as goal

pub loop-number-init : goal.loop-number-init
loop-number-init c = changes_none (λ x. refl)

pub loop-number-preserved : goal.loop-number-preserved
loop-number-preserved c =
    let s = c.requires in
    let h = c.loop-number-test.true in
    let l = c.loop-number in
    let e = c.is_beside.ensures in
    elim c.if-not-is_beside.branch [
      | then-not-is_beside w ↦ rw w.words-is (notes_more s.on_list h s.has_room c.args.grid.codes.now l.invariant e
          (ap not w.if-not-is_beside.true))
      | else-not-is_beside w ↦ rw w.words-is (notes_past s.on_list h s.has_room c.args.grid.codes.now l.invariant e
          (ap not w.if-not-is_beside.false))
    ]

pub returns : goal.returns
returns c =
    let a = c.args in
    let e : c.loop-number.number-index ≡ a.n = omega (arith, length-take-le a.n a.list.now c.requires.on_list.within) in
    subst (λ (k : ℕ). NotesCells a.grid.rows a.grid.cols a.grid.codes.now k a.list.now a.words.now c.loop-number.words) e c.loop-number.invariant
