-- `noting::make_ready` meets its contract: the outlets are noted, then one divide after the other.
-- Assumes nothing.
use mathlib.Core.Path.{◌≡◌, ◌∙◌, subst}
use Prim.Native.Nat.{ℕ}
use native.Mathlib.Omega.{arith}
use lib.ListN.{length}
use borrow.Author.Tests.{eq-eqb, ne_eqb}
use Rattle.lists.proofs.Kept.{kept_all, kept_then}
use Rattle.noting.proofs.Readying.{Marked, ListKept, list_next, few, outlets_within, ready_plain, marked_begin}
use Rattle.noting.proofs.Readying.{can_note, marked_next, ready_marked}
use Rattle.noting.proofs.make_ready.Goals as goal

pub overflow_mul-grid : goal.overflow_mul-grid
overflow_mul-grid c = omega (arith, few c.requires.fresh)

pub note_outlets-requires : goal.note_outlets-requires
note_outlets-requires c =
    (c.requires.fresh.has_room, outlets_within c.requires.fresh)

pub loop-j-init : goal.loop-j-init
loop-j-init c = (
  marked_begin c.requires.fresh c.args.first c.note_outlets.ensures,
  kept_all,
  λ most f. kept_all,
)

pub loop-j-preserved : goal.loop-j-preserved
loop-j-preserved c =
    let a = c.args in
    let i = c.loop-j.invariant in
    let d = c.note_enclosed.ensures in (
      marked_next c.requires.fresh a.first i.0 c.loop-j.auto.j d.notes,
      kept_then i.1 d.notes.kept,
      list_next a.grid.rows a.grid.cols a.grid.codes.now a.outlets.now c.loop-j.auto.j i.2 d.kept,
    )

pub shape_of-subaccumulation : goal.shape_of-subaccumulation
shape_of-subaccumulation c =
    c.loop-j.invariant.1.same_length ∙ c.note_outlets.ensures.kept.same_length

pub shape_of-list : goal.shape_of-list
shape_of-list c =
    (c.loop-j.invariant.2 (length c.args.list.now)
    (λ j a b. c.requires.places.room j a (omega arith))).same_length

pub returns-then-edition-ne2 : goal.returns-then-edition-ne2
returns-then-edition-ne2 c =
    ready_plain c.requires.fresh (ne_eqb _ _ c.if-edition-ne2.true) c.requires.places.in_list

pub note_enclosed-requires : goal.note_enclosed-requires
note_enclosed-requires c =
    let i = c.loop-j.invariant in
    can_note c.requires.fresh c.args.first i.0 (omega arith)
    (omega (
      arith,
      c.requires.places.room c.loop-j.j c.loop-j.auto.j (omega arith),
      (i.2 (length c.args.list.now) (λ j a b. c.requires.places.room j a (omega arith))).same_length,
    ))

pub returns : goal.returns
returns c =
    let a = c.args in
    let i = c.loop-j.invariant in
    let e : c.loop-j.j ≡ a.end = omega arith in
    ready_marked c.requires.fresh a.first c.requires.places.in_list
    (subst (λ (k : ℕ). Marked a.grid.rows a.grid.cols a.grid.codes.now a.outlets.now a.first k c.loop-j.subaccumulation)
    e i.0) (eq-eqb _ _ c.if-edition-ne2.false)
    (kept_then c.note_outlets.ensures.kept i.1)
    (subst (λ (k : ℕ). ListKept a.grid.rows a.grid.cols a.grid.codes.now a.outlets.now a.first k a.list.now
    c.loop-j.list) e i.2)
