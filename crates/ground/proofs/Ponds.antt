-- A POND is ground that drains nowhere: a walk that comes to it ends at it.
-- Assumes nothing.
use mathlib.Core.Path.{◌≡◌, refl, sym, ap, ◌∙◌}
use mathlib.Core.Bool.{true, false, not, true≢false}
use mathlib.Core.Logic.{inl, inr}
use mathlib.Core.List.{List}
use mathlib.Core.Option.{none, some}
use Prim.Native.Nat.{ℕ, ◌≤◌, ◌<◌}
use native.Mathlib.Omega.{arith}
use native.Mathlib.Decide.{dec_lt}
use lib.Dec.{eqb}
use borrow.Author.Tests.{eqb-true, ne_eqb}
use Rattle.lists.specs.Lists.{In}
use Rattle.lists.proofs.Lists.{every_in}
use Rattle.ground.specs.Compass.{Dir, opposite}
use Rattle.ground.specs.Tables.{Table, pond, dir_of}
use Rattle.ground.specs.Grid.{Grid, code_at, ground, is_pond, neighbour, flow, next, flows_in, inflows}
use Rattle.ground.specs.Walk.{after}
use Rattle.ground.specs.Subwatershed.{is_outlet, InSubwatershed}
use Rattle.ground.proofs.Tables.{table_facts}
use Rattle.ground.proofs.Walks.{after_last}
use Rattle.ground.proofs.Cells.{next_none, next_is}
use Rattle.ground.proofs.GridNetwork.{network}

-- in no table a direction has the pond's code
pub pond_no_direction : (t : Table) (d : Dir) → pond ≡ t.code_of d → ⊥
pond_no_direction t d e = (table_facts t).directed d (inr (inl (sym e)))

module _ (g : Grid) (p : ℕ) (is-pond : is_pond g p ≡ true) where
  code_is : code_at g p ≡ pond
  code_is = eqb-true (code_at g p) pond is-pond

  -- it has ground
  pub pond_ground : ground g p ≡ true
  pond_ground = ap (λ (c : ℕ). not (eqb c 0)) code_is

  -- it flows nowhere
  pub pond_nowhere : next g p ≡ none
  pond_nowhere = next_none g p (ap (dir_of g.table) code_is
      ∙ (table_facts g.table).gives_none pond (inr (inl refl)))

  -- and into nobody: its code points back at no neighbour, and no cell has it among its inflows
  pub pond_into_nobody : (d : Dir) → flows_in g d (some p) ≡ false
  pond_into_nobody d = ne_eqb (code_at g p) (g.table.code_of (opposite d))
      (λ e. pond_no_direction g.table (opposite d) (sym code_is ∙ e))

  pub pond_no_inflow : (x : ℕ) (s : Dir) → In (record { cell = p; step = s }) (inflows g x) → ⊥
  pond_no_inflow x s i =
      let e = every_in (λ k. next g k.cell ≡ some (record { cell = x; step = k.step }))
      (record { cell = p; step = s }) (inflows g x) ((network g).sound x) i in
      let q : none ≡ some _ = sym pond_nowhere ∙ e in
      let w : ◌≡◌ {A = ℕ} 0 1 = cc in
      omega arith

  -- a walk does not end before it: what points at it goes there
  pub into_pond : (y : ℕ) (d : Dir) → flow g y ≡ some d → neighbour g y d ≡ some p
      → next g y ≡ some (record { cell = p; step = d })
  into_pond y d f n = next_is g y d p f n pond_ground

  -- it ends at it: the pond is the last cell of every walk that comes to it
  pub ends_at_pond : (c k : ℕ) → after (next g) k c ≡ some p → (j : ℕ) → k < j → after (next g) j c ≡ none
  ends_at_pond c k e = after_last (next g) k c p e pond_nowhere

  -- so cells that drain to it by way of no outlet, the pond itself being none, are in no subwatershed
  module _ (outlets : List ℕ) (c k : ℕ) (comes : after (next g) k c ≡ some p)
      (not_outlet : (j x : ℕ) → j ≤ k → after (next g) j c ≡ some x → is_outlet g outlets x ≡ false) where
    pub in_no_subwatershed : (o : ℕ) → is_outlet g outlets o ≡ true → InSubwatershed g outlets o c → ⊥
    in_no_subwatershed o outlet_is m = elim (dec_lt k m.steps) [
      | yes h ↦ over (sym (ends_at_pond c k comes m.steps h) ∙ m.meets)
      | no h ↦ true≢false (sym outlet_is ∙ not_outlet m.steps o (omega arith) m.meets)
    ]
      where
        over : none ≡ some o → ⊥
        over q = let w : ◌≡◌ {A = ℕ} 0 1 = cc in omega arith
