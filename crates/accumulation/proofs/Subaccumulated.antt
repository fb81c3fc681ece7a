-- What subaccumulating answers and leaves: by the checks before filling, which then succeeds.
-- Assumes nothing.
use mathlib.Core.Path.{◌≡◌, refl, sym, ap, ◌∙◌, subst}
use mathlib.Core.Bool.{Bool, true}
use mathlib.Core.Logic.{inl, inr}
use mathlib.Core.List.{List, [], ◌∷◌, ◌++◌}
use Prim.Native.Nat.{ℕ}
use native.Mathlib.Omega.{arith}
use lib.ListN.{length}
use borrow.Author.Tests.{ne_eqb}
use Rattle.lists.specs.Slices.{overlaid}
use Rattle.ground.specs.Tables.{table1}
use Rattle.ground.specs.Grid.{Grid}
use Rattle.ground.specs.Accumulation.{subaccumulations}
use Rattle.ground.proofs.Cells.{of_ours}
use Rattle.answers.specs.Checks.{Check, first_failed}
use Rattle.answers.specs.Entries.{Catchment, outlet_checks, subaccumulate_number, subaccumulate_leaves, Subaccumulates}
use Rattle.checks.proofs.Passed.{Listed, sized, listed}
use Rattle.filling.specs.Filling.{Fillable, Fills, filled_if}
use Rattle.filling.proofs.NoRings.{agrees_cut_free}

module _ (c : Catchment) (old : List ℕ) where
  abbrev land : Grid
  land = c.grid

  abbrev pub lengths : List ℕ
  lengths = length c.accumulation ∷ length old ∷ []

  abbrev pub before : List Check
  before = outlet_checks c lengths

  -- what is left, by the number
  leaves_0 : subaccumulate_number c old ≡ 0 → overlaid (subaccumulations land c.outlets) old
      ≡ subaccumulate_leaves c old
  unfolding subaccumulate_leaves
  leaves_0 e = rw e

  leaves_it : (n : ℕ) → subaccumulate_number c old ≡ n → (n ≡ 0 → ⊥) → old ≡ subaccumulate_leaves c old
  unfolding subaccumulate_leaves
  leaves_it n e z = rw (e, ne_eqb n 0 z)

  -- REFUSED
  pub refused : {number : ℕ} → number ≡ first_failed before → (number ≡ 0 → ⊥) → Subaccumulates c old number old
  unfolding subaccumulate_number
  refused {number} is f = record { answers = is; leaves = leaves_it number (sym is) f }

  -- these checks pass, whatever is checked after them
  module _ (rest : List Check) (passes : first_failed (before ++ rest) ≡ 0) where
    pub good : Listed land c.accumulation c.outlets
    good = listed c lengths rest 0 (inl (omega arith)) passes

    pub fillable : land.table ≡ table1 → Fillable land.rows land.cols land.codes c.outlets old
    fillable ours =
        let s = sized land lengths _ 0 (inl (omega arith)) passes in
        let l = subst (λ g. Listed g c.accumulation c.outlets) (sym (of_ours land ours)) good in
        record {
          grid = s.grid;
          some_cols = s.some_cols;
          has_words = s.reach (length old) (inr (inl refl));
          on_ground = l.at_ground;
        }

    -- filling succeeds
    pub filled_sub : {b : Bool} {exit : List ℕ} → Fills land c.outlets old b exit
        → exit ≡ filled_if land c.outlets true old
    filled_sub f = f.leaves ∙ ap (λ (t : Bool). filled_if land c.outlets t old)
        (f.answers ∙ agrees_cut_free land c.outlets c.accumulation good.agreement)

  -- FILLED
  module _ (passes : 0 ≡ first_failed before) where
    pub passed_fillable : land.table ≡ table1 → Fillable land.rows land.cols land.codes c.outlets old
    passed_fillable = fillable [] (sym passes)

    pub filled : {b : Bool} {exit : List ℕ} → Fills land c.outlets old b exit → Subaccumulates c old 0 exit
    unfolding subaccumulate_number
    filled f = record { answers = passes; leaves = filled_sub [] (sym passes) f ∙ leaves_0 (sym passes) }
