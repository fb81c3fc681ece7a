-- What the checks 10 to 17, and whatever follows them, tell an engine once the grid is filled.
-- Assumes nothing.
use mathlib.Core.Path.{◌≡◌, refl, sym, ap, ◌∙◌, subst}
use mathlib.Core.Bool.{Bool, true}
use mathlib.Core.Logic.{inl, inr}
use mathlib.Core.List.{List, [], ◌∷◌, ◌++◌}
use Prim.Native.Nat.{ℕ, ◌<◌}
use native.Mathlib.Omega.{arith}
use lib.ListN.{length, get_or}
use Rattle.lists.specs.Slices.{overlaid}
use Rattle.lists.proofs.Overlaid.{overlaid_length}
use Rattle.ground.specs.Tables.{table1}
use Rattle.ground.specs.Grid.{Grid, grid_of, cell_count, ground}
use Rattle.ground.specs.Accumulation.{agrees, subaccumulation, subaccumulations}
use Rattle.ground.proofs.Cells.{of_ours, ground_within}
use Rattle.answers.specs.Checks.{Check, first_failed, check18}
use Rattle.answers.specs.Entries.{Catchment, place_checks}
use Rattle.checks.proofs.Passed.{Sized, sized, Listed, in_list}
use Rattle.filling.proofs.Fronts.{filled_at}
use Rattle.accumulation.proofs.Subaccumulated.{lengths, before, good, fillable, filled_sub}
use Rattle.noting.specs.Noting.{Fresh}
use Rattle.filling.specs.Filling.{Fillable, Fills}
use Rattle.std.specs.Prelude.{Result, Ok, Err}
use Rattle.std.specs.Result.{IsErrAnd}
use Rattle.answers.specs.declared.Refusal.{Refusal}
use Rattle.answers.specs.Refusals.{refusal_number}
use Rattle.tracing.specs.Preparing.{Chosen, Prepared, Prepares}

module _ (c : Catchment) (old : List ℕ) (ours : c.grid.table ≡ table1) (rest : List Check)
    (passes : first_failed (before c old ++ rest) ≡ 0) where
  abbrev land : Grid
  land = c.grid

  made_of : (P : Grid → Type 0) → P land → P (grid_of land.rows land.cols land.codes)
  made_of P = subst P (sym (of_ours land ours))

  sizes : Sized land.rows land.cols land.codes (lengths c old)
  sizes = sized land (lengths c old) _ 0 (inl (omega arith)) passes

  list : Listed land c.accumulation c.outlets
  list = good c old rest passes

  pub chosen : (place : ℕ) → place < length c.outlets
      → Chosen land.rows land.cols land.codes c.outlets place
  chosen place i = record {
    some_cols = sizes.some_cols;
    in_list = i;
    solid = made_of (λ g. ground g (get_or c.outlets place 0) ≡ true) (list.at_ground place i);
  }

  within : (place : ℕ) → place < length c.outlets → get_or c.outlets place 0 < cell_count land
  within place i = ground_within land (get_or c.outlets place 0) (list.at_ground place i)

  module _ {new : List ℕ} (filled : new ≡ overlaid (subaccumulations land c.outlets) old) where
    long : length new ≡ length old
    long = ap (λ (l : List ℕ). length l) filled ∙ overlaid_length (subaccumulations land c.outlets) old

    at_cell : (x : ℕ) → x < cell_count land → get_or new x 0 ≡ subaccumulation land c.outlets x
    at_cell x h = ap (λ (l : List ℕ). get_or l x 0) filled
        ∙ filled_at land c.outlets old (sizes.reach (length old) (inr (inl refl))) x h

    pub fresh : Fresh land.rows land.cols land.codes c.outlets new
    fresh = record {
      grid_lent = sizes.grid;
      some_cols = sizes.some_cols;
      has_room = omega (arith, long, sizes.reach (length old) (inr (inl refl)));
      accumulation = c.accumulation;
      agreed = made_of (λ g. agrees g c.accumulation ≡ true) list.agreement;
      filled = made_of (λ g. (x : ℕ) → x < cell_count land → get_or new x 0 ≡ subaccumulation g c.outlets x) at_cell;
      on_ground = λ j i. made_of (λ g. ground g (get_or c.outlets j 0) ≡ true) (list.at_ground j i);
    }

    -- an outlet's own cells
    module _ (place : ℕ) (i : place < length c.outlets) where
      pub in_grid : get_or c.outlets place 0 < length new
      in_grid = omega (arith, within place i, fresh.has_room)

      pub cells : get_or new (get_or c.outlets place 0) 0 ≡ subaccumulation land c.outlets (get_or c.outlets place 0)
      cells = at_cell (get_or c.outlets place 0) (within place i)

-- where 18 passes too
module _ (c : Catchment) (old : List ℕ) (ours : c.grid.table ≡ table1) (place : ℕ)
    (passes : 0 ≡ first_failed (place_checks c place (lengths c old))) where
  abbrev last : List Check
  last = check18 c.outlets place ∷ []

  pub place_listed : place < length c.outlets
  place_listed = in_list c (lengths c old) place (sym passes)

  pub place_small : place < 256
  place_small = omega (arith, place_listed, (good c old last (sym passes)).few_outlets)

  pub place_fillable : Fillable c.grid.rows c.grid.cols c.grid.codes c.outlets old
  place_fillable = fillable c old last (sym passes) ours

  -- the grid is filled
  module _ {b : Bool} {new : List ℕ} (f : Fills c.grid c.outlets old b new) where
    is_full : new ≡ overlaid (subaccumulations c.grid c.outlets) old
    is_full = filled_sub c old last (sym passes) f

    pub outlet_in_grid : get_or c.outlets place 0 < length new
    outlet_in_grid = in_grid c old ours last (sym passes) is_full place place_listed

    pub is_prepared : Prepared c place old (get_or new (get_or c.outlets place 0) 0) new
    is_prepared = record {
      passes = passes;
      filled = is_full;
      counted = cells c old ours last (sym passes) is_full place place_listed;
    }

-- where a check fails
pub is_barred : (c : Catchment) (place : ℕ) (old : List ℕ) (refusal : Refusal) (r : Result ℕ Refusal)
    → IsErrAnd r (λ e. e ≡ refusal)
    → refusal_number refusal ≡ first_failed (place_checks c place (lengths c old)) → Prepares c place old r old
is_barred c place old refusal (Ok n) h e = absurd h
is_barred c place old refusal (Err other) h e = record { is_number = ap refusal_number h ∙ e; kept = refl }

-- the same, of what was prepared
module _ {c : Catchment} (ours : c.grid.table ≡ table1) {place : ℕ} {old : List ℕ} {n : ℕ} {new : List ℕ}
    (prep : Prepared c place old n new) where
  passed : first_failed (place_checks c place (lengths c old)) ≡ 0
  passed = sym prep.passes

  pub prepared_fresh : Fresh c.grid.rows c.grid.cols c.grid.codes c.outlets new
  prepared_fresh = fresh c old ours (check18 c.outlets place ∷ []) passed prep.filled

  pub prepared_chosen : Chosen c.grid.rows c.grid.cols c.grid.codes c.outlets place
  prepared_chosen = chosen c old ours (check18 c.outlets place ∷ []) passed place
      (in_list c (lengths c old) place passed)
