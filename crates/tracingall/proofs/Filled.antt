-- What subaccumulating tells of all outlets, once it has filled the grid.
-- Assumes nothing.
use mathlib.Core.Path.{◌≡◌, sym, ◌∙◌, subst}
use mathlib.Core.Bool.{true}
use mathlib.Core.Logic.{inl}
use mathlib.Core.List.{List, [], map}
use Prim.Native.Nat.{ℕ, ◌*◌, ◌≤◌, ◌^◌}
use native.Mathlib.Omega.{arith}
use lib.ListN.{length, get_or}
use Rattle.lists.specs.Lists.{sum_of, greatest_of}
use Rattle.lists.specs.Slices.{overlaid, Within}
use Rattle.lists.proofs.Lists.{every_placed}
use Rattle.lists.proofs.Members.{different_sorted}
use Rattle.lists.proofs.Sums.{greatest_alike}
use Rattle.ground.specs.Tables.{table1}
use Rattle.ground.specs.Grid.{Grid, grid_of, ground}
use Rattle.ground.specs.Accumulation.{subaccumulation, subaccumulations}
use Rattle.ground.proofs.Cells.{of_ours}
use Rattle.ground.proofs.AllOutlets.{outlets_cells}
use Rattle.search.specs.Tracing.{numbers_each}
use Rattle.answers.specs.Checks.{first_failed}
use Rattle.answers.specs.Entries.{Catchment, outlet_checks, Subaccumulates, subaccumulate_number, subaccumulate_leaves}
use Rattle.alloutlets.specs.AllOutlets.{most_cells}
use Rattle.moves.proofs.Spots.{size}
use Rattle.checks.proofs.Passed.{Listed, Sized, sized}
use Rattle.accumulation.proofs.Subaccumulated.{lengths, good}
use Rattle.tracing.proofs.Filled.{chosen, fresh, in_grid, cells}
use Rattle.noting.specs.Noting.{Fresh}
use Rattle.passes.specs.Passes.{Traceable}

module _ {c : Catchment} (ours : c.grid.table ≡ table1) {old new : List ℕ} {number : ℕ}
    (s : Subaccumulates c old number new) (z : number ≡ 0) where
  abbrev land : Grid
  land = c.grid

  pub passed : first_failed (outlet_checks c (lengths c old)) ≡ 0
  unfolding subaccumulate_number
  passed = sym s.answers ∙ z

  pub filled : new ≡ overlaid (subaccumulations land c.outlets) old
  unfolding subaccumulate_leaves
  filled = s.leaves ∙ rw (sym s.answers ∙ z)

  list : Listed land c.accumulation c.outlets
  list = good c old [] passed

  sizes : Sized land.rows land.cols land.codes (lengths c old)
  sizes = sized land (lengths c old) _ 0 (inl (omega arith)) passed

  pub outlets_within : Within (length new) c.outlets
  outlets_within j i = in_grid c old ours [] passed filled j i

  -- the most cells are those that the grid has at the outlets
  pub most_is : {most : ℕ} → most ≡ greatest_of (map (λ o. get_or new o 0) c.outlets)
      → most ≡ most_cells land c.outlets
  most_is e = e ∙ greatest_alike (λ o. get_or new o 0) (subaccumulation land c.outlets) c.outlets
      (every_placed (λ o. get_or new o 0 ≡ subaccumulation land c.outlets o) c.outlets
      (cells c old ours [] passed filled))

  few_cells : sum_of (map (subaccumulation land c.outlets) c.outlets) ≤ 2 ^ 24
  few_cells = omega (
    arith,
    outlets_cells land c.outlets c.accumulation list.agreement
        (different_sorted c.outlets list.are_different)
        (every_placed (λ o. ground land o ≡ true) c.outlets list.at_ground),
    size sizes.grid.sides,
  )

  pub all_fresh : Fresh land.rows land.cols land.codes c.outlets new
  all_fresh = fresh c old ours [] passed filled

  pub traceable : {work : List ℕ} → numbers_each * most_cells land c.outlets ≤ length work
      → Traceable land.rows land.cols land.codes c.outlets work
  traceable {work} r = record {
    chosen = chosen c old ours [] passed;
    few_outlets = list.few_outlets;
    few_cells = made_of (λ g. sum_of (map (subaccumulation g c.outlets) c.outlets) ≤ 2 ^ 24) few_cells;
    room = made_of (λ g. numbers_each * most_cells g c.outlets ≤ length work) r;
  }
    where
      made_of : (P : Grid → Type 0) → P land → P (grid_of land.rows land.cols land.codes)
      made_of P = subst P (sym (of_ours land ours))
