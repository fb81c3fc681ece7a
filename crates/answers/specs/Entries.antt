-- What accumulating, checking an accumulation and subaccumulating answer, and what they leave in the lent grids.
-- Assumes nothing.
use Rattle.std.specs.Prelude.{◌≡◌, cond, List, [], ◌∷◌, ◌++◌, ℕ, length, eqb}
use Rattle.lists.specs.Slices.{overlaid, zeros}
use Rattle.ground.specs.Grid.{Grid, grid_of, cell_count}
use Rattle.ground.specs.Accumulation.{accumulations, subaccumulations}
use Rattle.answers.specs.Checks.{Check, first_failed}
use Rattle.answers.specs.Checks.{check10, check11, check12, check13, check14, check15, check16, check17, check18}

-- what the entries with outlets are lent to read: a grid, its accumulation and the list of outlets
pub record Catchment : Type 0 where
  pub grid : Grid
  pub accumulation : List ℕ
  pub outlets : List ℕ

abbrev pub catchment : ℕ → ℕ → List ℕ → List ℕ → List ℕ → Catchment
catchment rows cols codes accumulation outlets =
    record { grid = grid_of rows cols codes; accumulation = accumulation; outlets = outlets }

-- with which every entry begins: 10; 11, by the lengths of the codes and of the other lent grids; 12
abbrev pub grid_checks : Grid → List ℕ → List Check
grid_checks g lent =
    check10 g.rows g.cols ∷ check11 g.rows g.cols (length g.codes ∷ lent) ∷ check12 g ∷ []

-- and every entry with an accumulation: 14
abbrev pub agreed_checks : Grid → List ℕ → List ℕ → List Check
agreed_checks g accumulation lent = grid_checks g lent ++ (check14 g accumulation ∷ [])

-- and every entry with outlets: 15, 16, 17
abbrev pub outlet_checks : Catchment → List ℕ → List Check
outlet_checks c lent =
    agreed_checks c.grid c.accumulation lent
    ++ (check15 c.outlets ∷ check16 c.grid c.outlets ∷ check17 c.outlets ∷ [])

-- and tracing and drawing: 18
abbrev pub place_checks : Catchment → ℕ → List ℕ → List Check
place_checks c place lent = outlet_checks c lent ++ (check18 c.outlets place ∷ [])

-- ---- ACCUMULATE: 10, 11 of two grids, 12, 13

unfoldable pub accumulate_number : Grid → List ℕ → ℕ
accumulate_number g lent = first_failed (grid_checks g (length lent ∷ []) ++ (check13 g ∷ []))

-- on 0 the accumulation, on 13 a 0 for each cell; on the other refusals nothing changes
unfoldable pub accumulate_leaves : Grid → List ℕ → List ℕ
accumulate_leaves g lent =
    cond (eqb (accumulate_number g lent) 0) (overlaid (accumulations g) lent)
    (cond (eqb (accumulate_number g lent) 13) (overlaid (zeros (cell_count g)) lent)
    lent)

pub record Accumulates (g : Grid) (old : List ℕ) (number : ℕ) (new : List ℕ) : Type 0 where
  pub answers : number ≡ accumulate_number g old
  pub leaves : new ≡ accumulate_leaves g old

-- ---- CHECK AN ACCUMULATION: 10, 11 of two grids, 12, 14

unfoldable pub check_number : Grid → List ℕ → ℕ
check_number g accumulation = first_failed (agreed_checks g accumulation (length accumulation ∷ []))

-- ---- SUBACCUMULATE: 10, 11 of three grids, 12, 14, 15, 16, 17

unfoldable pub subaccumulate_number : Catchment → List ℕ → ℕ
subaccumulate_number c lent = first_failed (outlet_checks c (length c.accumulation ∷ length lent ∷ []))

-- on 0 the subaccumulation; on refusal nothing changes
unfoldable pub subaccumulate_leaves : Catchment → List ℕ → List ℕ
subaccumulate_leaves c lent =
    cond (eqb (subaccumulate_number c lent) 0) (overlaid (subaccumulations c.grid c.outlets) lent) lent

pub record Subaccumulates (c : Catchment) (old : List ℕ) (number : ℕ) (new : List ℕ) : Type 0 where
  pub answers : number ≡ subaccumulate_number c old
  pub leaves : new ≡ subaccumulate_leaves c old
