-- What a caller knows of the checks once they have given a number: by 0, or by that of a later check.
-- Assumes nothing.
use mathlib.Core.Path.{◌≡◌, refl}
use mathlib.Core.Bool.{true}
use mathlib.Core.Logic.{◌⊎◌, inl, inr}
use mathlib.Core.List.{List, [], ◌∷◌, ◌++◌}
use Prim.Native.Nat.{ℕ, ◌*◌, ◌≤◌, ◌<◌}
use native.Mathlib.Omega.{arith}
use lib.ListN.{length, get_or}
use lib.Dec.{ltb, leb}
use borrow.Author.Tests.{leb-true, ltb-true}
use Rattle.lists.specs.Lists.{In, different}
use Rattle.lists.proofs.Lists.{and_both}
use Rattle.ground.specs.Grid.{Grid, cell_count, ground}
use Rattle.ground.specs.Accumulation.{agrees}
use Rattle.moves.specs.Lent.{LentGrid}
use Rattle.agreement.specs.Lent.{Lent}
use Rattle.answers.specs.Checks.{Check, first_failed, all_pass, is_side, check10, check11, check12, check14, check15}
use Rattle.answers.specs.Checks.{check16, check17, check18}
use Rattle.answers.specs.Entries.{Catchment, grid_checks, agreed_checks, outlet_checks, place_checks}
use Rattle.answers.proofs.FirstFailed.{all_at, apart, passed, goes_on, never}
use Rattle.checks.specs.Tests.{is_placed}

-- ---- the sizes

pub side_small : (n : ℕ) → is_side n ≡ true → (0 < n) × (n ≤ 4096)
side_small n e =
    let h = and_both (leb 1 n) (leb n 4096) e in
    let one = leb-true 1 n h.0 in
    (omega arith, leb-true n 4096 h.1)

reached : (n : ℕ) (lent : List ℕ) → all_pass (λ m. leb n m) lent ≡ true → (m : ℕ) → In m lent → n ≤ m
reached n [] e m i = absurd i
reached n (x ∷ xs) e m (inl q) =
    let h = leb-true n x (and_both (leb n x) (all_pass (λ m. leb n m) xs) e).0 in omega (arith, q, h)
reached n (x ∷ xs) e m (inr i) = reached n xs (and_both (leb n x) (all_pass (λ m. leb n m) xs) e).1 m i

-- the grid is of a size that is allowed, and each of the lent grids has its places
pub record Sized (rows cols : ℕ) (codes lent : List ℕ) : Type 0 where
  pub grid : LentGrid rows cols codes
  pub some_rows : 0 < rows
  pub some_cols : 0 < cols
  pub reach : (m : ℕ) → In m lent → rows * cols ≤ m

-- THE SIZES, where the number is none of 10 and 11
pub sized : (g : Grid) (lent : List ℕ) (rest : List Check) (n : ℕ) → (n < 10) ⊎ (11 < n)
    → first_failed (grid_checks g lent ++ rest) ≡ n → Sized g.rows g.cols g.codes lent
unfolding check10 check11
sized g lent rest n i e =
    let sides = check10 g.rows g.cols in
    let room = check11 g.rows g.cols (length g.codes ∷ lent) in
    let p = passed 11 n (sides ∷ room ∷ []) (check12 g ∷ rest) refl i e in
    let sides = and_both (is_side g.rows) (is_side g.cols) (p 10) in
    let row = side_small g.rows sides.0 in
    let col = side_small g.cols sides.1 in
    let all = and_both (leb (cell_count g) (length g.codes)) (all_pass (λ m. leb (cell_count g) m) lent) (p 11) in
    record {
      grid = record {
        sides = record { rows_small = row.1; cols_small = col.1 };
        has_codes = leb-true (cell_count g) (length g.codes) all.0;
      };
      some_rows = row.0;
      some_cols = col.0;
      reach = reached (cell_count g) lent all.1;
    }

-- the same, where the accumulation is one of the lent grids
pub sized_lent : {rows cols : ℕ} {codes lent : List ℕ} (a : List ℕ) → In (length a) lent → Sized rows cols codes lent
    → Lent rows cols codes a
sized_lent a i s = record {
  grid = s.grid;
  some_cols = s.some_cols;
  has_accumulation = s.reach (length a) i;
}

-- ---- the outlets

-- the accumulation agrees, and the list has from 1 to 256 outlets, each a cell of ground and none twice
pub record Listed (g : Grid) (accumulation outlets : List ℕ) : Type 0 where
  pub agreement : agrees g accumulation ≡ true
  pub few_outlets : length outlets ≤ 256
  pub at_ground : (j : ℕ) → j < length outlets → ground g (get_or outlets j 0) ≡ true
  pub are_different : different outlets ≡ true

-- ---- what follows 12, and none of 10 to 12 is 13

module _ (g : Grid) (lent : List ℕ) where
  pub beyond_grid : (ds : List Check) → first_failed (grid_checks g lent) ≡ 0
      → first_failed (grid_checks g lent ++ ds) ≡ first_failed ds
  unfolding check10 check11 check12
  beyond_grid ds e = goes_on (grid_checks g lent) ds (apart 12 0 (inl (omega arith)) (grid_checks g lent) refl) e

  pub grid_not_13 : first_failed (grid_checks g lent) ≡ 13 → ⊥
  unfolding check10 check11 check12
  grid_not_13 = never 13 (λ e. absurd (omega arith)) (grid_checks g lent)
      (apart 12 13 (inr (omega arith)) (grid_checks g lent) refl)

  module _ (a : List ℕ) where
    -- what follows 14
    pub beyond_agreed : (ds : List Check) → first_failed (agreed_checks g a lent) ≡ 0
        → first_failed (agreed_checks g a lent ++ ds) ≡ first_failed ds
    unfolding check10 check11 check12 check14
    beyond_agreed ds e =
        goes_on (agreed_checks g a lent) ds (apart 14 0 (inl (omega arith)) (agreed_checks g a lent) refl) e

    -- AGREEMENT, where the number is none of 10 to 14
    pub agreed : (rest : List Check) (n : ℕ) → (n < 10) ⊎ (14 < n) → first_failed (agreed_checks g a lent ++ rest) ≡ n
        → agrees g a ≡ true
    unfolding check10 check11 check12 check14
    agreed rest n i e = passed 14 n (agreed_checks g a lent) rest refl i e 14

module _ (c : Catchment) (lent : List ℕ) where
  -- what follows 17
  pub beyond_outlets : (ds : List Check) → first_failed (outlet_checks c lent) ≡ 0
      → first_failed (outlet_checks c lent ++ ds) ≡ first_failed ds
  unfolding check10 check11 check12 check14 check15 check16 check17
  beyond_outlets ds e = goes_on (outlet_checks c lent) ds (apart 17 0 (inl (omega arith)) (outlet_checks c lent) refl) e

  -- and 10 to 17 give no number beyond
  pub outlets_at_most : (n : ℕ) → 17 < n → first_failed (outlet_checks c lent) ≡ n → ⊥
  unfolding check10 check11 check12 check14 check15 check16 check17
  outlets_at_most n h = never n (λ e. absurd (omega (arith, h, e))) (outlet_checks c lent)
      (apart 17 n (inr h) (outlet_checks c lent) refl)

  -- THE OUTLETS, where the number is none of 10 to 17
  pub listed : (rest : List Check) (n : ℕ) → (n < 10) ⊎ (17 < n) → first_failed (outlet_checks c lent ++ rest) ≡ n
      → Listed c.grid c.accumulation c.outlets
  unfolding check10 check11 check12 check14 check15 check16 check17
  listed rest n i e =
      let outlets = c.outlets in
      let p = passed 17 n (outlet_checks c lent) rest refl i e in
      let few = and_both (leb 1 (length outlets)) (leb (length outlets) 256) (p 15) in
      record {
        agreement = p 14;
        few_outlets = leb-true (length outlets) 256 few.1;
        at_ground = λ j i. (and_both (ltb (get_or outlets j 0) (cell_count c.grid)) (ground c.grid (get_or outlets j 0))
            (all_at (is_placed c.grid) outlets (p 16) j i)).1;
        are_different = p 17;
      }

  module _ (place : ℕ) where
    -- what follows 18
    pub beyond_place : (ds : List Check) → first_failed (place_checks c place lent) ≡ 0
        → first_failed (place_checks c place lent ++ ds) ≡ first_failed ds
    unfolding check10 check11 check12 check14 check15 check16 check17 check18
    beyond_place ds e =
        goes_on (place_checks c place lent) ds (apart 18 0 (inl (omega arith)) (place_checks c place lent) refl) e

    -- and 10 to 18 give no number beyond
    pub place_at_most : (n : ℕ) → 18 < n → first_failed (place_checks c place lent) ≡ n → ⊥
    unfolding check10 check11 check12 check14 check15 check16 check17 check18
    place_at_most n h = never n (λ e. absurd (omega (arith, h, e))) (place_checks c place lent)
        (apart 18 n (inr h) (place_checks c place lent) refl)

    -- the place asked for is one of the list
    pub in_list : first_failed (place_checks c place lent) ≡ 0 → place < length c.outlets
    unfolding check10 check11 check12 check14 check15 check16 check17 check18
    in_list e = ltb-true place (length c.outlets)
        (passed 18 0 (place_checks c place lent) [] refl (inl (omega arith)) e 18)
