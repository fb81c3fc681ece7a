-- The number of the first check that fails, by the tests made before it.
-- Assumes nothing.
use mathlib.Core.Path.{◌≡◌, sym, ◌∙◌}
use mathlib.Core.Bool.{Bool, true, false, ◌&&◌}
use mathlib.Core.List.{List, [], ◌∷◌}
use Prim.Native.Nat.{ℕ, ◌*◌, ◌≤◌, ◌<◌}
use lib.ListN.{length, get_or}
use lib.Dec.{leb}
use borrow.Author.Tests.{le-leb, lt-leb, lt-ltb, le-ltb}
use Rattle.lists.specs.Lists.{all_below, different}
use Rattle.ground.specs.Grid.{Grid, grid_in}
use Rattle.ground.specs.Accumulation.{agrees}
use Rattle.ground.specs.Tables.{Table, is_code}
use Rattle.answers.specs.Checks.{first_failed, all_pass, is_side, check10, check11, check12, check14, check15, check16}
use Rattle.answers.specs.Checks.{check17, check18}
use Rattle.answers.specs.Entries.{Catchment, grid_checks, agreed_checks, outlet_checks, place_checks}
use Rattle.checks.specs.Tests.{is_placed}
use Rattle.checks.proofs.Passed.{beyond_grid, beyond_agreed, beyond_outlets}

module _ (t : Table) (rows cols : ℕ) (codes lent : List ℕ) where
  abbrev grid_number : ℕ
  grid_number = first_failed (grid_checks (grid_in t rows cols codes) lent)

  pub no_rows : is_side rows ≡ false → 10 ≡ grid_number
  unfolding first_failed check10
  no_rows e = rw e

  module _ (a : is_side rows ≡ true) where
    pub no_cols : is_side cols ≡ false → 10 ≡ grid_number
    unfolding first_failed check10
    no_cols e = rw (a, e)

    module _ (b : is_side cols ≡ true) where
      pub short_codes : length codes < rows * cols → 11 ≡ grid_number
      unfolding first_failed check10 check11
      short_codes h = rw (a, b, lt-leb (rows * cols) (length codes) h)

      module _ (h : rows * cols ≤ length codes) where
        pub no_reach : all_pass (λ m. leb (rows * cols) m) lent ≡ false → 11 ≡ grid_number
        unfolding first_failed check10 check11
        no_reach e = rw (a, b, le-leb (rows * cols) (length codes) h, e)

        module _ (c : all_pass (λ m. leb (rows * cols) m) lent ≡ true) where
          pub other_code : all_below (λ x. is_code t (get_or codes x 0)) (rows * cols) ≡ false → 12 ≡ grid_number
          unfolding first_failed check10 check11 check12
          other_code e = rw (a, b, le-leb (rows * cols) (length codes) h, c, e)

          pub grid_passes : all_below (λ x. is_code t (get_or codes x 0)) (rows * cols) ≡ true → 0 ≡ grid_number
          unfolding first_failed check10 check11 check12
          grid_passes e = rw (a, b, le-leb (rows * cols) (length codes) h, c, e)

-- after 12
module _ (g : Grid) (a lent : List ℕ) (z : first_failed (grid_checks g lent) ≡ 0) where
  pub disagrees : agrees g a ≡ false → 14 ≡ first_failed (agreed_checks g a lent)
  unfolding first_failed check14
  disagrees e = sym (beyond_grid g lent (check14 g a ∷ []) z ∙ rw e)

  pub agreement_passes : agrees g a ≡ true → 0 ≡ first_failed (agreed_checks g a lent)
  unfolding first_failed check14
  agreement_passes e = sym (beyond_grid g lent (check14 g a ∷ []) z ∙ rw e)

-- after 14
module _ (c : Catchment) (lent : List ℕ)
    (z : first_failed (agreed_checks c.grid c.accumulation lent) ≡ 0) where
  abbrev outlets : List ℕ
  outlets = c.outlets

  abbrev outlet_number : ℕ
  outlet_number = first_failed (outlet_checks c lent)

  beyond : outlet_number ≡ first_failed (check15 outlets ∷ check16 c.grid outlets ∷ check17 outlets ∷ [])
  beyond = beyond_agreed c.grid lent c.accumulation
      (check15 outlets ∷ check16 c.grid outlets ∷ check17 outlets ∷ []) z

  abbrev few : Bool
  few = leb 1 (length outlets) && leb (length outlets) 256

  pub not_few : few ≡ false → 15 ≡ outlet_number
  unfolding first_failed check15
  not_few e = sym (beyond ∙ rw e)

  module _ (f : few ≡ true) where
    pub not_all_placed : all_pass (is_placed c.grid) outlets ≡ false → 16 ≡ outlet_number
    unfolding first_failed check15 check16
    not_all_placed e = sym (beyond ∙ rw (f, e))

    module _ (p : all_pass (is_placed c.grid) outlets ≡ true) where
      pub listed_twice : different outlets ≡ false → 17 ≡ outlet_number
      unfolding first_failed check15 check16 check17
      listed_twice e = sym (beyond ∙ rw (f, p, e))

      pub outlets_pass : different outlets ≡ true → 0 ≡ outlet_number
      unfolding first_failed check15 check16 check17
      outlets_pass e = sym (beyond ∙ rw (f, p, e))

-- after 17
module _ (c : Catchment) (place : ℕ) (lent : List ℕ) (z : first_failed (outlet_checks c lent) ≡ 0) where
  pub beyond_list : length c.outlets ≤ place → 18 ≡ first_failed (place_checks c place lent)
  unfolding first_failed check18
  beyond_list h =
      sym (beyond_outlets c lent (check18 c.outlets place ∷ []) z ∙ rw (le-ltb place (length c.outlets) h))

  pub place_passes : place < length c.outlets → 0 ≡ first_failed (place_checks c place lent)
  unfolding first_failed check18
  place_passes h =
      sym (beyond_outlets c lent (check18 c.outlets place ∷ []) z ∙ rw (lt-ltb place (length c.outlets) h))
