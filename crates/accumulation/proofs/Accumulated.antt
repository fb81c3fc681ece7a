-- What accumulating answers and leaves: by the checks before filling, and by whether filling succeeds.
-- Assumes nothing.
use mathlib.Core.Path.{◌≡◌, refl, sym, ◌∙◌}
use mathlib.Core.Bool.{Bool, true, false, cond}
use mathlib.Core.Logic.{inl}
use mathlib.Core.List.{List, [], ◌∷◌}
use Prim.Native.Nat.{ℕ, ◌*◌}
use native.Mathlib.Omega.{arith}
use lib.ListN.{length}
use borrow.Author.Tests.{ne_eqb}
use Rattle.lists.specs.Slices.{overlaid, zeros}
use Rattle.ground.specs.Grid.{Grid, grid_of}
use Rattle.ground.specs.Walk.{ring_free}
use Rattle.ground.specs.Accumulation.{accumulations}
use Rattle.answers.specs.Checks.{Check, first_failed, check13}
use Rattle.answers.specs.Entries.{grid_checks, accumulate_number, accumulate_leaves, Accumulates}
use Rattle.answers.proofs.FirstFailed.{handed_on}
use Rattle.checks.proofs.Passed.{sized, beyond_grid, grid_not_13}
use Rattle.filling.specs.Filling.{Fillable, Fills}
use Rattle.filling.proofs.NoRings.{free_no_outlets}

module _ (rows cols : ℕ) (codes a : List ℕ) where
  abbrev land : Grid
  land = grid_of rows cols codes

  -- the checks before filling
  abbrev pub before : List Check
  before = grid_checks land (length a ∷ [])

  -- what is left, by the number
  leaves_0 : accumulate_number land a ≡ 0 → overlaid (accumulations land) a ≡ accumulate_leaves land a
  unfolding accumulate_leaves
  leaves_0 e = rw e

  leaves_13 : accumulate_number land a ≡ 13 → overlaid (zeros (rows * cols)) a ≡ accumulate_leaves land a
  unfolding accumulate_leaves
  leaves_13 e = rw e

  leaves_it : (n : ℕ) → accumulate_number land a ≡ n → (n ≡ 0 → ⊥) → (n ≡ 13 → ⊥) → a ≡ accumulate_leaves land a
  unfolding accumulate_leaves
  leaves_it n e z r = rw (e, ne_eqb n 0 z, ne_eqb n 13 r)

  -- REFUSED BEFORE FILLING
  pub refused : {number : ℕ} → number ≡ first_failed before → (number ≡ 0 → ⊥) → Accumulates land a number a
  unfolding accumulate_number
  refused {number} is f =
      let e = handed_on before (check13 land ∷ []) is f in
      record {
        answers = e;
        leaves = leaves_it number (sym e) f (λ q. grid_not_13 land (length a ∷ []) (sym is ∙ q));
      }

  module _ (passes : first_failed before ≡ 0) where
    pub fillable : Fillable rows cols codes [] a
    fillable =
        let s = sized (grid_of rows cols codes) (length a ∷ []) [] 0 (inl (omega arith)) passes in
        record {
          grid = s.grid;
          some_cols = s.some_cols;
          has_words = s.reach (length a) (inl refl);
          on_ground = λ j h. absurd (omega (arith, h));
        }

    by_ring : (b : Bool) → ring_free land ≡ b → accumulate_number land a ≡ cond b 0 13
    unfolding first_failed check13 accumulate_number
    by_ring b e = beyond_grid land (length a ∷ []) (check13 land ∷ []) passes ∙ rw e

    -- FILLED, OR CLEARED
    pub filled : (b : Bool) {exit : List ℕ} → Fills land [] a b exit → Accumulates land a (cond b 0 13) exit
    filled true f =
        let n = by_ring true (sym (f.answers ∙ free_no_outlets land)) in
        record { answers = sym n; leaves = f.leaves ∙ leaves_0 n }
    filled false f =
        let n = by_ring false (sym (f.answers ∙ free_no_outlets land)) in
        record { answers = sym n; leaves = f.leaves ∙ leaves_13 n }
