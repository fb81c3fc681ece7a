-- What accumulating leaves passes check 14, so that after it no other entry answers 14.
-- Assumes nothing.
use mathlib.Core.Path.{◌≡◌, refl, ◌∙◌}
use mathlib.Core.Bool.{Bool, true, false, cond, ◌&&◌}
use mathlib.Core.Logic.{inl}
use mathlib.Core.List.{List, [], ◌∷◌, ◌++◌}
use Prim.Native.Nat.{ℕ}
use native.Mathlib.Omega.{arith}
use lib.ListN.{length}
use lib.Dec.{leb}
use borrow.Author.Tests.{leb-true}
use Rattle.lists.specs.Slices.{overlaid}
use Rattle.lists.specs.Lists.{Every}
use Rattle.lists.proofs.Lists.{and_both, every_map}
use Rattle.lists.proofs.Overlaid.{overlaid_at}
use Rattle.ground.specs.Grid.{Grid, cell_count}
use Rattle.ground.specs.Accumulation.{accumulation, accumulations, agrees}
use Rattle.ground.proofs.Ground.{grid_length, grid_at, free_agree}
use Rattle.search.specs.Editions.{is_edition}
use Rattle.answers.specs.Checks.{Check, first_failed, all_pass}
use Rattle.answers.specs.Checks.{check10, check11, check12, check13, check14, check15, check16, check17, check18}
use Rattle.answers.specs.Checks.{check19, check20, check21, check22, check23, check25}
use Rattle.answers.specs.Entries.{Catchment, grid_checks, agreed_checks, accumulate_number, accumulate_leaves}
use Rattle.answers.specs.Entries.{check_number, subaccumulate_number}
use Rattle.answers.specs.Tracings.{Call, Lent, recursion_number, stack_number}
use Rattle.answers.specs.Drawing.{draw_number}
use Rattle.answers.proofs.FirstFailed.{passed, not_given, is_other, others}

module _ (g : Grid) (lent : List ℕ) (accepted : accumulate_number g lent ≡ 0) where
  abbrev left : List ℕ
  left = accumulate_leaves g lent

  -- in a lent grid of any length
  pub accumulated_agrees : agrees g left ≡ true
  unfolding accumulate_number accumulate_leaves check10 check11 check12 check13
  accumulated_agrees =
      let p = passed 13 0 (grid_checks g (length lent ∷ []) ++ (check13 g ∷ [])) [] refl (inl (omega arith)) accepted in
      let places = and_both (leb (cell_count g) (length g.codes)) (leb (cell_count g) (length lent) && true) (p 11) in
      let place = and_both (leb (cell_count g) (length lent)) true places.1 in
      let long = grid_length (accumulation g) (cell_count g) in
      let room = leb-true (cell_count g) (length lent) place.0 in
      rw accepted (free_agree g (p 13) (overlaid (accumulations g) lent)
      (λ x i. overlaid_at (accumulations g) lent (omega (arith, long, room)) x (omega (arith, long, i))
      ∙ grid_at (accumulation g) (cell_count g) x i))

  -- 14 passes, and no other check has that number
  no_14 : (places : List ℕ) (later : List Check) → all_pass (is_other 14) later ≡ true
      → first_failed (agreed_checks g left places ++ later) ≡ 14 → ⊥
  unfolding check10 check11 check12 check14
  no_14 places later h = not_given 14 (λ e. absurd (omega (arith, e))) (agreed_checks g left places ++ later) (
    λ e. absurd (omega (arith, e)),
    (
      λ e. absurd (omega (arith, e)),
      (
        λ e. absurd (omega (arith, e)),
        (λ e. accumulated_agrees, rest),
      ),
    ),
  )
    where
      rest : Every (λ c. c.number ≡ 14 → c.passes ≡ true) later
      rest = every_map (λ c. c.number ≡ 14 → ⊥) (λ c. c.number ≡ 14 → c.passes ≡ true) (λ c f e. absurd (f e)) later
          (others 14 later h)

  -- nor where 25 is asked first
  no_14_after : (edition : ℕ) (places : List ℕ) (later : List Check) → all_pass (is_other 14) later ≡ true
      → first_failed (check25 edition ∷ (agreed_checks g left places ++ later)) ≡ 14 → ⊥
  unfolding first_failed check25
  no_14_after edition places later h = go (is_edition edition)
    where
      go : (b : Bool) → cond b (first_failed (agreed_checks g left places ++ later)) 25 ≡ 14 → ⊥
      go true e = no_14 places later h e
      go false e = absurd (omega (arith, e))

  module _ (outlets : List ℕ) where
    abbrev lent_left : Catchment
    lent_left = record { grid = g; accumulation = left; outlets = outlets }

    abbrev called : ℕ → ℕ → Bool → Call
    called edition place dropping =
        record { edition = edition; catchment = lent_left; place = place; dropping = dropping }

    -- any other entry after it
    pub record Never14 : Type 0 where
      pub checking : check_number g left ≡ 14 → ⊥
      pub subaccumulating : (old : List ℕ) → subaccumulate_number lent_left old ≡ 14 → ⊥
      pub by_recursion : (edition place : ℕ) (dropping : Bool) (old : Lent)
          → recursion_number (called edition place dropping) old ≡ 14 → ⊥
      pub by_stack : (edition place : ℕ) (dropping : Bool) (old : Lent) (work : List ℕ)
          → stack_number (called edition place dropping) old work ≡ 14 → ⊥
      pub drawing : (place start : ℕ) (old : List ℕ)
          → draw_number (record { catchment = lent_left; place = place; start = start }) old ≡ 14 → ⊥

    pub never_14 : Never14
    unfolding check_number subaccumulate_number recursion_number stack_number draw_number check15 check16 check17 check18
        check19 check20 check21 check22 check23
    never_14 = record {
      checking = no_14 _ [] refl;
      subaccumulating = λ old. no_14 _ _ refl;
      by_recursion = λ edition place dropping old. no_14_after edition _ _ refl;
      by_stack = λ edition place dropping old work. no_14_after edition _ _ refl;
      drawing = λ place start old. no_14 _ _ refl;
    }
