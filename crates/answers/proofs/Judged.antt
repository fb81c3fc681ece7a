-- Where 14 is judged, after an accepted accumulation: it is not given.
-- Assumes nothing.
use mathlib.Core.Path.{◌≡◌, refl, sym}
use mathlib.Core.Bool.{true}
use mathlib.Core.List.{List, ◌∷◌, ◌++◌}
use Prim.Native.Nat.{ℕ}
use native.Mathlib.Omega.{arith}
use Rattle.lists.specs.Lists.{Every}
use Rattle.lists.proofs.Lists.{every_append, every_map}
use Rattle.ground.specs.Grid.{Grid}
use Rattle.ground.specs.Accumulation.{agrees}
use Rattle.answers.specs.Checks.{Check, first_failed, all_pass, check10, check11, check12, check14}
use Rattle.answers.specs.Entries.{grid_checks, agreed_checks, Accumulates}
use Rattle.answers.proofs.FirstFailed.{not_given, is_other, others}
use Rattle.answers.proofs.Accumulated.{accumulated_agrees}

-- WHERE 14 IS JUDGED: after checks of other numbers and before such, it is not given
module _ (g : Grid) {old left : List ℕ} (a : Accumulates g old 0 left) where
  Passing : Check → Type 0
  Passing c = c.number ≡ 14 → c.passes ≡ true

  no_fourteen : (cs : List Check) → all_pass (is_other 14) cs ≡ true → Every Passing cs
  unfolding Passing
  no_fourteen cs h = every_map (λ c. c.number ≡ 14 → ⊥) Passing (λ c f e. absurd (f e)) cs (others 14 cs h)

  passes_14 : agrees g left ≡ true
  passes_14 = rw a.leaves (accumulated_agrees g old (sym a.answers))

  pub no_14 : (first : List Check) (places : List ℕ) (later : List Check) → all_pass (is_other 14) first ≡ true
      → all_pass (is_other 14) later ≡ true → first_failed (first ++ (agreed_checks g left places ++ later)) ≡ 14 → ⊥
  unfolding Passing check10 check11 check12 check14
  no_14 first places later h k = not_given 14 (λ e. absurd (omega (arith, e)))
      (first ++ (agreed_checks g left places ++ later))
      (every_append Passing first (agreed_checks g left places ++ later) (no_fourteen first h)
      (every_append Passing (grid_checks g places) (check14 g left ∷ later) (no_fourteen (grid_checks g places) refl)
      ((λ e. passes_14), no_fourteen later k)))
