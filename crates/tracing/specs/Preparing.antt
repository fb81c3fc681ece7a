-- What comes before either engine.
-- Assumes nothing.
use Rattle.std.specs.Prelude.{◌≡◌, true, Result, MatchResult, List, [], ◌∷◌, ℕ, ◌<◌, length, get_or}
use Rattle.lists.specs.Slices.{overlaid}
use Rattle.ground.specs.Grid.{grid_of, ground}
use Rattle.ground.specs.Accumulation.{subaccumulation, subaccumulations}
use Rattle.answers.specs.declared.Refusal.{Refusal}
use Rattle.answers.specs.Refusals.{refusal_number}
use Rattle.answers.specs.Checks.{first_failed}
use Rattle.answers.specs.Entries.{Catchment, place_checks}

-- a place of the list asks for a cell of ground
pub record Chosen (rows cols : ℕ) (codes outlets : List ℕ) (place : ℕ) : Type 0 where
  pub some_cols : 0 < cols
  pub in_list : place < length outlets
  pub solid : ground (grid_of rows cols codes) (get_or outlets place 0) ≡ true

-- 10, 11, 12, 14 to 18 pass: the grid is filled, and the cells of the outlet's subwatershed are known
pub record Prepared (c : Catchment) (place : ℕ) (old : List ℕ) (cells : ℕ) (new : List ℕ) : Type 0 where
  pub passes : 0 ≡ first_failed (place_checks c place (length c.accumulation ∷ length old ∷ []))
  pub filled : new ≡ overlaid (subaccumulations c.grid c.outlets) old
  pub counted : cells ≡ subaccumulation c.grid c.outlets (get_or c.outlets place 0)

-- one of them fails, and nothing changes
pub record Barred (c : Catchment) (place : ℕ) (old : List ℕ) (refusal : Refusal) (new : List ℕ) : Type 0 where
  pub is_number : refusal_number refusal ≡ first_failed (place_checks c place (length c.accumulation ∷ length old ∷ []))
  pub kept : new ≡ old

abbrev pub Prepares : Catchment → ℕ → List ℕ → Result ℕ Refusal → List ℕ → Type 0
Prepares c place old r new = MatchResult r (λ cells. Prepared c place old cells new)
    (λ refusal. Barred c place old refusal new)
