-- What the entry for flow lengths answers, and what it leaves in the four lent grids.
-- Assumes nothing.
use Rattle.std.specs.Prelude.{◌≡◌, cond, List, [], ◌∷◌, ℕ, length, eqb}
use Rattle.lists.specs.Slices.{overlaid}
use Rattle.ground.specs.Grid.{Grid}
use Rattle.ground.specs.FlowLengths.{length_grid}
use Rattle.answers.specs.Checks.{first_failed}
use Rattle.answers.specs.Entries.{Catchment, outlet_checks}

-- the four grids: the straight and the diagonal steps downstream, and those upstream
pub record LengthGrids : Type 0 where
  pub down_straight : List ℕ
  pub down_diagonal : List ℕ
  pub up_straight : List ℕ
  pub up_diagonal : List ℕ

abbrev pub length_grids : List ℕ → List ℕ → List ℕ → List ℕ → LengthGrids
length_grids ds dd us ud = record { down_straight = ds; down_diagonal = dd; up_straight = us; up_diagonal = ud }

-- the lengths of the lent grids, after that of the codes
abbrev pub grid_lengths : Catchment → LengthGrids → List ℕ
grid_lengths c lent = length c.accumulation ∷ length lent.down_straight ∷ length lent.down_diagonal
    ∷ length lent.up_straight ∷ length lent.up_diagonal ∷ []

-- 10, 11 of six grids, 12, 14, 15, 16, 17
unfoldable pub flow_lengths_number : Catchment → LengthGrids → ℕ
flow_lengths_number c lent = first_failed (outlet_checks c (grid_lengths c lent))

-- the four numbers of each cell over what is lent
unfoldable pub lengths_over : Grid → List ℕ → LengthGrids → LengthGrids
lengths_over g outlets lent = length_grids
    (overlaid (length_grid g outlets (λ f. f.down.straight)) lent.down_straight)
    (overlaid (length_grid g outlets (λ f. f.down.diagonal)) lent.down_diagonal)
    (overlaid (length_grid g outlets (λ f. f.up.straight)) lent.up_straight)
    (overlaid (length_grid g outlets (λ f. f.up.diagonal)) lent.up_diagonal)

-- on 0 the four grids; on refusal nothing changes
unfoldable pub flow_lengths_leaves : Catchment → LengthGrids → LengthGrids
flow_lengths_leaves c lent = cond (eqb (flow_lengths_number c lent) 0) (lengths_over c.grid c.outlets lent) lent

pub record TellsFlowLengths (c : Catchment) (old : LengthGrids) (number : ℕ) (new : LengthGrids) : Type 0 where
  pub answers : number ≡ flow_lengths_number c old
  pub leaves : new ≡ flow_lengths_leaves c old
