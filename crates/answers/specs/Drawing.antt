-- What drawing answers, and what it leaves in the lent places.
-- Assumes nothing.
use Rattle.std.specs.Prelude.{◌≡◌, cond, List, [], ◌∷◌, ◌++◌, ℕ, length, get_or, eqb}
use Rattle.lists.specs.Slices.{overlaid}
use Rattle.ground.specs.Subwatershed.{path_from}
use Rattle.answers.specs.Checks.{first_failed, check22, check23}
use Rattle.answers.specs.Entries.{Catchment, catchment, place_checks}

-- a place of the list of outlets, and the start of a path to that outlet
pub record Drawing : Type 0 where
  pub catchment : Catchment
  pub place : ℕ
  pub start : ℕ

-- the same from what the entries are handed
abbrev pub drawing_of : ℕ → ℕ → List ℕ → List ℕ → List ℕ → ℕ → ℕ → Drawing
drawing_of rows cols codes accumulation outlets place start =
    record { catchment = catchment rows cols codes accumulation outlets; place = place; start = start }

module _ (q : Drawing) where
  -- the cells of the walk, the start first and the outlet last
  abbrev pub drawn_path : List ℕ
  drawn_path = path_from q.catchment.grid q.catchment.outlets q.start

  -- DRAW: 10, 11 of two grids, 12, 14 to 18, 22, 23
  unfoldable pub draw_number : List ℕ → ℕ
  draw_number lent = first_failed (
      place_checks q.catchment q.place (length q.catchment.accumulation ∷ [])
      ++ (check22 q.catchment.grid q.catchment.outlets (get_or q.catchment.outlets q.place 0) q.start
      ∷ check23 drawn_path lent ∷ [])
      )

  -- the path in the first places; on refusal nothing changes
  unfoldable pub draw_leaves : List ℕ → List ℕ
  draw_leaves lent = cond (eqb (draw_number lent) 0) (overlaid drawn_path lent) lent

  -- the part of the lent places that is handed back: the path and no more, and nothing on refusal
  unfoldable pub drawn_part : List ℕ → List ℕ
  drawn_part lent = cond (eqb (draw_number lent) 0) drawn_path []

-- the number, how many of the lent places hold the path, and what they hold
pub record Draws (q : Drawing) (old : List ℕ) (number count : ℕ) (new : List ℕ) : Type 0 where
  pub answers : number ≡ draw_number q old
  pub counts : count ≡ length (drawn_part q old)
  pub leaves : new ≡ draw_leaves q old
