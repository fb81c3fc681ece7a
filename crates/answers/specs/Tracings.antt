-- What tracing answers, by stack and by recursion, and what it leaves in the lent grid, list and working space.
-- Assumes nothing.
use Rattle.std.specs.Prelude.{◌≡◌, Bool, cond, List, [], ◌∷◌, ◌++◌, ℕ, ◌*◌, length, get_or}
use Rattle.lists.specs.Lists.{member}
use Rattle.lists.specs.Slices.{overlaid, zeros}
use Rattle.ground.specs.Accumulation.{subaccumulation, subaccumulations}
use Rattle.search.specs.Tracing.{Tracing, path_count, start_cells, tracing, numbers_each}
use Rattle.answers.specs.declared.Traced.{Traced}
use Rattle.answers.specs.Answers.{number_of, traced_by}
use Rattle.answers.specs.Checks.{Check, first_failed, check19, check20, check21, check25}
use Rattle.answers.specs.Entries.{Catchment, catchment, place_checks}

-- ---- a call

-- an edition of the standard, a place of the list of outlets, and whether the search drops
pub record Call : Type 0 where
  pub edition : ℕ
  pub catchment : Catchment
  pub place : ℕ
  pub dropping : Bool

-- the same from what the entries are handed
abbrev pub call_of : ℕ → ℕ → ℕ → List ℕ → List ℕ → List ℕ → ℕ → Bool → Call
call_of edition rows cols codes accumulation outlets place dropping = record {
  edition = edition;
  catchment = catchment rows cols codes accumulation outlets;
  place = place;
  dropping = dropping;
}

-- what it is lent to fill: the subaccumulation grid and the list of starts
pub record Lent : Type 0 where
  pub subaccumulation : List ℕ
  pub starts : List ℕ

abbrev pub lent : List ℕ → List ℕ → Lent
lent subaccumulation starts = record { subaccumulation = subaccumulation; starts = starts }

module _ (q : Call) where
  -- the outlet chosen
  abbrev pub chosen : ℕ
  chosen = get_or q.catchment.outlets q.place 0

  -- the cells of its subwatershed
  abbrev pub chosen_cells : ℕ
  chosen_cells = subaccumulation q.catchment.grid q.catchment.outlets chosen

  -- what the search tells of it by the edition
  abbrev pub chosen_tracing : Tracing
  chosen_tracing = tracing q.edition q.dropping q.catchment.grid q.catchment.outlets chosen

  -- 25; 10, 11 of three grids, 12, 14 to 18
  abbrev pub call_checks : List ℕ → List Check
  call_checks old = check25 q.edition
      ∷ place_checks q.catchment q.place (length q.catchment.accumulation ∷ length old ∷ [])

  -- what either leaves, by its number. The subaccumulation grid is filled once 18 is past: on 0, 19, 20 and 21
  unfoldable pub leaves_subaccumulation : ℕ → List ℕ → List ℕ
  leaves_subaccumulation number old =
      cond (member number (0 ∷ 19 ∷ 20 ∷ 21 ∷ []))
      (overlaid (subaccumulations q.catchment.grid q.catchment.outlets) old) old

  -- the list holds the starts; on 21 as many of the first as it has places
  unfoldable pub leaves_starts : ℕ → List ℕ → List ℕ
  leaves_starts number old = cond (member number (0 ∷ 21 ∷ [])) (overlaid (start_cells chosen_tracing) old) old

  -- by stack, on 0 and 21, the working numbers that the search may use are 0 again
  unfoldable pub leaves_work : ℕ → List ℕ → List ℕ
  leaves_work number old = cond (member number (0 ∷ 21 ∷ [])) (overlaid (zeros (numbers_each * chosen_cells)) old) old

-- the promise of either, by the number of the first check that fails. It is the answer's
pub record Traces (q : Call) (old : Lent) (number : ℕ) (r : Traced) (new : Lent) : Type 0 where
  pub numbered : number_of r.answer ≡ number
  pub answers : r ≡ traced_by number (chosen_tracing q)
  pub fills : new.subaccumulation ≡ leaves_subaccumulation q number old.subaccumulation
  pub lists : new.starts ≡ leaves_starts q number old.starts

-- ---- TRACE BY RECURSION: then 19, 21

unfoldable pub recursion_number : Call → Lent → ℕ
recursion_number q old = first_failed (
    call_checks q old.subaccumulation
    ++ (check19 (chosen_cells q) ∷ check21 (path_count (chosen_tracing q)) old.starts ∷ [])
    )

abbrev pub TracesByRecursion : Call → Lent → Traced → Lent → Type 0
TracesByRecursion q old r new = Traces q old (recursion_number q old) r new

-- ---- TRACE BY STACK: then 20, 21

unfoldable pub stack_number : Call → Lent → List ℕ → ℕ
stack_number q old work = first_failed (
    call_checks q old.subaccumulation
    ++ (check20 (chosen_cells q) work ∷ check21 (path_count (chosen_tracing q)) old.starts ∷ [])
    )

pub record TracesByStack (q : Call) (old : Lent) (work : List ℕ) (r : Traced) (new : Lent)
    (space : List ℕ) : Type 0 where
  pub traces : Traces q old (stack_number q old work) r new
  pub clears : space ≡ leaves_work q (stack_number q old work) work
