-- What tracing all outlets in one call answers, and what it leaves in the lent grid, lists and working space.
-- Assumes nothing.
use Rattle.std.specs.Prelude.{◌≡◌, Bool, true, cond, List, [], ◌∷◌, ◌++◌, map, ℕ, ◌*◌, length, eqb}
use Rattle.lists.specs.Lists.{member, sum_of, greatest_of, joined}
use Rattle.lists.specs.Slices.{overlaid, zeros}
use Rattle.ground.specs.Grid.{Grid}
use Rattle.ground.specs.Accumulation.{subaccumulation, subaccumulations}
use Rattle.search.specs.Tracing.{Tracing, path_count, start_cells, tracing, numbers_each}
use Rattle.alloutlets.specs.declared.TracedAll.{TracedAll}
use Rattle.answers.specs.Checks.{Check, first_failed, check20, check21, check23, check25}
use Rattle.answers.specs.Entries.{Catchment, outlet_checks}

-- what the call is lent to fill: the subaccumulation grid, the list of starts, the list of counts, the working space
pub record LentAll : Type 0 where
  pub subaccumulation : List ℕ
  pub starts : List ℕ
  pub counts : List ℕ
  pub work : List ℕ

abbrev pub lent_all : List ℕ → List ℕ → List ℕ → List ℕ → LentAll
lent_all subaccumulation starts counts work =
    record { subaccumulation = subaccumulation; starts = starts; counts = counts; work = work }

abbrev pub traced_all : ℕ → ℕ → ℕ → TracedAll
traced_all number visited dropped = record { number = number; visited = visited; dropped = dropped }

-- the most cells that an outlet of the list has
abbrev pub most_cells : Grid → List ℕ → ℕ
most_cells g outlets = greatest_of (map (subaccumulation g outlets) outlets)

module _ (edition : ℕ) (g : Grid) (outlets : List ℕ) where
  -- what the search with dropping tells of an outlet by the edition, as in a call for it alone
  abbrev pub tracing_of : ℕ → Tracing
  tracing_of = tracing edition true g outlets

  -- in list order, the starts of all outlets run together, and how many each has
  abbrev pub all_starts : List ℕ
  all_starts = joined (map (λ o. start_cells (tracing_of o)) outlets)

  abbrev pub path_counts : List ℕ
  path_counts = map (λ o. path_count (tracing_of o)) outlets

  -- the sums of the cells visited, and of those dropped
  abbrev pub all_visited : ℕ
  all_visited = sum_of (map (λ o. (tracing_of o).visited) outlets)

  abbrev pub all_dropped : ℕ
  all_dropped = sum_of (map (λ o. (tracing_of o).dropped) outlets)

-- past 17: 20 by the most cells, 23 by the counts, 21 by all paths together
abbrev pub last_checks : ℕ → Catchment → LentAll → List Check
last_checks edition c old =
    check20 (most_cells c.grid c.outlets) old.work
    ∷ check23 (path_counts edition c.grid c.outlets) old.counts
    ∷ check21 (sum_of (path_counts edition c.grid c.outlets)) old.starts ∷ []

-- 25; 10, 11 of three grids, 12, 14 to 17
abbrev pub all_checks : ℕ → Catchment → List ℕ → List Check
all_checks edition c old = check25 edition ∷ outlet_checks c (length c.accumulation ∷ length old ∷ [])

-- TRACE ALL: then 20, 23, 21
unfoldable pub trace_all_number : ℕ → Catchment → LentAll → ℕ
trace_all_number edition c old = first_failed (all_checks edition c old.subaccumulation ++ last_checks edition c old)

-- the sums are told with 0 and 21, and are 0 with every other number
abbrev pub sums_told : ℕ → Bool
sums_told number = member number (0 ∷ 21 ∷ [])

module _ (edition : ℕ) (g : Grid) (outlets : List ℕ) where
  unfoldable pub tells_all : ℕ → TracedAll
  tells_all number =
      cond (sums_told number) (traced_all number (all_visited edition g outlets) (all_dropped edition g outlets))
      (traced_all number 0 0)

  -- what is left. The grid is filled once 17 is past; the working numbers that 20 asks for are 0 after the searches; both
  -- lists are written on 0 alone
  unfoldable pub leaves_all : ℕ → LentAll → LentAll
  leaves_all number old =
      let filled = overlaid (subaccumulations g outlets) old.subaccumulation in
      let cleared = overlaid (zeros (numbers_each * most_cells g outlets)) old.work in
      cond (eqb number 0)
      (lent_all filled (overlaid (all_starts edition g outlets) old.starts)
      (overlaid (path_counts edition g outlets) old.counts) cleared)
      (cond (eqb number 21) (lent_all filled old.starts old.counts cleared)
      (cond (member number (20 ∷ 23 ∷ [])) (lent_all filled old.starts old.counts old.work)
      old))

pub record TracesAll (edition : ℕ) (c : Catchment) (old : LentAll) (r : TracedAll) (new : LentAll) : Type 0 where
  pub answers : r ≡ tells_all edition c.grid c.outlets (trace_all_number edition c old)
  pub leaves : new ≡ leaves_all edition c.grid c.outlets (trace_all_number edition c old) old
