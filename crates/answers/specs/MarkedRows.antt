-- The rows of a table of calls. Each holds what is called and what it answers and leaves; `worked` works the row out
-- again from what is called.
-- Assumes nothing.
use Rattle.std.specs.Prelude.{Bool, true, false, List, [], ◌∷◌, ◌++◌, map, ℕ, suc, ◌*◌, length, replicate, get_or}
use Rattle.lists.specs.Lists.{up_to}
use Rattle.lists.specs.Slices.{zeros}
use Rattle.lengths.specs.declared.Length.{Length}
use Rattle.std.specs.declared.cmp.Ordering.{Ordering}
use Rattle.lengths.specs.Rule.{compared}
use Rattle.ground.specs.Grid.{Grid, grid_of, cell_count}
use Rattle.search.specs.Tracing.{numbers_each, first_tracing}
use Rattle.answers.specs.declared.Answer.TheVariants.{Found, NoPlace, Refused}
use Rattle.answers.specs.declared.Traced.{Traced}
use Rattle.answers.specs.Entries.{Catchment, accumulate_number, accumulate_leaves, check_number}
use Rattle.answers.specs.Entries.{subaccumulate_number, subaccumulate_leaves}
use Rattle.answers.specs.Answers.{answered, traced_by}
use Rattle.answers.specs.Tracings.{Call, lent, chosen_cells, chosen_tracing}
use Rattle.answers.specs.Tracings.{recursion_number, stack_number, leaves_subaccumulation, leaves_starts, leaves_work}
use Rattle.answers.specs.Drawing.{Drawing, draw_number, draw_leaves, drawn_part}
use Rattle.answers.specs.FlowLengths.{LengthGrids, length_grids, flow_lengths_number, flow_lengths_leaves}

-- what was lent holds nines
abbrev pub nines : ℕ → List ℕ
nines n = replicate {A = ℕ} n 9

abbrev pub found : ℕ → ℕ → ℕ → ℕ → ℕ → Traced
found a b paths visited dropped = answered visited dropped (Found a b paths)

abbrev pub no_place : ℕ → ℕ → ℕ → Traced
no_place paths visited dropped = answered visited dropped (NoPlace paths)

abbrev pub refused : ℕ → Traced
refused number = answered 0 0 (Refused number)

-- ---- the four ways of tracing by an edition: an engine, with or without dropping

pub data Tracer : Type 0 where
  stack : (edition : ℕ) → Bool → Tracer
  recursion : (edition : ℕ) → Bool → Tracer

abbrev pub tracers_by : ℕ → List Tracer
tracers_by edition = stack edition true ∷ stack edition false ∷ recursion edition true ∷ recursion edition false ∷ []

abbrev pub tracers : List Tracer
tracers = tracers_by 1

-- what is left in a working space: by stack n zeros and a number kept; recursion has none, and it is as it was lent
abbrev pub wiped : ℕ → Tracer → List ℕ
wiped n (stack edition dropping) = zeros n ++ (9 ∷ [])
wiped n (recursion edition dropping) = nines (suc n)

-- what is told with dropping, and without
abbrev pub if_dropping : Traced → Traced → Tracer → Traced
if_dropping dropping plain (stack edition true) = dropping
if_dropping dropping plain (stack edition false) = plain
if_dropping dropping plain (recursion edition true) = dropping
if_dropping dropping plain (recursion edition false) = plain

-- an outlet by each of the four: what is answered, and what is left in a list of three places and in a working space
-- with one number more than is needed
pub record TracedWays : Type 0 where
  pub answers : List Traced
  pub starts : List (List ℕ)
  pub work : List (List ℕ)

-- the same by its numbers: length, paths, visited and dropped with dropping, the cells of the subwatershed
abbrev pub ways : ℕ → ℕ → ℕ → ℕ → ℕ → ℕ → List ℕ → TracedWays
ways a b paths visited dropped cells starts =
    let dropping = found a b paths visited dropped in
    let plain = found a b paths cells 0 in
    record {
      answers = map (if_dropping dropping plain) tracers;
      starts = replicate {A = List ℕ} 4 starts;
      work = map (wiped (3 * cells)) tracers;
    }

-- ---- rows

pub data Mark : Type 0 where
  -- two lengths compared
  compares : Length → Length → Ordering → Mark
  -- accumulating: the lent grid, the number, what is left
  accumulates : (rows cols : ℕ) (codes given : List ℕ) → ℕ → List ℕ → Mark
  -- a lent accumulation checked: the number
  checks : (rows cols : ℕ) (codes given : List ℕ) → ℕ → Mark
  -- subaccumulating: the number, what is left
  subaccumulates : Catchment → ℕ → List ℕ → Mark
  -- the same, then every outlet by each of the four ways
  traces : Catchment → ℕ → List ℕ → List TracedWays → Mark
  -- one call at a place of the list: the lent list, the size of the working space; the answer, what is left in the
  -- subaccumulation grid, the list and the working space
  calls : Tracer → Catchment → (place : ℕ) (starts : List ℕ) (work : ℕ) → Traced → List ℕ → List ℕ → List ℕ → Mark
  -- one drawing: the lent places; the number, what is left, the part handed back
  draws : Catchment → (place start : ℕ) (room : List ℕ) → ℕ → List ℕ → List ℕ → Mark
  -- flow lengths: the number, what is left in the four grids
  measures : Catchment → ℕ → LengthGrids → Mark
  -- what 01's rule visits and drops from the outlet at a place of the list, to be compared with
  visits_by_first : Catchment → (place : ℕ) → (visited dropped : ℕ) → Mark

-- a row for each of the four, by edition 1 and by any
abbrev pub each_way : (Tracer → Mark) → List Mark
each_way row = map row tracers

abbrev pub each_way_by : ℕ → (Tracer → Mark) → List Mark
each_way_by edition row = map row (tracers_by edition)

-- a lent grid, one place longer than it need be
abbrev pub lent_grid : Grid → List ℕ
lent_grid g = nines (suc (cell_count g))

-- a grid with the accumulation that accumulating leaves there, and outlets
abbrev pub accumulated : ℕ → ℕ → List ℕ → List ℕ → Catchment
accumulated rows cols codes outlets =
    let g = grid_of rows cols codes in
    record { grid = g; accumulation = accumulate_leaves g (lent_grid g); outlets = outlets }

-- ---- a row worked out again

module _ (c : Catchment) (place : ℕ) where
  abbrev pub call_by : Tracer → Call
  call_by (stack edition dropping) = record { edition = edition; catchment = c; place = place; dropping = dropping }
  call_by (recursion edition dropping) = record { edition = edition; catchment = c; place = place; dropping = dropping }

  module _ (starts work : List ℕ) where
    abbrev pub called_number : Tracer → ℕ
    called_number (stack e d) = stack_number (call_by (stack e d)) (lent (lent_grid c.grid) starts) work
    called_number (recursion e d) = recursion_number (call_by (recursion e d)) (lent (lent_grid c.grid) starts)

    abbrev pub called_answer : Tracer → Traced
    called_answer way = traced_by (called_number way) (chosen_tracing (call_by way))

    abbrev pub called_filled : Tracer → List ℕ
    called_filled way = leaves_subaccumulation (call_by way) (called_number way) (lent_grid c.grid)

    abbrev pub called_starts : Tracer → List ℕ
    called_starts way = leaves_starts (call_by way) (called_number way) starts

    abbrev pub called_work : Tracer → List ℕ
    called_work (stack e d) = leaves_work (call_by (stack e d)) (called_number (stack e d)) work
    called_work (recursion e d) = work

  abbrev pub traced_ways : TracedWays
  traced_ways =
      let work = nines (suc (numbers_each * chosen_cells (call_by (stack 1 true)))) in
      record {
        answers = map (called_answer (nines 3) work) tracers;
        starts = map (called_starts (nines 3) work) tracers;
        work = map (called_work (nines 3) work) tracers;
      }

abbrev pub worked : Mark → Mark
worked (compares l m o) = compares l m (compared l m)
worked (accumulates r c codes given n kept) =
    let g = grid_of r c codes in
    accumulates r c codes given (accumulate_number g given) (accumulate_leaves g given)
worked (checks r c codes given n) = checks r c codes given (check_number (grid_of r c codes) given)
worked (subaccumulates c n kept) = let old = lent_grid c.grid in
    subaccumulates c (subaccumulate_number c old) (subaccumulate_leaves c old)
worked (traces c n kept all) = let old = lent_grid c.grid in
    traces c (subaccumulate_number c old) (subaccumulate_leaves c old) (map (traced_ways c) (up_to (length c.outlets)))
worked (calls way c place starts work t filled kept clean) = let space = nines work in
    calls way c place starts work (called_answer c place starts space way) (called_filled c place starts space way)
    (called_starts c place starts space way) (called_work c place starts space way)
worked (draws c place start room n kept part) =
    let q : Drawing = record { catchment = c; place = place; start = start } in
    draws c place start room (draw_number q room) (draw_leaves q room) (drawn_part q room)
worked (measures c n kept) =
    let old = lent_grid c.grid in
    let four = length_grids old old old old in
    measures c (flow_lengths_number c four) (flow_lengths_leaves c four)
worked (visits_by_first c place visited dropped) =
    let t = first_tracing 1 true c.grid c.outlets (get_or c.outlets place 0) in
    visits_by_first c place t.visited t.dropped
