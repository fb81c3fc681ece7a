-- The first pass: what is counted of the first j outlets and what is left of the others add up to all.
-- Assumes nothing.
use mathlib.Core.Path.{◌≡◌, ap}
use mathlib.Core.List.{List, map}
use Prim.Native.Nat.{ℕ, ◌+◌, ◌*◌, ◌≤◌, ◌<◌, ◌^◌}
use native.Mathlib.Numerals.{add-one}
use native.Mathlib.Omega.{arith}
use lib.ListN.{length, get_or, drop, drop_of_length-le}
use Rattle.lists.specs.Lists.{sum_of}
use Rattle.lists.specs.Slices.{Kept}
use Rattle.lists.proofs.Kept.{kept_then, kept_wider}
use Rattle.lists.proofs.Sums.{sum_left, none_greater}
use Rattle.ground.specs.Grid.{Grid, grid_of}
use Rattle.ground.specs.Accumulation.{subaccumulation}
use Rattle.search.specs.Tracing.{path_count, numbers_each}
use Rattle.progress.specs.declared.Progress.{Progress}
use Rattle.upstream.specs.Ready.{Ready, MetAt}
use Rattle.alloutlets.specs.AllOutlets.{tracing_of, most_cells, path_counts}
use Rattle.tracing.specs.Answering.{cells_of, Told}
use Rattle.tracing.specs.Preparing.{Chosen}
use Rattle.passes.specs.declared.Sums.{Sums}
use Rattle.passes.specs.Passes.{Traceable, Searchable, sums_of, WorkKept}

-- ---- a search within the working numbers that 20 asks for

module _ {rows cols : ℕ} {codes outlets work : List ℕ} (s : Traceable rows cols codes outlets work) {space : List ℕ}
    (k : WorkKept (grid_of rows cols codes) outlets work space) {j : ℕ} (i : j < length outlets) where
  most : cells_of rows cols codes outlets j ≤ most_cells (grid_of rows cols codes) outlets
  most = none_greater (subaccumulation (grid_of rows cols codes) outlets) outlets j i

  has_room : numbers_each * cells_of rows cols codes outlets j ≤ length space
  has_room = omega (arith, most, s.room, k.same_length)

  pub kept_search : {new : List ℕ} → Kept (numbers_each * cells_of rows cols codes outlets j) space new
      → WorkKept (grid_of rows cols codes) outlets work new
  kept_search m = kept_then k (kept_wider (omega (arith, most)) m)

-- any place of the list can be searched
pub searchable_at : {edition rows cols : ℕ} {codes outlets subaccumulations work space : List ℕ}
    → Searchable edition rows cols codes outlets subaccumulations work
    → WorkKept (grid_of rows cols codes) outlets work space → (j : ℕ) → j < length outlets
    → Ready rows cols codes outlets subaccumulations
    × ((Chosen rows cols codes outlets j
    × MetAt edition (grid_of rows cols codes) outlets (get_or outlets j 0) subaccumulations)
    × (numbers_each * cells_of rows cols codes outlets j ≤ length space))
searchable_at s k j i = (s.ready, ((s.list.chosen j i, s.met j i), has_room s.list k i))

-- after any of them the outlets can still be searched
pub kept_traceable : {rows cols : ℕ} {codes outlets work space : List ℕ} → Traceable rows cols codes outlets work
    → WorkKept (grid_of rows cols codes) outlets work space → Traceable rows cols codes outlets space
kept_traceable s k = record {
  chosen = s.chosen;
  few_outlets = s.few_outlets;
  few_cells = s.few_cells;
  room = omega (arith, s.room, k.same_length);
}

-- ---- what is counted

module _ (edition : ℕ) (g : Grid) (outlets : List ℕ) where
  abbrev cells_in : ℕ → ℕ
  cells_in = subaccumulation g outlets

  abbrev pub paths_to : ℕ → ℕ
  paths_to o = path_count (tracing_of edition g outlets o)

  abbrev visited_to : ℕ → ℕ
  visited_to o = (tracing_of edition g outlets o).visited

  abbrev dropped_to : ℕ → ℕ
  dropped_to o = (tracing_of edition g outlets o).dropped

  -- with f of each outlet that is left, n is the sum over all
  abbrev pub Adds : (ℕ → ℕ) → ℕ → ℕ → Type 0
  Adds f j n = n + sum_of (map f (drop j outlets)) ≡ sum_of (map f outlets)

  pub record Counting (j : ℕ) (s : Sums) : Type 0 where
    pub paths : Adds paths_to j s.paths
    pub visited : Adds visited_to j s.visited
    pub dropped : Adds dropped_to j s.dropped
    pub cells : Adds cells_in j (s.visited + s.dropped)
    pub few : s.paths ≤ s.visited

  abbrev sums : ℕ → ℕ → ℕ → Sums
  sums paths visited dropped = record { paths = paths; visited = visited; dropped = dropped }

  pub counting_none : Counting 0 (sums 0 0 0)
  counting_none = record {
    paths = omega arith;
    visited = omega arith;
    dropped = omega arith;
    cells = omega arith;
    few = omega arith;
  }

  -- one outlet more
  module _ {j : ℕ} (i : j < length outlets) where
    adds_more : (f : ℕ → ℕ) (n : ℕ) {m : ℕ} → Adds f j n → m ≡ f (get_or outlets j 0) → Adds f (j + 1) (n + m)
    adds_more f n e q = rw (add-one j) (omega (arith, e, q, sum_left f outlets j i))

    pub counting_more : {s : Sums} {old new : List ℕ} {p : Progress} → Counting j s
        → Told (tracing_of edition g outlets (get_or outlets j 0)) (cells_in (get_or outlets j 0)) old p new
        → Counting (j + 1) (sums (s.paths + p.paths) (s.visited + p.visited) (s.dropped + p.dropped))
    counting_more {s} {old} {new} {p} c t = record {
      paths = adds_more paths_to s.paths c.paths t.counted.count;
      visited = adds_more visited_to s.visited c.visited t.counted.visited;
      dropped = adds_more dropped_to s.dropped c.dropped t.counted.dropped;
      cells = rw (add-one j) (omega (arith, c.cells, t.all_cells, sum_left cells_in outlets j i));
      few = omega (arith, c.few, t.few_paths);
    }

    -- and all of them fit
    pub counting_fits : {s : Sums} {old new : List ℕ} {p : Progress} → Counting j s
        → Told (tracing_of edition g outlets (get_or outlets j 0)) (cells_in (get_or outlets j 0)) old p new
        → sum_of (map cells_in outlets) ≤ 2 ^ 24
        → (s.paths + p.paths ≤ 2 ^ 24) × (s.visited + s.dropped + (p.visited + p.dropped) ≤ 2 ^ 24)
    counting_fits {s} {old} {new} {p} c t h =
        let l = sum_left cells_in outlets j i in (
          omega (arith, c.few, t.few_paths, c.cells, t.all_cells, l, h),
          omega (arith, c.cells, t.all_cells, l, h),
        )

  -- none is left
  adds_all : (f : ℕ → ℕ) (j n : ℕ) → length outlets ≤ j → Adds f j n → n ≡ sum_of (map f outlets)
  unfolding sum_of
  adds_all f j n h e =
      omega (arith, e, ap (λ (os : List ℕ). sum_of (map f os)) (drop_of_length-le outlets {i = j} h))

  pub counted_all : {j : ℕ} {s : Sums} → length outlets ≤ j → Counting j s → s ≡ sums_of edition g outlets
  counted_all {j} {s} h c =
      let p = adds_all paths_to j s.paths h c.paths in
      let v = adds_all visited_to j s.visited h c.visited in
      let d = adds_all dropped_to j s.dropped h c.dropped in
      λ i. sums (p i) (v i) (d i)

  -- and there are few paths
  pub few_counted : {j : ℕ} {s : Sums} → length outlets ≤ j → Counting j s → sum_of (map cells_in outlets) ≤ 2 ^ 24
      → sum_of (path_counts edition g outlets) ≤ 2 ^ 24
  few_counted {j} {s} h c few = omega (arith, adds_all paths_to j s.paths h c.paths, c.few, c.cells, few)
