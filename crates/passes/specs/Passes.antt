-- What the two passes over the outlets ask and leave: the first counts, the second lists.
-- Assumes nothing.
use Rattle.std.specs.Prelude.{◌≡◌, List, map, ℕ, ◌*◌, ◌≤◌, ◌<◌, ◌^◌, length, get_or}
use Rattle.lists.specs.Lists.{sum_of}
use Rattle.lists.specs.Slices.{overlaid, Kept}
use Rattle.ground.specs.Grid.{Grid, grid_of}
use Rattle.ground.specs.Accumulation.{subaccumulation}
use Rattle.search.specs.Tracing.{numbers_each}
use Rattle.upstream.specs.Ready.{Ready, MetAt}
use Rattle.alloutlets.specs.AllOutlets.{most_cells, all_starts, path_counts, all_visited, all_dropped}
use Rattle.tracing.specs.Preparing.{Chosen}
use Rattle.passes.specs.declared.Sums.{Sums}

-- each place of the list asks for a cell of ground, outlets and the cells of all together are few, and the working space
-- has room for those of any one
pub record Traceable (rows cols : ℕ) (codes outlets work : List ℕ) : Type 0 where
  pub chosen : (j : ℕ) → j < length outlets → Chosen rows cols codes outlets j
  pub few_outlets : length outlets ≤ 256
  pub few_cells : sum_of (map (subaccumulation (grid_of rows cols codes) outlets) outlets) ≤ 2 ^ 24
  pub room : numbers_each * most_cells (grid_of rows cols codes) outlets ≤ length work

-- and every one can be searched: the grid is ready for it by the edition
pub record Searchable (edition rows cols : ℕ) (codes outlets subaccumulations work : List ℕ) : Type 0 where
  pub ready : Ready rows cols codes outlets subaccumulations
  pub met : (j : ℕ) → j < length outlets
      → MetAt edition (grid_of rows cols codes) outlets (get_or outlets j 0) subaccumulations
  pub list : Traceable rows cols codes outlets work

-- the searches change the working numbers that 20 asks for, and no others
abbrev pub WorkKept : Grid → List ℕ → List ℕ → List ℕ → Type 0
WorkKept g outlets = Kept (numbers_each * most_cells g outlets)

module _ (edition : ℕ) (g : Grid) (outlets : List ℕ) where
  -- the sums over all outlets
  abbrev pub sums_of : Sums
  sums_of = record {
    paths = sum_of (path_counts edition g outlets);
    visited = all_visited edition g outlets;
    dropped = all_dropped edition g outlets;
  }

  pub record CountsAll (work : List ℕ) (r : Sums) (space : List ℕ) : Type 0 where
    pub counts : r ≡ sums_of
    pub few_paths : sum_of (path_counts edition g outlets) ≤ 2 ^ 24
    pub kept : WorkKept g outlets work space

  pub record ListsAll (starts counts work starts' counts' space : List ℕ) : Type 0 where
    pub lists : starts' ≡ overlaid (all_starts edition g outlets) starts
    pub counted : counts' ≡ overlaid (path_counts edition g outlets) counts
    pub kept : WorkKept g outlets work space
