-- THE PROMISE OF THE TIGHTER LIMIT, in one record: the same paths as by 01's rule, and no more cells visited.
-- Assumes nothing.
use Rattle.std.specs.Prelude.{◌≡◌, true, List, ℕ, ◌+◌, ◌≤◌, ◌<◌}
use Rattle.ground.specs.Grid.{Grid}
use Rattle.ground.specs.Accumulation.{subaccumulation}
use Rattle.search.specs.Tracing.{Tracing, longest_length, path_count, start_cells, tracing, first_tracing}

-- of what is told of the outlet o, beside what 01's rule tells of it
pub record Tighter (g : Grid) (outlets : List ℕ) (o : ℕ) (t first : Tracing) : Type 0 where
  -- 02: lists and their order come out the same, so do the length and the number of paths
  pub same_starts : start_cells t ≡ start_cells first
  pub same_len : longest_length t ≡ longest_length first
  pub same_paths : path_count t ≡ path_count first
  -- 02: no grid is visited in more cells than before
  pub no_more_visited : t.visited ≤ first.visited
  -- and no fewer are dropped: by either rule both add up to the cells of the subwatershed
  pub no_fewer_dropped : first.dropped ≤ t.dropped
  pub counts : t.visited + t.dropped ≡ subaccumulation g outlets o
  pub first_counts : first.visited + first.dropped ≡ subaccumulation g outlets o

-- and somewhere fewer are visited: the limit is a tighter one, and not the same
pub record FewerVisited (edition : ℕ) : Type 0 where
  pub grid : Grid
  pub outlets : List ℕ
  pub outlet : ℕ
  pub fewer : (tracing edition true grid outlets outlet).visited < (first_tracing edition true grid outlets outlet).visited
