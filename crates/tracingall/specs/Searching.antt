-- What the searches of all outlets answer and leave, past 23.
-- Assumes nothing.
use Rattle.std.specs.Prelude.{◌≡◌, cond, List, ℕ, ◌*◌, length, leb}
use Rattle.lists.specs.Lists.{sum_of}
use Rattle.lists.specs.Slices.{overlaid, zeros}
use Rattle.ground.specs.Grid.{Grid}
use Rattle.search.specs.Tracing.{numbers_each}
use Rattle.alloutlets.specs.declared.TracedAll.{TracedAll}
use Rattle.alloutlets.specs.AllOutlets.{most_cells, all_starts, path_counts, tells_all}

module _ (edition : ℕ) (g : Grid) (outlets : List ℕ) where
  -- 0 or 21, by the room for the starts of all
  abbrev pub number_for : ℕ → ℕ
  number_for room = cond (leb (sum_of (path_counts edition g outlets)) room) 0 21

  pub record SearchesAll (starts counts work : List ℕ) (r : TracedAll) (starts' counts' space : List ℕ) : Type 0 where
    pub answers : r ≡ tells_all edition g outlets (number_for (length starts))
    pub lists : starts' ≡ cond (leb (sum_of (path_counts edition g outlets)) (length starts))
        (overlaid (all_starts edition g outlets) starts)
        starts
    pub counted : counts' ≡ cond (leb (sum_of (path_counts edition g outlets)) (length starts))
        (overlaid (path_counts edition g outlets) counts)
        counts
    pub clears : space ≡ overlaid (zeros (numbers_each * most_cells g outlets)) work
