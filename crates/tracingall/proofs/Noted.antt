-- All outlets of the list to be made ready for: what is asked of the working space, and what it changes there.
-- Assumes nothing.
use mathlib.Core.Path.{sym, ◌∙◌, subst}
use mathlib.Core.List.{List}
use Prim.Native.Nat.{ℕ, ◌*◌, ◌≤◌, ◌<◌}
use native.Mathlib.Omega.{arith}
use lib.ListN.{length, length-replicate}
use Rattle.lists.specs.Slices.{zeros, Kept}
use Rattle.lists.proofs.Kept.{kept_wider}
use Rattle.lists.proofs.Overlaid.{overlaid_kept}
use Rattle.lists.proofs.Sums.{none_greater}
use Rattle.ground.specs.Grid.{grid_of}
use Rattle.ground.specs.Accumulation.{subaccumulation}
use Rattle.search.specs.Tracing.{numbers_each}
use Rattle.alloutlets.specs.declared.TracedAll.{TracedAll}
use Rattle.alloutlets.specs.AllOutlets.{most_cells}
use Rattle.noting.specs.Noting.{cells_at_place, Places, Readied}
use Rattle.passes.specs.Passes.{Traceable, WorkKept, Searchable}
use Rattle.passes.proofs.Counting.{kept_traceable}
use Rattle.tracingall.specs.Searching.{SearchesAll}

module _ {rows cols : ℕ} {codes outlets work : List ℕ} (s : Traceable rows cols codes outlets work) where
  most : (j : ℕ) → 0 ≤ j → j < length outlets
      → cells_at_place rows cols codes outlets j ≤ most_cells (grid_of rows cols codes) outlets
  most j a b = none_greater (subaccumulation (grid_of rows cols codes) outlets) outlets j b

  pub all_places : Places rows cols codes outlets 0 (length outlets) work
  all_places = record {
    in_order = omega arith;
    in_list = omega arith;
    room = λ j a b. omega (arith, most j a b, s.room);
  }

  module _ {edition : ℕ} {old new space : List ℕ}
      (r : Readied edition rows cols codes outlets 0 (length outlets) old work new space) where
    pub all_listed : WorkKept (grid_of rows cols codes) outlets work space
    all_listed = kept_wider (omega arith) (r.list_kept (most_cells (grid_of rows cols codes) outlets) most)

    pub all_searchable : Searchable edition rows cols codes outlets new space
    all_searchable = record {
      ready = r.ready;
      met = λ j h. r.met j (omega arith) h;
      list = kept_traceable s all_listed;
    }

    -- what is cleared is cleared of the working space as it was lent
    pub searched_by : {starts counts starts' counts' last : List ℕ} {t : TracedAll}
        → SearchesAll edition (grid_of rows cols codes) outlets starts counts space t starts' counts' last
        → SearchesAll edition (grid_of rows cols codes) outlets starts counts work t starts' counts' last
    searched_by q = record {
      answers = q.answers;
      lists = q.lists;
      counted = q.counted;
      clears = q.clears ∙ overlaid_kept (zeros asked)
          (subst (λ (n : ℕ). Kept n work space) (sym (length-replicate asked 0)) all_listed);
    }
      where
        asked : ℕ
        asked = numbers_each * most_cells (grid_of rows cols codes) outlets
