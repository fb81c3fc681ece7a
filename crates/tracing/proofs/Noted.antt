-- One outlet of the list to be made ready for: what is asked of the list, and what is known after.
-- Assumes nothing.
use mathlib.Core.Path.{◌≡◌, ap}
use mathlib.Core.List.{List}
use Prim.Native.Nat.{ℕ, ◌+◌, ◌*◌, ◌≤◌, ◌<◌}
use native.Mathlib.Omega.{arith}
use lib.ListN.{length, get_or}
use Rattle.lists.specs.Slices.{Kept}
use Rattle.lists.proofs.Kept.{kept_wider}
use Rattle.ground.specs.Grid.{grid_of}
use Rattle.upstream.specs.Ready.{MetAt}
use Rattle.noting.specs.Noting.{cells_at_place, Places, Readied}
use Rattle.tracing.specs.Answering.{cells_of}

only_place : (place j : ℕ) → place ≤ j → j < place + 1 → j ≡ place
only_place place j a b = omega arith

module _ (rows cols : ℕ) (codes outlets : List ℕ) (place : ℕ) where
  only_cells : (most : ℕ) → cells_of rows cols codes outlets place ≤ most → (j : ℕ) → place ≤ j → j < place + 1
      → cells_at_place rows cols codes outlets j ≤ most
  only_cells most h j a b = omega (arith, ap (cells_at_place rows cols codes outlets) (only_place place j a b))

  pub own_place : {list : List ℕ} → place < length outlets → cells_of rows cols codes outlets place ≤ length list
      → Places rows cols codes outlets place (place + 1) list
  own_place {list} i h = record { in_order = omega arith; in_list = omega arith; room = only_cells (length list) h }

  module _ {edition : ℕ} {old list new list' : List ℕ}
      (r : Readied edition rows cols codes outlets place (place + 1) old list new list') where
    pub own_met : MetAt edition (grid_of rows cols codes) outlets (get_or outlets place 0) new
    own_met = r.met place (omega arith) (omega arith)

    pub own_list : Kept (cells_of rows cols codes outlets place) list list'
    own_list = r.list_kept (cells_of rows cols codes outlets place)
        (only_cells (cells_of rows cols codes outlets place) (omega arith))

    -- and of the working space what its cells take
    pub own_work : Kept (3 * cells_of rows cols codes outlets place) list list'
    own_work = kept_wider (omega arith) own_list
