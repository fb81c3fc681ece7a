-- The pending cells in the working space.
-- Assumes nothing.
use Rattle.std.specs.Prelude.{◌≡◌, List, [], ◌∷◌, ◌++◌, ℕ, zero, suc, ◌+◌, ◌*◌, ◌/◌, ◌%◌, ◌≤◌, ◌<◌, ◌^◌, length, get_or}
use Rattle.std.proofs.Math.Option.{Option, none, some}
use Rattle.lengths.specs.declared.Length.{Length}
use Rattle.lengths.specs.Rule.{counts, plus_step}
use Rattle.ground.specs.Compass.{Dir, dirs, opposite, step_of}
use Rattle.ground.specs.Grid.{Grid, grid_of}
use Rattle.search.specs.Tracing.{numbers_each}
use Rattle.search.specs.Neighbours.{inflow_in}
use Rattle.stack.specs.declared.Pending.{Pending}

-- a length of fewer steps than the largest grid has cells: one step more fits
abbrev pub Short : Length → Type 0
Short len = len.straight + len.diagonal < 2 ^ 24

-- a cell of this row and column waits at its length
abbrev pub pending_with : ℕ → ℕ → Length → Pending
pending_with row col len = record { cell = record { row = row; col = col }; len = len }

-- the pending cell above n others
abbrev pub pending_at : List ℕ → ℕ → Pending
pending_at work n = pending_with (get_or work (numbers_each * n) 0 / 4096) (get_or work (numbers_each * n) 0 % 4096)
    (counts (get_or work (numbers_each * n + 1) 0) (get_or work (numbers_each * n + 2) 0))

-- the first n of them, the last on top
unfoldable pub pending : List ℕ → ℕ → List Pending
pending work zero = []
pending work (suc n) = pending_at work n ∷ pending work n

-- the same by the cell's number
abbrev pub pending_of : ℕ → Length → ℕ → Pending
pending_of cols len y = pending_with (y / cols) (y % cols) len

-- it is put on, if there is one
abbrev pub on_top : ℕ → Length → Option ℕ → List Pending → List Pending
on_top cols len none ws = ws
on_top cols len (some y) ws = pending_of cols len y ∷ ws

-- what the search turns to from x at this length in these directions, the first on top, each one step longer
unfoldable pub inflows_above : Grid → List ℕ → ℕ → Length → List Dir → List Pending
inflows_above g outlets x len [] = []
inflows_above g outlets x len (d ∷ ds) = on_top g.cols (plus_step len (step_of (opposite d))) (inflow_in g outlets x d)
    (inflows_above g outlets x len ds)

-- in all directions, from a cell by its row and column
abbrev pub all_above : ℕ → ℕ → List ℕ → List ℕ → ℕ → ℕ → Length → List Pending
all_above rows cols codes outlets row col len = inflows_above (grid_of rows cols codes) outlets (row * cols + col) len dirs

-- these were put on n pending cells; there are r now, and nothing beyond them changed
pub record PutOn (ws : List Pending) (n : ℕ) (old : List ℕ) (r : ℕ) (new : List ℕ) : Type 0 where
  pub pending_is : pending new r ≡ ws ++ pending old n
  pub count : r ≡ n + length ws
  pub beyond : (i : ℕ) → numbers_each * r ≤ i → get_or new i 0 ≡ get_or old i 0
