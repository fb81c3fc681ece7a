-- The search from the pending cells, one after another, and what the functions of the source ask and promise.
-- Assumes nothing.
use Rattle.std.specs.Prelude.{◌≡◌, Bool, true, false, List, [], ◌∷◌, ◌++◌, ℕ, ◌+◌, ◌*◌, ◌≤◌, ◌<◌, ◌^◌, length, get_or}
use Rattle.lengths.specs.declared.Length.{Length}
use Rattle.lists.specs.Lists.{Every}
use Rattle.ground.specs.Compass.{Dir, dirs, squares}
use Rattle.ground.specs.Grid.{Grid, grid_of, ground}
use Rattle.ground.specs.Accumulation.{subaccumulation}
use Rattle.ground.specs.Forest.{Which, forest}
use Rattle.search.specs.Tracing.{numbers_each}
use Rattle.search.specs.Search.{State, meet_if, tracing_rule, drop_cells}
use Rattle.search.specs.Neighbours.{enter}
use Rattle.progress.specs.declared.Progress.{Progress}
use Rattle.progress.specs.Starts.{start_at, starts_of, state_of}
use Rattle.upstream.specs.Ready.{drops_at, Searched}
use Rattle.stack.specs.declared.Pending.{Pending}
use Rattle.stack.specs.declared.Stack.{Stack}
use Rattle.stack.specs.Pending.{Short, pending, inflows_above}

abbrev pub cell_of : Grid → Pending → ℕ
cell_of g w = w.cell.row * g.cols + w.cell.col

module _ (g : Grid) (outlets : List ℕ) where
  -- the cells that wait, with all above them
  unfoldable pub cells_pending : List Pending → ℕ
  cells_pending [] = 0
  cells_pending (w ∷ ws) = subaccumulation g outlets (cell_of g w) + cells_pending ws

  -- a cell of ground waits; its length and all its cells fit
  pub record Waits (end : ℕ) (w : Pending) : Type 0 where
    pub row_in : w.cell.row < g.rows
    pub col_in : w.cell.col < g.cols
    pub solid : ground g (cell_of g w) ≡ true
    pub short : numbers_each * (w.len.straight + w.len.diagonal + subaccumulation g outlets (cell_of g w)) ≤ end

  -- all cells of the search are visited, dropped or pending
  pub record Standing (end : ℕ) (s : Stack) (work : List ℕ) : Type 0 where
    pub all_wait : Every (Waits end) (pending work s.top)
    pub all_cells : numbers_each * (s.progress.visited + s.progress.dropped + cells_pending (pending work s.top))
        ≡ end
    pub few_paths : s.progress.paths ≤ s.progress.visited
    pub small : end ≤ numbers_each * 2 ^ 24
    pub within : end ≤ length work

  module _ (met : Which Dir) (dropping : Bool) where
    -- what the search does with a cell at its length: it drops or enters it
    unfoldable pub taken : ℕ → Length → State squares → State squares
    taken y len st = elim (drops_at dropping st.starts len (subaccumulation g outlets y)) [
      | true ↦ drop_cells squares st (subaccumulation g outlets y)
      | false ↦ enter squares (tracing_rule squares met dropping) g outlets y len st
    ]

    -- and with all pending cells, the first first
    unfoldable pub drain : List Pending → State squares → State squares
    drain [] st = st
    drain (w ∷ ws) st = drain ws (taken (cell_of g w) w.len st)

    -- one was taken off: the rest of the search is the same
    pub record Turned (end : ℕ) (s : Stack) (old : List ℕ) (r : Stack) (new : List ℕ) : Type 0 where
      pub standing : Standing end r new
      pub drains : drain (pending new r.top) (state_of r.progress new end)
          ≡ drain (pending old s.top) (state_of s.progress old end)
      pub fewer : cells_pending (pending new r.top) < cells_pending (pending old s.top)
      pub beyond : (i : ℕ) → end ≤ i → get_or new i 0 ≡ get_or old i 0

    -- the whole search, with the starts before the end
    pub record Traced (o : ℕ) (old : List ℕ) (r : Progress) (new : List ℕ) : Type 0 where
      pub searched : Searched g outlets met dropping o (numbers_each * subaccumulation g outlets o) r new
      pub beyond : (i : ℕ) → numbers_each * subaccumulation g outlets o ≤ i → get_or new i 0 ≡ get_or old i 0

  -- a cell was visited, and its inflows wait
  pub record Entered (met : Which Dir) (x : ℕ) (len : Length) (end : ℕ) (p : Progress) (top : ℕ) (old : List ℕ)
      (r : Stack) (new : List ℕ) : Type 0 where
    pub state : ◌≡◌ {A = State squares} (state_of r.progress new end) (record {
      starts = meet_if squares (met x (forest g outlets x)) (starts_of p old end) (start_at len x);
      visited = p.visited + 1;
      dropped = p.dropped;
    })
    pub few : r.progress.paths ≤ p.paths + 1
    pub pending_is : pending new r.top ≡ inflows_above g outlets x len dirs ++ pending old top
    pub beyond : (i : ℕ) → end ≤ i → get_or new i 0 ≡ get_or old i 0

-- there is room for so many cells more, from a length on
pub record Fits (cells : ℕ) (len : Length) (end : ℕ) (p : Progress) (top : ℕ) (work : List ℕ) : Type 0 where
  pub room : numbers_each * (top + cells) + p.paths ≤ end
  pub within : end ≤ length work
  pub short : Short len
  pub few_visited : p.visited < 2 ^ 24
  pub few_paths : p.paths < 2 ^ 24

-- the same by the sizes, codes and outlets that the functions are handed
module _ (rows cols : ℕ) (codes outlets : List ℕ) where
  abbrev pub CellEntered : Which Dir → ℕ → ℕ → Length → ℕ → Progress → ℕ → List ℕ → Stack → List ℕ → Type 0
  CellEntered met row col = Entered (grid_of rows cols codes) outlets met (row * cols + col)

  abbrev pub StackStands : ℕ → Stack → List ℕ → Type 0
  StackStands = Standing (grid_of rows cols codes) outlets

  abbrev pub StackTurned : Which Dir → Bool → ℕ → Stack → List ℕ → Stack → List ℕ → Type 0
  StackTurned = Turned (grid_of rows cols codes) outlets

  abbrev pub StackTraced : Which Dir → Bool → ℕ → ℕ → List ℕ → Progress → List ℕ → Type 0
  StackTraced met dropping row col = Traced (grid_of rows cols codes) outlets met dropping (row * cols + col)
