-- What a tracing answers, by what the search has found.
-- Assumes nothing.
use Rattle.std.specs.Prelude.{◌≡◌, Bool, cond, List, ℕ, ◌+◌, ◌*◌, ◌≤◌, length, get_or, leb}
use Rattle.lists.specs.Slices.{overlaid, zeros, Kept}
use Rattle.ground.specs.Grid.{grid_of}
use Rattle.ground.specs.Accumulation.{subaccumulation}
use Rattle.search.specs.Tracing.{Tracing, longest_length, path_count, start_cells, tracing, numbers_each}
use Rattle.progress.specs.declared.Progress.{Progress}
use Rattle.progress.specs.Starts.{kept}
use Rattle.answers.specs.declared.Traced.{Traced}
use Rattle.answers.specs.Answers.{traced_by}

-- the answer of a search, where the list has room for so many starts: 0, or 21
abbrev pub answer_for : Tracing → ℕ → Traced
answer_for t room = traced_by (cond (leb (path_count t) room) 0 21) t

-- at a place of the list of outlets: the cells of its subwatershed, and what the search tells of it
module _ (rows cols : ℕ) (codes outlets : List ℕ) (place : ℕ) where
  abbrev pub cells_of : ℕ
  cells_of = subaccumulation (grid_of rows cols codes) outlets (get_or outlets place 0)

  abbrev pub tracing_at : ℕ → Bool → Tracing
  tracing_at edition dropping = tracing edition dropping (grid_of rows cols codes) outlets (get_or outlets place 0)

-- a search ended with what the tracing tells
pub record Counted (t : Tracing) (r : Progress) : Type 0 where
  pub longest : r.greatest ≡ longest_length t
  pub count : r.paths ≡ path_count t
  pub visited : r.visited ≡ t.visited
  pub dropped : r.dropped ≡ t.dropped

-- in the working numbers of so many cells, with its starts before their end
pub record Told (t : Tracing) (cells : ℕ) (old : List ℕ) (r : Progress) (new : List ℕ) : Type 0 where
  pub counted : Counted t r
  pub starts : kept new (numbers_each * cells) r.paths ≡ start_cells t
  pub all_cells : r.visited + r.dropped ≡ cells
  pub few_paths : r.paths ≤ r.visited
  pub only : Kept (numbers_each * cells) old new

-- and these are listed
pub record ToldAndLists (t : Tracing) (cells : ℕ) (old work : List ℕ) (r : Progress) (new space : List ℕ) : Type 0 where
  pub counted : Counted t r
  pub lists : new ≡ overlaid (start_cells t) old
  pub only : Kept (numbers_each * cells) work space

-- an engine has answered, and listed the starts
pub record Lists (t : Tracing) (old : List ℕ) (r : Traced) (new : List ℕ) : Type 0 where
  pub answers : r ≡ answer_for t (length old)
  pub lists : new ≡ overlaid (start_cells t) old

-- and cleared the working numbers of so many cells
pub record ListsAndClears (t : Tracing) (old : List ℕ) (cells : ℕ) (work : List ℕ) (r : Traced) (new space : List ℕ)
    : Type 0 where
  pub listed : Lists t old r new
  pub clears : space ≡ overlaid (zeros (numbers_each * cells)) work
