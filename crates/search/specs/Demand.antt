-- DEMAND 3, the promise of every tracing, in one record.
-- Assumes nothing.
use Rattle.std.specs.Prelude.{◌≡◌, Bool, ◌↔◌, List, ℕ, ◌+◌, ◌≤◌, ◌<◌, length}
use Rattle.lists.specs.Lists.{In, Sorted, how_many}
use Rattle.ground.specs.Grid.{Grid, cell_count}
use Rattle.ground.specs.Accumulation.{subaccumulation}
use Rattle.ground.specs.Subwatershed.{in_subwatershed, HasLength, Before, Longest}
use Rattle.search.specs.Tracing.{Tracing, longest_length, path_count, start_cells}

-- of what is told of the outlet o, beside what is told of it without dropping, where these cells may start: by edition 1
-- all, by edition 2 the divide cells alone
pub record Demand3 (g : Grid) (outlets : List ℕ) (may : ℕ → Bool) (o : ℕ) (t plain : Tracing) : Type 0 where
  -- the starts are exactly the cells of the subwatershed that may start and whose walk none of these exceeds
  pub exact : (c : ℕ) → In c (start_cells t) ↔ Longest g outlets may o c
  -- each once
  pub once : Sorted (λ x y. x ≡ y → ⊥) (start_cells t)
  -- in order: every earlier one parts from every later one by an earlier neighbour
  pub ordered : Sorted (Before g outlets) (start_cells t)
  -- and no other list is so
  pub unique : (xs : List ℕ) → ((c : ℕ) → In c xs ↔ Longest g outlets may o c) → Sorted (Before g outlets) xs
      → xs ≡ start_cells t
  -- each has the length told
  pub lengths : (c : ℕ) → In c (start_cells t) → HasLength g outlets o c (longest_length t)
  -- the number of paths is theirs, and there is one
  pub number : path_count t ≡ length (start_cells t)
  pub not_none : 0 < path_count t
  -- and no more of them than cells
  pub few : path_count t ≤ subaccumulation g outlets o
  -- every cell of the subwatershed is visited or dropped, and there are as many as the subaccumulation says
  pub counts : t.visited + t.dropped ≡ how_many (in_subwatershed g outlets o) (cell_count g)
  pub cells : how_many (in_subwatershed g outlets o) (cell_count g) ≡ subaccumulation g outlets o
  -- without dropping every cell is visited, and the answer is the same
  pub plain_counts : (plain.visited ≡ how_many (in_subwatershed g outlets o) (cell_count g)) × (plain.dropped ≡ 0)
  pub same_starts : start_cells t ≡ start_cells plain
  pub same_len : longest_length t ≡ longest_length plain
  pub same_paths : path_count t ≡ path_count plain
