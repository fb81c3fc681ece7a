-- The search's state as an engine holds it: the starts in a slice, the rest in a struct.
-- Assumes nothing.
use Rattle.std.specs.Prelude.{◌≡◌, Bool, not, ◌&&◌, ◌⊎◌, List, [], ◌∷◌, ◌++◌, map, ℕ, zero, suc, ◌+◌, ◌-◌, ◌≤◌, ◌<◌, ◌^◌, length, get_or, eqb}
use Rattle.lengths.specs.declared.Length.{Length}
use Rattle.lengths.specs.Rule.{counts, is_shorter}
use Rattle.ground.specs.Compass.{squares}
use Rattle.ground.specs.Walk.{At}
use Rattle.search.specs.Search.{State, meet, meet_if}
use Rattle.progress.specs.declared.Progress.{Progress}

-- the k numbers before an end, that next to it first
unfoldable pub kept : List ℕ → ℕ → ℕ → List ℕ
kept work end zero = []
kept work end (suc k) = kept work end k ++ (get_or work (end - suc k) 0 ∷ [])

-- a start of a length
abbrev pub start_at : Length → ℕ → At Length
start_at l c = record { cell = c; len = l }

-- the starts met, all of the greatest length
abbrev pub starts_of : Progress → List ℕ → ℕ → List (At Length)
starts_of p work end = map (start_at p.greatest) (kept work end p.paths)

-- the state that the search's definition speaks of
abbrev pub state_of : Progress → List ℕ → ℕ → State squares
state_of p work end = record { starts = starts_of p work end; visited = p.visited; dropped = p.dropped }

-- the greatest length, how many starts have it, the cells visited and the cells dropped
abbrev pub progress_of : Length → ℕ → ℕ → ℕ → Progress
progress_of greatest paths visited dropped =
    record { greatest = greatest; paths = paths; visited = visited; dropped = dropped }

-- nothing is met, visited or dropped
abbrev pub begun : Progress
begun = progress_of (counts 0 0) 0 0 0

-- has a length been met, and is this one shorter than the greatest?
unfoldable pub is_below : Length → Progress → Bool
is_below l p = not (eqb p.paths 0) && is_shorter l p.greatest

-- there is room for one start more
pub record Room (work : List ℕ) (end : ℕ) (p : Progress) : Type 0 where
  pub one_more : p.paths < end
  pub within : end ≤ length work
  pub few_paths : p.paths < 2 ^ 24

-- the slice changed in the k + 1 places before the end at most
pub record OnlyBefore (end k : ℕ) (old new : List ℕ) : Type 0 where
  pub below : (i : ℕ) → i + k + 1 < end → get_or new i 0 ≡ get_or old i 0
  pub beyond : (i : ℕ) → end ≤ i → get_or new i 0 ≡ get_or old i 0

-- a length was met
pub record Met (old new : List ℕ) (end cell : ℕ) (len : Length) (p r : Progress) : Type 0 where
  pub starts : starts_of r new end ≡ meet squares (starts_of p old end) (start_at len cell)
  pub same_visited : r.visited ≡ p.visited
  pub same_dropped : r.dropped ≡ p.dropped
  pub few : r.paths ≤ p.paths + 1
  pub one_of : (r.greatest ≡ p.greatest) ⊎ (r.greatest ≡ len)
  pub only : OnlyBefore end p.paths old new

-- a cell was visited, and its length met or not
pub record Visited (old new : List ℕ) (end cell : ℕ) (met : Bool) (len : Length) (p r : Progress) : Type 0 where
  pub state : ◌≡◌ {A = State squares} (state_of r new end) (record {
    starts = meet_if squares met (starts_of p old end) (start_at len cell);
    visited = p.visited + 1;
    dropped = p.dropped;
  })
  pub few : r.paths ≤ p.paths + 1
  pub one_of : (r.greatest ≡ p.greatest) ⊎ (r.greatest ≡ len)
  pub only : OnlyBefore end p.paths old new
