-- What a tracing finds of an outlet: the search's own state.
-- Assumes nothing.
use Rattle.std.specs.Prelude.{Bool, List, [], ◌∷◌, map, ℕ, length}
use Rattle.lengths.specs.declared.Length.{Length}
use Rattle.lengths.specs.Rule.{counts}
use Rattle.ground.specs.Compass.{squares}
use Rattle.ground.specs.Grid.{Grid}
use Rattle.ground.specs.Walk.{At}
use Rattle.ground.specs.Forest.{forest}
use Rattle.search.specs.Search.{State, Rule, first_rule, tracing_rule, search_from}
use Rattle.search.specs.Editions.{meets_by}

-- 01, check 20: so many numbers of the working space are asked for each cell of the subwatershed
abbrev pub numbers_each : ℕ
numbers_each = 3

-- the starts of the longest walks, each with its length, and what the search counted
abbrev pub Tracing : Type 0
Tracing = State squares

-- the length of the first, which is that of all
abbrev pub first_length : List (At Length) → Length
first_length [] = counts 0 0
first_length (x ∷ xs) = x.len

-- 01: "the length told", the number of paths, and the cells that are listed
module _ (t : Tracing) where
  abbrev pub longest_length : Length
  longest_length = first_length t.starts

  abbrev pub path_count : ℕ
  path_count = length t.starts

  abbrev pub start_cells : List ℕ
  start_cells = map (λ x. x.cell) t.starts

-- by a rule
unfoldable pub tracing_by : Rule squares → Grid → List ℕ → ℕ → Tracing
tracing_by rule g outlets o = search_from squares rule o (forest g outlets o)

-- by an edition, with or without dropping
abbrev pub tracing : ℕ → Bool → Grid → List ℕ → ℕ → Tracing
tracing edition dropping g outlets o = tracing_by (tracing_rule squares (meets_by edition g outlets o) dropping) g outlets o

-- by 01's limit, to be compared with
abbrev pub first_tracing : ℕ → Bool → Grid → List ℕ → ℕ → Tracing
first_tracing edition dropping g outlets o = tracing_by (first_rule squares (meets_by edition g outlets o) dropping) g outlets o
