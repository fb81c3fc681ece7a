-- What lies above a cell, as a forest: the search goes through it, and the laws count it.
-- Assumes nothing.
use Rattle.std.specs.Prelude.{Bool, true, false, List, [], ◌∷◌, ◌++◌, ℕ, zero, suc, ◌+◌}
use Rattle.lengths.specs.Lengths.{Lengths}
use Rattle.lists.specs.Lists.{member, keep_if}
use Rattle.ground.specs.Compass.{Dir}
use Rattle.ground.specs.Grid.{Grid, Link, cell_count, inflows}
use Rattle.ground.specs.Walk.{At}

-- cells side by side in neighbour order: the first, its step down, what lies above it, and the others
pub data Forest (S : Type 0) : Type 0 where
  bare : Forest S
  tree : (cell : ℕ) (step : S) (above rest : Forest S) → Forest S

-- the number of its cells
abbrev pub size : {S : Type 0} → Forest S → ℕ
size bare = 0
size (tree c s above rest) = suc (size above + size rest)

-- over any network: `ups` gives the cells that flow into a cell, in neighbour order; outlets are left out
module _ {S : Type 0} (ups : ℕ → List (Link S)) (outlet : ℕ → Bool) where
  abbrev pub grow : (ℕ → Forest S) → List (Link S) → Forest S
  grow f [] = bare
  grow f (k ∷ ks) = elim (outlet k.cell) [
    | true ↦ grow f ks
    | false ↦ tree k.cell k.step (f k.cell) (grow f ks)
  ]

  -- what lies above a cell, at most n steps up
  abbrev pub upstream : ℕ → ℕ → Forest S
  upstream zero x = bare
  upstream (suc n) x = grow (upstream n) (ups x)

-- which cells count: of a cell, by its number and what lies above it
abbrev pub Which : Type 0 → Type 0
Which S = ℕ → Forest S → Bool

abbrev pub every_cell : {S : Type 0} → Which S
every_cell c above = true

module _ {S : Type 0} (𝓛 : Lengths S) where
  open 𝓛 use {Len, start, ◌▹◌}

  -- the cells above a cell at length d, a cell before what lies above it
  abbrev pub cells_above : Which S → Len → Forest S → List (At Len)
  cells_above w d bare = []
  cells_above w d (tree c s above rest) = keep_if (w c above) (record { cell = c; len = d ▹ s })
      (cells_above w (d ▹ s) above ++ cells_above w d rest)

  -- the same with the outlet
  abbrev pub cells_from : Which S → ℕ → Forest S → List (At Len)
  cells_from w o above = keep_if (w o above) (record { cell = o; len = start }) (cells_above w start above)

-- what lies above a cell of a grid
unfoldable pub forest : Grid → List ℕ → ℕ → Forest Dir
forest g outlets x = upstream (inflows g) (λ c. member c outlets) (cell_count g) x
