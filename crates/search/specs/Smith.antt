-- THE PROMISE OF FLOW LENGTHS, in one record: what the two lengths of a cell say of the longest paths.
-- Assumes nothing.
use Rattle.std.specs.Prelude.{◌≡◌, ◌↔◌, List, true, false, ℕ}
use Rattle.lengths.specs.declared.Length.{Length}
use Rattle.lengths.specs.Rule.{counts, is_shorter}
use Rattle.lists.specs.Lists.{In, member}
use Rattle.ground.specs.Grid.{Grid}
use Rattle.ground.specs.Subwatershed.{InSubwatershed, HasLength, path_from}
use Rattle.ground.specs.FlowLengths.{through_length, flow_lengths}
use Rattle.search.specs.Tracing.{Tracing, longest_length, start_cells}

-- c lies on the path of a listed start
abbrev pub OnListedPath : Grid → List ℕ → Tracing → ℕ → Type 0
OnListedPath g outlets t c = (s : ℕ) × In s (start_cells t) × In c (path_from g outlets s)

-- c is in the subwatershed of no listed outlet
abbrev pub InNone : Grid → List ℕ → ℕ → Type 0
InNone g outlets c = (p : ℕ) → member p outlets ≡ true → InSubwatershed g outlets p c → ⊥

-- of the outlet o, and what is told of it
pub record Smith (g : Grid) (outlets : List ℕ) (o : ℕ) (t : Tracing) : Type 0 where
  -- the downstream length is that of the walk to the outlet
  pub downstream : (c : ℕ) (l : Length) → HasLength g outlets o c l → (flow_lengths g outlets c).down ≡ l
  -- Smith's method, without tolerance: downstream and upstream length of a cell of the subwatershed add up, count by
  -- count, to the length told exactly if the cell lies on a listed path
  pub smith : (c : ℕ) → InSubwatershed g outlets o c
      → (through_length (flow_lengths g outlets c) ≡ longest_length t) ↔ OnListedPath g outlets t c
  -- and at no cell to more
  pub never_exceeds : (c : ℕ) → InSubwatershed g outlets o c
      → is_shorter (longest_length t) (through_length (flow_lengths g outlets c)) ≡ false
  -- the upstream length of the outlet is the length told
  pub outlet_up : (flow_lengths g outlets o).up ≡ longest_length t
  -- that of a listed start is 0, and its downstream length is the length told
  pub start_lengths : (s : ℕ) → In s (start_cells t)
      → ((flow_lengths g outlets s).up ≡ counts 0 0) × ((flow_lengths g outlets s).down ≡ longest_length t)
  -- a cell of no subwatershed has 0 in both
  pub outside : (c : ℕ) → InNone g outlets c → flow_lengths g outlets c
      ≡ record { down = counts 0 0; up = counts 0 0 }
