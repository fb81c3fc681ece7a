-- Flow lengths: of a cell, downstream to its outlet and upstream to the farthest cell above it.
-- Assumes nothing.
use Rattle.std.specs.Prelude.{cond, not, List, [], ◌∷◌, map, ℕ, ◌+◌}
use Rattle.std.proofs.Math.Option.{Option, none, some}
use Rattle.lengths.specs.declared.Length.{Length}
use Rattle.lengths.specs.Rule.{counts}
use Rattle.lengths.specs.Lengths.{Lengths}
use Rattle.lists.specs.Lists.{only, up_to}
use Rattle.ground.specs.Compass.{Dir, squares}
use Rattle.ground.specs.Grid.{Grid, Link, cell_count, next, inflows}
use Rattle.ground.specs.Walk.{At}
use Rattle.ground.specs.Accumulation.{is_headwater}
use Rattle.ground.specs.Subwatershed.{is_outlet, first_outlet}
use Rattle.ground.specs.Forest.{Forest, bare, tree, forest}

module _ {S : Type 0} (𝓛 : Lengths S) where
  open 𝓛 use {Len, start, ◌▹◌, shorter}

  -- the longer of two lengths
  unfoldable pub longer_of : Len → Len → Len
  longer_of l m = cond (shorter l m) m l

  -- how far what lies above a cell reaches: 0 at a headwater, else the greatest over the inflows, outlets left out, of
  -- theirs plus the step
  abbrev pub reach : Forest S → Len
  reach bare = start
  reach (tree c s above rest) = longer_of (reach above ▹ s) (reach rest)

  -- the greatest of some lengths; 0 of none
  abbrev pub greatest : List Len → Len
  greatest [] = start
  greatest (l ∷ ls) = longer_of l (greatest ls)

-- the two lengths of a cell
pub record FlowLengths : Type 0 where
  pub down : Length
  pub up : Length

-- as Smith adds them up: count by count
abbrev pub through_length : FlowLengths → Length
through_length f = counts (f.down.straight + f.up.straight) (f.down.diagonal + f.up.diagonal)

module _ (g : Grid) (outlets : List ℕ) where
  -- 02, U1: the upstream length
  unfoldable pub upstream_length : ℕ → Length
  upstream_length c = reach squares (forest g outlets c)

  -- the outlet whose subwatershed a cell is in, and the downstream length to it; none in no subwatershed
  unfoldable pub arrival : ℕ → Option (At Length)
  arrival c = first_outlet squares (next g) (is_outlet g outlets) (cell_count g) c

  -- 02, U1: cells of no subwatershed get 0 everywhere
  abbrev pub lengths_by : ℕ → Option (At Length) → FlowLengths
  lengths_by c none = record { down = counts 0 0; up = counts 0 0 }
  lengths_by c (some a) = record { down = a.len; up = upstream_length c }

  unfoldable pub flow_lengths : ℕ → FlowLengths
  flow_lengths c = lengths_by c (arrival c)

  -- the inflows of a cell, outlets left out, each with its step
  abbrev pub tributaries : ℕ → List (Link Dir)
  tributaries x = only (λ k. not (is_outlet g outlets k.cell)) (inflows g x)

  -- 02, U1, as an equation: "0 at a headwater, else the greatest over inflows, outlets left out, of theirs plus the
  -- step". What this asks of the upstream length of a cell, if `up` gives those of the others
  abbrev pub upstream_by : (ℕ → Length) → ℕ → Length
  upstream_by up x = cond (is_headwater g outlets x) (counts 0 0)
      (greatest squares (map (λ k. squares.◌▹◌ (up k.cell) k.step) (tributaries x)))

  -- the grid of one of the four numbers
  abbrev pub length_grid : (FlowLengths → ℕ) → List ℕ
  length_grid part = map (λ c. part (flow_lengths c)) (up_to (cell_count g))
