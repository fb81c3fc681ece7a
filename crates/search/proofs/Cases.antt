-- Small grids by computation: the flow lengths of one, and one on which the tighter limit visits fewer cells.
-- Assumes nothing.
use mathlib.Core.Path.{◌≡◌, refl}
use mathlib.Core.Bool.{false}
use mathlib.Core.List.{List, [], ◌∷◌, map}
use Prim.Native.Nat.{ℕ}
use native.Mathlib.Omega.{arith}
use Rattle.lengths.specs.Rule.{counts, compared, ruled, sign_of, is_shorter}
use Rattle.ground.specs.Tables.{dir_of}
use Rattle.ground.specs.Grid.{Grid, grid_of, code_at, neighbour, next, inflows}
use Rattle.ground.specs.Subwatershed.{belongs, in_subwatershed, walked, path_from}
use Rattle.ground.specs.Divide.{on_divide}
use Rattle.ground.specs.Forest.{forest}
use Rattle.ground.specs.FlowLengths.{longer_of, upstream_length, arrival, flow_lengths, length_grid}
use Rattle.search.specs.Tracing.{longest_length, start_cells, tracing_by, tracing}
use Rattle.search.specs.Tighter.{FewerVisited}

-- ---- flow lengths: two starts tie, an outlet further up cuts its cells off, and some cells are in no subwatershed

--   0 SE   1 S   2 SW   3 S   4 null      the outlets are 7 and 1: 0 and 2 flow by 6 to 7, and 5 to 1; 3 flows to 8,
--   5 NE   6 E   7 E    8 E   9 E         and 8 and 9 lie below both
abbrev fan : Grid
fan = grid_of 2 5 (2 ∷ 4 ∷ 8 ∷ 4 ∷ 0 ∷ 128 ∷ 1 ∷ 1 ∷ 1 ∷ 1 ∷ [])

abbrev fan_outlets : List ℕ
fan_outlets = 7 ∷ 1 ∷ []

-- straight and diagonal steps downstream, then upstream
abbrev four_grids : Grid → List ℕ → List (List ℕ)
four_grids g outlets = length_grid g outlets (λ f. f.down.straight) ∷ length_grid g outlets (λ f. f.down.diagonal)
    ∷ length_grid g outlets (λ f. f.up.straight) ∷ length_grid g outlets (λ f. f.up.diagonal) ∷ []

pub fan_lengths : four_grids fan fan_outlets
    ≡ (1 ∷ 0 ∷ 1 ∷ 0 ∷ 0 ∷ 0 ∷ 1 ∷ 0 ∷ 0 ∷ 0 ∷ []) ∷ (1 ∷ 0 ∷ 1 ∷ 0 ∷ 0 ∷ 1 ∷ 0 ∷ 0 ∷ 0 ∷ 0 ∷ [])
    ∷ (0 ∷ 0 ∷ 0 ∷ 0 ∷ 0 ∷ 0 ∷ 0 ∷ 1 ∷ 0 ∷ 0 ∷ []) ∷ (0 ∷ 1 ∷ 0 ∷ 0 ∷ 0 ∷ 0 ∷ 1 ∷ 1 ∷ 0 ∷ 0 ∷ []) ∷ []
unfolding compared ruled sign_of is_shorter dir_of code_at neighbour next inflows forest longer_of upstream_length arrival
    flow_lengths
fan_lengths = refl

-- the paths of 7: their cells 0, 2, 6 and 7 are those with one straight and one diagonal step in all
pub fan_paths : (longest_length (tracing 1 false fan fan_outlets 7) ≡ counts 1 1)
    × (map (path_from fan fan_outlets) (start_cells (tracing 1 false fan fan_outlets 7))
    ≡ (0 ∷ 6 ∷ 7 ∷ []) ∷ (2 ∷ 6 ∷ 7 ∷ []) ∷ [])
unfolding compared ruled sign_of is_shorter dir_of code_at neighbour next inflows forest walked tracing_by
fan_paths = (refl, refl)

-- ---- the tighter limit: on 01's M4 it visits 8 of 9 cells, and 01's limit all of them, by either edition

abbrev nine : Grid
nine = grid_of 3 3 (2 ∷ 4 ∷ 8 ∷ 1 ∷ 4 ∷ 16 ∷ 1 ∷ 4 ∷ 16 ∷ [])

pub fewer_visited : FewerVisited 1 × FewerVisited 2
unfolding compared ruled sign_of is_shorter dir_of code_at neighbour next inflows forest tracing_by belongs in_subwatershed
    on_divide
fewer_visited = (
  record { grid = nine; outlets = 7 ∷ []; outlet = 7; fewer = omega arith },
  record { grid = nine; outlets = 7 ∷ []; outlet = 7; fewer = omega arith },
)
