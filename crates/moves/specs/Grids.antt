-- A lent grid and its cells, as the source has them, in the ground's words.
-- Assumes nothing.
use Rattle.std.specs.Prelude.{ℕ, ◌*◌, ◌+◌, get_or, Option}
use Rattle.cells.specs.declared.Cell.{Cell}
use Rattle.moves.specs.declared.grid.Grid.{Grid}
use Rattle.moves.specs.declared.Walk.{Walk}
use Rattle.ground.specs.Grid.{Grid as Ground, grid_of}
use Rattle.moves.specs.Lent.{OnCell}
use Rattle.moves.specs.Walks as walks

-- the grid of the definitions
abbrev pub ground_of : Grid → Ground
ground_of g = grid_of g.rows g.cols g.codes.now

-- a cell of it, its number and its code
abbrev pub On : Grid → Cell → Type 0
On g cell = OnCell g.rows g.cols g.codes.now cell.row cell.col

abbrev pub number_in : Grid → Cell → ℕ
number_in g cell = cell.row * g.cols + cell.col

abbrev pub code_at : Grid → Cell → ℕ
code_at g cell = get_or g.codes.now (number_in g cell) 0

-- neighbour k of a cell, or none where none flows in from there
abbrev pub FlowsIn : Grid → Cell → ℕ → Option Cell → Type 0
FlowsIn g cell = walks.FlowsFrom g.rows g.cols g.codes.now cell.row cell.col

-- a walk on it, and the walk after one step
abbrev pub OnGrid : Grid → Walk → Type 0
OnGrid g = walks.OnGrid g.rows g.cols g.codes.now

abbrev pub WalkedOn : Grid → Walk → Walk → Type 0
WalkedOn g = walks.WalkedOn (ground_of g)
