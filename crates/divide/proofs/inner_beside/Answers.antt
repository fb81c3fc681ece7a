-- `divide::inner_beside` meets its contract: some neighbour is outside.
-- Assumes nothing.
use mathlib.Core.Path.{refl}
use Prim.Native.Nat.{◌+◌, ◌*◌}
use Rattle.std.proofs.Common.{rules, tests}
use Rattle.std.proofs.lemmas.Iterator.{YieldsList-from_range}
use Rattle.std.proofs.lemmas.Iterator.Search.{any_from_yields_List}
use Rattle.ground.specs.Grid.{grid_of, neighbour}
use Rattle.moves.specs.Moves.{dir_at}
use Rattle.divide.specs.Divides.{is_outside}
use Rattle.divide.proofs.Beside.{beside_word, beside_any}
use Rattle.divide.proofs.inner_beside.Goals as goal

pub returns : goal.returns
returns c = let a = c.args in
    beside_any _ _ _ (any_from_yields_List
    (λ k. is_outside a.words.now (neighbour (grid_of a.grid.rows a.grid.cols a.grid.codes.now) (a.cell.row * a.grid.cols + a.cell.col) (dir_at k))) _ _ _
    c.any.ensures.ran (YieldsList-from_range _ _ _ refl refl)
    (λ x b q k. search (rules, tests, beside_word)))
