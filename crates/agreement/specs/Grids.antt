-- What check 14 asks of its callers, in the source's own values.
-- Assumes nothing.
use Rattle.std.specs.Prelude.{List, ℕ}
use Rattle.moves.specs.declared.grid.Grid.{Grid}
use Rattle.agreement.specs.Lent as lent

abbrev pub Lent : Grid → List ℕ → Type 0
Lent g = lent.Lent g.rows g.cols g.codes.now

abbrev pub LentRow : Grid → List ℕ → ℕ → Type 0
LentRow g = lent.LentRow g.rows g.cols g.codes.now

abbrev pub InnerRow : Grid → List ℕ → ℕ → Type 0
InnerRow g = lent.InnerRow g.rows g.cols g.codes.now
