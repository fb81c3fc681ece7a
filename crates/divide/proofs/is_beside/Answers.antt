-- `divide::is_beside` meets its contract: a border cell has a neighbour off the grid.
-- Assumes nothing.
use mathlib.Core.Path.{sym, ◌∙◌}
use mathlib.Core.Bool.{true≢false}
use Rattle.divide.proofs.Beside.{off_inner}
use Rattle.divide.proofs.is_beside.Goals as goal

pub returns-then-not-is_inner : goal.returns-then-not-is_inner
returns-then-not-is_inner c =
    let e = c.if-not-is_inner.true in
    let h = off_inner c.requires.on c.args.words.now (λ i. true≢false (sym (c.is_inner.ensures.1 i) ∙ e)) in
    cc
