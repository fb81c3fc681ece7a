-- `lengthgrids::give_up` meets its contract: the counts are stored where the comparison says shorter.
-- Assumes nothing.
use mathlib.Core.Path.{sym, ◌∙◌}
use Rattle.lengthgrids.proofs.Compared.{gives_longer, gives_nothing}
use Rattle.lengthgrids.proofs.give_up.Goals as goal

pub returns-then-is_lt : goal.returns-then-is_lt
returns-then-is_lt c =
    gives_longer _ _ _ _ _ c.plus-longer.ensures c.compare.ensures (sym c.is_lt.ensures ∙ c.if-is_lt.true)

pub returns-else-is_lt : goal.returns-else-is_lt
returns-else-is_lt c =
    gives_nothing _ _ _ _ _ c.plus-longer.ensures c.compare.ensures (sym c.is_lt.ensures ∙ c.if-is_lt.false)
