-- `upstream::tributary` meets its contract: a law for each of the ways to look.
-- Assumes nothing.
use mathlib.Core.Path.{sym, ◌∙◌}
use Rattle.upstream.proofs.Turning.{turns_off, turns_outlet, turns_in}
use Rattle.upstream.proofs.tributary.Goals as goal

pub returns-in_err-from : goal.returns-in_err-from
returns-in_err-from c = rw c.from_residual.ensures (turns_off _ c.inflow.ensures c.in_err-from.was)

pub returns-then-is_among : goal.returns-then-is_among
returns-then-is_among c =
    turns_outlet _ c.inflow.ensures c.in_ok-from.was
    (sym c.is_among.ensures ∙ c.if-is_among.true)

pub returns : goal.returns
returns c =
    turns_in _ c.inflow.ensures c.in_ok-from.was
    (sym c.is_among.ensures ∙ c.if-is_among.false)
