-- `moves::Walk::step` meets its contract: the walk ends, or goes on to where its cell flows.
-- Assumes nothing.
use mathlib.Core.Path.{refl, sym, ap, ◌∙◌}
use Rattle.lengths.specs.Rule.{plus_step}
use Rattle.moves.specs.Moves.{step_by}
use Rattle.moves.proofs.Flowing.{flows_nowhere}
use Rattle.moves.proofs.Walking.{walk_ends, walk_goes}
use Rattle.moves.proofs.Walk.step.Goals as goal

pub returns-in_default : goal.returns-in_default
returns-in_default c =
    let p = c.requires in
    walk_ends p (flows_nowhere p.on c.lead_of.ensures c.in_default.is) refl

pub returns-in_default-flows_by : goal.returns-in_default-flows_by
returns-in_default-flows_by c = walk_ends c.requires c.flows_by.ensures c.in_default-flows_by.is

pub returns : goal.returns
returns c =
    walk_goes c.requires c.flows_by.ensures c.in-Some-flows_by.is
    (c.plus.ensures ∙ ap (λ l. plus_step c.args.self.length (step_by l)) (sym c.in-Some.is ∙ c.lead_of.ensures))
