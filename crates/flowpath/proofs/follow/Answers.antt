-- `flowpath::follow` meets its contract. The invariant: what lies before the walk is what the whole walk has, less the
-- cells passed.
-- Assumes nothing.
use mathlib.Core.Path.{sym, ◌∙◌}
use native.Mathlib.Omega.{arith}
use Rattle.flowpath.proofs.Following.{outlets_in, begun, few_steps, marked_at, on_grid}
use Rattle.flowpath.proofs.Following.{arrived, elsewhere, lost, one_step, goes_on}
use Rattle.flowpath.proofs.follow.Goals as goal

pub loop-walk-init : goal.loop-walk-init
loop-walk-init c =
    begun c.requires.surveyed c.args.outlet c.args.start c.requires.start_value c.walk_from-walk.ensures

pub meets_outlet-requires : goal.meets_outlet-requires
meets_outlet-requires c = marked_at c.loop-walk.invariant c.requires.surveyed

pub returns-then-cell-outlet : goal.returns-then-cell-outlet
returns-then-cell-outlet c =
    elsewhere c.loop-walk.invariant (sym c.meets_outlet.ensures ∙ c.if-meets_outlet.true) c.if-cell-outlet.true

pub returns-then-meets_outlet : goal.returns-then-meets_outlet
returns-then-meets_outlet c =
    arrived c.loop-walk.invariant (sym c.meets_outlet.ensures ∙ c.if-meets_outlet.true) c.if-cell-outlet.false

pub mark_after-mark-requires : goal.mark_after-mark-requires
mark_after-mark-requires c =
    let s = c.requires.surveyed in
    record { outlets_in = outlets_in s; marked_at = marked_at c.loop-walk.invariant s }

pub step-walk-requires : goal.step-walk-requires
step-walk-requires c = on_grid c.loop-walk.invariant c.requires.surveyed

pub returns-then-to-cell : goal.returns-then-to-cell
returns-then-to-cell c =
    lost c.loop-walk.invariant c.step-walk.ensures (sym c.meets_outlet.ensures ∙ c.if-meets_outlet.false)
    c.if-to-cell.true

pub loop-walk-smaller : goal.loop-walk-smaller
loop-walk-smaller c =
    omega (
      arith,
      few_steps c.loop-walk.invariant c.requires.surveyed,
      one_step c.loop-walk.invariant c.step-walk.ensures c.if-to-cell.false,
    )

pub loop-walk-preserved : goal.loop-walk-preserved
loop-walk-preserved c =
    goes_on c.loop-walk.invariant c.step-walk.ensures c.if-to-cell.false c.requires.surveyed
    (sym c.meets_outlet.ensures ∙ c.if-meets_outlet.false) _ c.mark_after-mark.ensures
