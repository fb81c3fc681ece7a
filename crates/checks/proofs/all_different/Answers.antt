-- `checks::all_different` meets its contract. The loop's invariant: what is left from i on decides.
-- Assumes nothing.
use mathlib.Core.Path.{sym, ◌∙◌}
use Prim.Native.Nat.{◌+◌}
use lib.ListN.{get_or}
use Rattle.checks.proofs.Lists.{in_rest, different_ends, different_breaks, different_goes_on}
use Rattle.checks.proofs.all_different.Goals as goal

pub returns-then-contains : goal.returns-then-contains
returns-then-contains c =
    let l = c.args.outlets.now in
    let i = c.loop-i.i in
    different_breaks _ _ _ c.loop-i.invariant c.loop-i-test.true
    (sym (c.contains.ensures.value ∙ in_rest (get_or l i 0) l (i + 1)) ∙ c.if-contains.true)

pub loop-i-preserved : goal.loop-i-preserved
loop-i-preserved c =
    let l = c.args.outlets.now in
    let i = c.loop-i.i in
    different_goes_on _ _ _ c.loop-i.invariant c.loop-i-test.true
    (sym (c.contains.ensures.value ∙ in_rest (get_or l i 0) l (i + 1)) ∙ c.if-contains.false)

pub returns : goal.returns
returns c = different_ends _ _ _ c.loop-i.invariant c.loop-i-test.false
