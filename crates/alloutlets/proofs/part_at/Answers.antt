-- `alloutlets::part_at` meets its contract. The invariant: the part would begin after the counts looked at.
-- Assumes nothing.
use mathlib.Core.Path.{refl}
use native.Mathlib.Omega.{arith}
use Rattle.lists.specs.Lists.{sum_of}
use Rattle.alloutlets.proofs.Parts.{shows_outside, all_before, sum_before, shows_early, shows_past, shows_none, shows_own}
use Rattle.alloutlets.proofs.part_at.Goals as goal
use Rattle.alloutlets.proofs.part_at.Goals.{then-count-eq0-via-then-count-eq0, then-count-eq0-via-else-count-eq0+then-n-begin-2}

pub returns-then-counts-choice : goal.returns-then-counts-choice
returns-then-counts-choice c = shows_outside c.args.counts.now c.args.choice c.args.n c.if-counts-choice.true

pub loop-more-init : goal.loop-more-init
unfolding sum_of
loop-more-init c = (omega arith, omega arith)

pub returns-then-n-begin : goal.returns-then-n-begin
returns-then-n-begin c =
    shows_early c.args.counts.now c.args.choice c.args.n c.if-counts-choice.false c.loop-more.more-index c.loop-more-test.true
    (omega (arith, c.if-n-begin.true, c.loop-more.invariant.0))

pub loop-more-preserved : goal.loop-more-preserved
loop-more-preserved c =
    let next = sum_before c.args.counts.now c.args.choice c.args.n c.if-counts-choice.false c.loop-more.more-index
    c.loop-more-test.true in
    (omega (arith, c.loop-more.invariant.0, next), omega (arith, c.if-n-begin.false, c.loop-more.invariant.1))

pub returns-then-count-eq0 : goal.returns-then-count-eq0
returns-then-count-eq0 c =
    let a = c.args in
    let l = c.loop-more in
    let first = all_before a.counts.now a.choice a.n c.if-counts-choice.false l.auto.more-index-end c.loop-more-test.false
    l.invariant.0 in
    elim c.then-count-eq0.branch [
      | then-count-eq0-via-then-count-eq0 w ↦ shows_none a.counts.now a.choice a.n c.if-counts-choice.false
          (omega (arith, first, w.if-count-eq0.true, l.invariant.1)) w.if-count-eq0.true
      | then-count-eq0-via-else-count-eq0+then-n-begin-2 w ↦ shows_past a.counts.now a.choice a.n
          (omega (arith, first, w.if-n-begin-2.true))
    ]

pub returns : goal.returns
returns c =
    let a = c.args in
    let l = c.loop-more in
    let first = all_before a.counts.now a.choice a.n c.if-counts-choice.false l.auto.more-index-end c.loop-more-test.false
    l.invariant.0 in
    shows_own a.counts.now a.choice a.n c.if-counts-choice.false
    (omega (arith, first, c.if-n-begin-2.false, l.invariant.1)) first refl c.if-count-eq0.false
