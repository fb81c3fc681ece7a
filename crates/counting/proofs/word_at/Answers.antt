-- `counting::word_at` meets its contract: what flows in is counted.
-- Assumes nothing.
use mathlib.Core.Path.{sym}
use native.Mathlib.Omega.{arith}
use Rattle.ground.proofs.Cells.{null_at, ground_at}
use Rattle.moves.proofs.Spots.{inside}
use Rattle.counting.proofs.Words.{null_word, begin, fits, more, no_more, all_counted}
use Rattle.counting.proofs.word_at.Goals.{then-flows, else-flows}
use Rattle.counting.proofs.word_at.Goals as goal

pub loop-k-init : goal.loop-k-init
loop-k-init c = begin _ _

pub overflow_add-word : goal.overflow_add-word
overflow_add-word c = omega (arith, fits c.loop-k.invariant)

pub loop-k-preserved : goal.loop-k-preserved
loop-k-preserved c =
    let s = c.loop-k.invariant in
    let h = c.loop-k-test.true in
    let e = c.flows_in-flows.ensures in
    elim c.if-flows.branch [
      | then-flows w ↦ rw w.word-is (more s h e w.if-flows.true)
      | else-flows w ↦ rw w.word-is (no_more s h e w.if-flows.false)
    ]

pub returns-then-grid-here-eq0 : goal.returns-then-grid-here-eq0
returns-then-grid-here-eq0 c =
    sym (null_word _ _ (null_at _ _ (inside c.requires) c.if-grid-here-eq0.true))

pub returns : goal.returns
returns c =
    all_counted c.loop-k.invariant c.loop-k-test.false (ground_at _ _ (inside c.requires) c.if-grid-here-eq0.false)
