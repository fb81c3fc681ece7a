-- `stack::cells_above` meets its contract. The loop's invariant: the total is what the words so far hold, each of them
-- below 2 ^ 29. Assumes nothing.
use mathlib.Core.Path.{◌≡◌}
use mathlib.Core.List.{[]}
use native.Mathlib.Omega.{arith}
use native.Mathlib.Numerals.{add-one}
use borrow.Author.Rules.{rules}
use lib.ListN.{length, drop, drop_of_length-le}
use Rattle.lists.specs.Lists.{sum_of}
use Rattle.lists.proofs.Sums.{sum_left}
use Rattle.notes.specs.Notes.{cells_held}
use Rattle.stack.proofs.cells_above.Goals as goal

pub loop-word-preserved : goal.loop-word-preserved
loop-word-preserved c =
    let l = c.loop-word in
    let values = c.args.inflows.values in
    let eight : length values ≡ 8 = search rules in (
      omega arith,
      rw (add-one l.word-index) (omega (arith, sum_left cells_held values l.word-index (omega arith))),
    )

pub returns : goal.returns
unfolding sum_of
returns c =
    let l = c.loop-word in
    let values = c.args.inflows.values in
    let eight : length values ≡ 8 = search rules in
    let none_left : drop l.word-index values ≡ [] = drop_of_length-le values (omega arith) in
    omega (arith, rw none_left at l.invariant.1)
