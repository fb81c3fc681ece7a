-- `stack::cells_above` meets its contract. The loop's invariant: the total is what the words so far hold, each of them
-- below 2 ^ 29. Assumes nothing.
use mathlib.Core.Path.{◌≡◌}
use mathlib.Core.List.{map}
use Prim.Native.Nat.{◌+◌, ◌*◌, ◌≤◌, ◌^◌}
use lib.ListN.{drop}
use Rattle.lists.specs.Lists.{sum_of}
use Rattle.notes.specs.Notes.{cells_held}
use Rattle.stack.proofs.cells_above.Given as goal

abbrev pub invariant-loop-word : goal.invariant-loop-word
invariant-loop-word l =
    (l.total ≤ l.word-index * 2 ^ 29)
    × (l.total + sum_of (map cells_held (drop l.word-index l.word-items)) ≡ sum_of (map cells_held l.word-items))
