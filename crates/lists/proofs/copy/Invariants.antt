-- `lists::copy` meets its contract. The loop's invariant: storing the rest stores all.
-- Assumes nothing.
use mathlib.Core.Path.{◌≡◌}
use Prim.Native.Nat.{◌+◌}
use lib.ListN.{drop}
use lib.Seq.{sets}
use Rattle.lists.proofs.copy.Given as goal

abbrev pub invariant-loop-i : goal.invariant-loop-i
invariant-loop-i l = sets l.initial.to l.place l.from ≡ sets l.to (l.place + l.i) (drop l.i l.from)
