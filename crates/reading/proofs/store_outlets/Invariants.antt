-- `reading::store_outlets` meets its contract. The loop's invariant: storing the outlets still to come stores all.
-- Assumes nothing.
use mathlib.Core.Path.{◌≡◌}
use Prim.Native.Nat.{◌+◌, ◌-◌, ◌*◌}
use lib.ListN.{drop}
use lib.Seq.{sets}
use Rattle.spelling.specs.Reading.{outlets_from}
use Rattle.reading.proofs.store_outlets.Given as goal

abbrev pub invariant-loop-outlet : goal.invariant-loop-outlet
invariant-loop-outlet l =
    (l.here.at ≡ l.initial.here.at + 6 * l.outlet-index)
    × (sets l.initial.outlet-items 0 (outlets_from l.cols l.count (drop l.initial.here.at l.file))
    ≡ sets l.outlet-items l.outlet-index (outlets_from l.cols (l.count - l.outlet-index) (drop l.here.at l.file)))
