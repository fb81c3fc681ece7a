-- `reading::tail_from` meets its contract. The loop's invariant: the records still to come give the number of all, and
-- the rest of the outlets.
-- Assumes nothing.
use mathlib.Core.Path.{◌≡◌}
use Prim.Native.Nat.{◌+◌, ◌-◌, ◌≤◌}
use lib.ListN.{length, drop}
use Rattle.answers.specs.Checks.{first_failed}
use Rattle.spelling.specs.Reading.{tail_checks, outlet_count}
use Rattle.reading.proofs.tail_from.Given as goal

abbrev pub invariant-loop-count : goal.invariant-loop-count
invariant-loop-count l =
    (l.here.at ≤ length l.file)
    × (first_failed (tail_checks l.rows l.cols 257 (drop l.initial.here.at l.file))
    ≡ first_failed (tail_checks l.rows l.cols (257 - l.count) (drop l.here.at l.file)))
    × (outlet_count 257 (drop l.initial.here.at l.file) ≡ l.count + outlet_count (257 - l.count) (drop l.here.at l.file))
