-- `reading::rows_from` meets its contract. The loop's invariant: the rows still to come give the number of all.
-- Assumes nothing.
use mathlib.Core.Path.{◌≡◌}
use Prim.Native.Nat.{◌+◌, ◌-◌, ◌*◌, ◌≤◌}
use lib.ListN.{length, drop}
use Rattle.answers.specs.Checks.{first_failed}
use Rattle.spelling.specs.Reading.{rows_checks}
use Rattle.reading.proofs.rows_from.Given as goal

abbrev pub invariant-loop-row : goal.invariant-loop-row
invariant-loop-row l =
    (l.here.at ≡ 6 + l.row * (4 + l.cols)) × (l.here.at ≤ length l.file)
    × (first_failed (rows_checks l.rows l.cols 0 l.rows (drop 6 l.file))
    ≡ first_failed (rows_checks l.rows l.cols l.row (l.rows - l.row) (drop l.here.at l.file)))
