-- `reading::store_codes` meets its contract. The loop's invariant: storing the codes of the rows still to come stores
-- all.
-- Assumes nothing.
use mathlib.Core.Path.{◌≡◌}
use Prim.Native.Nat.{◌+◌, ◌-◌, ◌*◌}
use lib.ListN.{drop}
use lib.Seq.{sets}
use Rattle.spelling.specs.Reading.{codes_from}
use Rattle.reading.proofs.store_codes.Given as goal

abbrev pub invariant-loop-row : goal.invariant-loop-row
invariant-loop-row l =
    (l.at ≡ 6 + l.row * (4 + l.cols))
    × (sets l.initial.codes 0 (codes_from l.cols l.rows (drop 6 l.file))
    ≡ sets l.codes (l.row * l.cols) (codes_from l.cols (l.rows - l.row) (drop l.at l.file)))
