-- `writing::put_rows` meets its contract. The loop's invariant: the rows so far are put.
-- Assumes nothing.
use mathlib.Core.Path.{◌≡◌}
use lib.ListN.{length}
use Rattle.spelling.specs.Format.{row_records}
use Rattle.writing.specs.Puts.{Puts}
use Rattle.writing.proofs.put_rows.Given as goal

abbrev pub invariant-loop-row : goal.invariant-loop-row
invariant-loop-row l =
    (length l.file ≡ length l.initial.file) × Puts (row_records l.cols 0 l.row l.codes) 6 l.initial.file l.at l.file
