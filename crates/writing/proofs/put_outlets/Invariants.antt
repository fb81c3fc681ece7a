-- `writing::put_outlets` meets its contract. The loop's invariant: the outlets so far are put.
-- Assumes nothing.
use mathlib.Core.Path.{◌≡◌}
use lib.ListN.{length, take}
use Rattle.spelling.specs.Format.{outlet_records}
use Rattle.writing.specs.Puts.{Puts}
use Rattle.writing.proofs.put_outlets.Given as goal

abbrev pub invariant-loop-outlet : goal.invariant-loop-outlet
invariant-loop-outlet l =
    (length l.file ≡ length l.initial.file)
    × Puts (outlet_records l.cols (take l.outlet-index l.outlets)) l.initial.at l.initial.file l.at l.file
