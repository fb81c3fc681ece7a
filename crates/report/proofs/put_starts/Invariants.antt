-- `report::put_starts` meets its contract: the lines of as many starts as were turned to are put.
-- Assumes nothing.
use lib.ListN.{take}
use Rattle.lines.specs.Appending.{Appends}
use Rattle.report.specs.Desk.{path_lines}
use Rattle.report.proofs.put_starts.Given as goal

abbrev pub invariant-loop-start : goal.invariant-loop-start
invariant-loop-start l =
    Appends (path_lines l.cols (take l.start-index l.starts)) l.at l.initial.text l.to l.text
