-- `report::put_outlets` meets its contract: the lines of the outlets before a place are put.
-- Assumes nothing.
use Rattle.answers.specs.Entries.{catchment}
use Rattle.lines.specs.Appending.{Appends}
use Rattle.report.specs.Desk.{outlets_lines}
use Rattle.report.proofs.put_outlets.Given as goal

abbrev pub invariant-loop-place : goal.invariant-loop-place
invariant-loop-place l =
    Appends (outlets_lines (catchment l.rows l.cols l.codes l.accumulation l.outlets) 0 l.place) l.at l.initial.text l.to
    l.text
