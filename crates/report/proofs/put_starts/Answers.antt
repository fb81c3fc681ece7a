-- `report::put_starts` meets its contract: the lines of as many starts as were turned to are put.
-- Assumes nothing.
use mathlib.Core.Path.{sym, ap}
use lib.Seq.{take_all}
use Rattle.lines.proofs.Appending.{appends_none, appends_both, appends_as}
use Rattle.report.specs.Desk.{path_lines}
use Rattle.report.proofs.Starts.{one_more, no_starts}
use Rattle.report.proofs.put_starts.Goals as goal

pub loop-start-init : goal.loop-start-init
loop-start-init c =
    appends_as (sym (no_starts c.args.cols c.args.starts.now)) (appends_none c.args.at c.args.text.now)

pub loop-start-preserved : goal.loop-start-preserved
loop-start-preserved c =
    appends_as
    (one_more c.args.cols c.args.starts.now c.loop-start.start-index c.loop-start-test.true c.count_off-cell.ensures)
    (appends_both c.loop-start.invariant c.put_path-to.ensures)

pub returns : goal.returns
returns c =
    appends_as
    (ap (path_lines c.args.cols) (take_all c.loop-start.start-index c.args.starts.now c.loop-start-test.false))
    c.loop-start.invariant
