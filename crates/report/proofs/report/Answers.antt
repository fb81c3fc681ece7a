-- `report::report` meets its contract.
-- Assumes nothing.
use native.Mathlib.Omega.{arith}
use Rattle.lines.proofs.Appending.{holds_whole}
use Rattle.report.proofs.Fits.{desk_fits}
use Rattle.report.proofs.report.Goals as goal

pub returns : goal.returns
returns c =
    holds_whole (omega (arith, c, desk_fits c.args.file.now)) c.put_report.ensures
