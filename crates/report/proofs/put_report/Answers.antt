-- `report::put_report` meets its contract.
-- Assumes nothing.
use mathlib.Core.Path.{ap, ◌∙◌}
use native.Mathlib.Omega.{arith}
use lib.ListN.{length, length-take}
use Rattle.lines.specs.Line.{refused_line}
use Rattle.lines.proofs.Appending.{appends_as, whole}
use Rattle.report.proofs.Whole.{file_refused, some_cols, file_read}
use Rattle.report.proofs.put_report.Goals as goal

pub report_sheet-requires : goal.report_sheet-requires
report_sheet-requires c = (
  some_cols c.args.file.now c.in-Ok.ensures,
  omega (arith, simp length-take at (ap length c.first_of.ensures), c.read.auto.outlets),
)

pub returns-in-Ok : goal.returns-in-Ok
returns-in-Ok c =
    whole (appends_as (file_read c.args.file.now c.in-Ok.ensures c.first_of.ensures) c.report_sheet.ensures)

pub returns-in-Err : goal.returns-in-Err
returns-in-Err c =
    whole (appends_as (ap refused_line c.number.ensures ∙ file_refused c.args.file.now c.in-Err.ensures)
    c.put_refused.ensures)
