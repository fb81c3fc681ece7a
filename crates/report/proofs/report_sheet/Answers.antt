-- `report::report_sheet` meets its contract.
-- Assumes nothing.
use mathlib.Core.Path.{refl, ap, ◌∙◌}
use Rattle.answers.proofs.Refusals.{has_number}
use Rattle.lines.specs.Line.{refused_line}
use Rattle.lines.proofs.Appending.{appends_as}
use Rattle.spelling.specs.Content.{content}
use Rattle.report.proofs.Whole.{ring_refuses, tracing_refuses, all_put}
use Rattle.report.proofs.report_sheet.Goals as goal

pub returns-in-Err : goal.returns-in-Err
returns-in-Err c =
    let a = c.args in
    let s = content a.sheet.rows a.sheet.cols a.codes.now a.outlets.now in
    appends_as
    (ap refused_line c.number.ensures ∙ ring_refuses s c.in-Err.ensures a.sheet.outlets (has_number c.in-Err.refusal))
    c.put_refused.ensures

pub returns-in-Err-check_tracing : goal.returns-in-Err-check_tracing
returns-in-Err-check_tracing c =
    let a = c.args in
    let s = content a.sheet.rows a.sheet.cols a.codes.now a.outlets.now in
    let told = c.in-Err-check_tracing.ensures in
    appends_as (tracing_refuses s c.in_default.ensures a.sheet.outlets refl told.0 told.1)
    c.put_refused-in-Err-check_tracing.ensures

pub returns : goal.returns
returns c =
    let a = c.args in
    let s = content a.sheet.rows a.sheet.cols a.codes.now a.outlets.now in
    all_put s c.in_default.ensures a.sheet.outlets refl c.in_default-check_tracing.ensures
    c.put_catchment-at.ensures c.put_outlets.ensures
