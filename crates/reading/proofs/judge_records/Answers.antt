-- `reading::judge_records` meets its contract: by the rows, and where they pass by what follows them.
-- Assumes nothing.
use mathlib.Core.Path.{◌∙◌}
use Rattle.std.proofs.lemmas.Result.{err_from_is_err_and}
use Rattle.reading.proofs.Judged.{records_refused, records_read}
use Rattle.reading.proofs.judge_records.Goals as goal

pub returns-in_err-tail : goal.returns-in_err-tail
returns-in_err-tail c =
    let a = c.args in
    let p = err_from_is_err_and c.from_residual.result c.from_residual.ensures.1 in
    rw (p.1, p.2) (records_refused a.file.now a.rows a.cols _ c.in_err-tail.ensures)

pub returns-in_err-outlets : goal.returns-in_err-outlets
returns-in_err-outlets c =
    let a = c.args in
    let rows = c.in_ok-tail.ensures in
    let r = c.from_residual-in_err-outlets in
    let p = err_from_is_err_and r.result r.ensures.1 in
    rw (p.1, p.2)
    (records_refused a.file.now a.rows a.cols _ (rows.on ∙ (rw rows.lands at c.in_err-outlets.ensures)))

pub returns : goal.returns
returns c =
    let a = c.args in
    let rows = c.in_ok-tail.ensures in
    let t = rw rows.lands at c.in_ok-outlets.ensures in
    records_read a.file.now a.rows a.cols _ (rows.on ∙ t.number) t.counted
