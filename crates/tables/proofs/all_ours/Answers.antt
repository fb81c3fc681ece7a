-- `tables::all_ours` meets its contract: our table's codes are handed on.
-- Assumes nothing.
use mathlib.Core.Path.{◌∙◌}
use Rattle.ground.specs.Tables.{table1}
use Rattle.tables.proofs.Faults.{all_in}
use Rattle.tables.proofs.all_ours.Goals as goal

pub returns : goal.returns
returns c =
    let a = c.args in
    c.all_codes.ensures ∙ all_in table1 c.ours.ensures a.codes.now a.n
