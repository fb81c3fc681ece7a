-- `tables::fault_of` meets its contract. The loop's invariant: `fault` is 0 if the byte is among the codes so far, else 1.
-- Assumes nothing.
use mathlib.Core.Path.{◌∙◌}
use native.Mathlib.Omega.{arith}
use Rattle.tables.proofs.Faults.{known, unknown}
use Rattle.tables.proofs.fault_of.Goals.{then-known-code, else-known-code}
use Rattle.tables.proofs.fault_of.Goals as goal

pub loop-known-preserved : goal.loop-known-preserved
loop-known-preserved c =
    let table = c.args.table.now in
    let k = c.loop-known.known-index in
    elim c.if-known-code.branch [
      | then-known-code w ↦ w.fault-is ∙ known table k c.args.code (omega arith) w.if-known-code.true
      | else-known-code w ↦ w.fault-is ∙ unknown table k c.args.code (omega arith) w.if-known-code.false c.loop-known.invariant
    ]
