-- `tables::fault_of` meets its contract. The loop's invariant: `fault` is 0 if the byte is among the first k codes, else 1.
-- Assumes nothing.
use mathlib.Core.Path.{◌≡◌}
use lib.ListN.{take}
use Rattle.lists.specs.Lists.{member}
use Rattle.tables.specs.Faults.{fault_of}
use Rattle.tables.proofs.fault_of.Given as goal

abbrev pub invariant-loop-known : goal.invariant-loop-known
invariant-loop-known l = l.fault ≡ fault_of (member l.code (take l.known-index l.table))
