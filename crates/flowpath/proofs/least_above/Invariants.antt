-- `flowpath::least_above` meets its contract. The invariant: no outlet looked at lies between the value and the least.
-- Assumes nothing.
use Prim.Native.Nat.{◌+◌}
use Rattle.flowpath.specs.Measuring.{NoneBetween}
use Rattle.flowpath.proofs.least_above.Given as goal

abbrev pub invariant-loop-outlet : goal.invariant-loop-outlet
invariant-loop-outlet l = NoneBetween l.outlet-index l.accumulation l.outlets (l.value + 1) l.least
