-- `filling::strip` meets its contract. The invariant: the first outlets have no flag any more.
-- Assumes nothing.
use mathlib.Core.Path.{refl}
use Rattle.filling.proofs.Sweeps.{strip_step}
use Rattle.filling.proofs.strip.Goals as goal

pub loop-outlet-preserved : goal.loop-outlet-preserved
loop-outlet-preserved c =
    let h = c.loop-outlet-test.true in
    strip_step refl h (c.requires.1 c.loop-outlet.outlet-index h) c.requires.0 c.loop-outlet.invariant
