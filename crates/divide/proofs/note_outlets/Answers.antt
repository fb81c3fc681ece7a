-- `divide::note_outlets` meets its contract. The invariant: the outlets so far are noted.
-- Assumes nothing.
use mathlib.Core.Path.{refl}
use Rattle.divide.proofs.Changing.{changes_none, outlets_more, outlets_all}
use Rattle.divide.proofs.note_outlets.Goals as goal

pub loop-outlet-init : goal.loop-outlet-init
loop-outlet-init c = changes_none (λ x. refl)

pub loop-outlet-preserved : goal.loop-outlet-preserved
loop-outlet-preserved c =
    let h = c.loop-outlet-test.true in
    outlets_more c.args.outlets.now refl h (c.requires.1 _ h) c.requires.0 c.loop-outlet.invariant

pub returns : goal.returns
returns c = outlets_all c.loop-outlet.outlet-index c.args.outlets.now c.loop-outlet-test.false c.loop-outlet.invariant
