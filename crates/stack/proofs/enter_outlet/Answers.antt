-- `stack::enter_outlet` meets its contract.
-- Assumes nothing.
use native.Mathlib.Omega.{arith}
use Rattle.stack.proofs.Climbing.{on_cell, few_above}
use Rattle.stack.proofs.Entering.{room, entered}
use Rattle.stack.proofs.enter_outlet.Goals as goal

pub visit-progress-requires : goal.visit-progress-requires
visit-progress-requires c = room c.requires.ready c.requires.on_ground c.requires.fits

pub put_inflows-higher-requires : goal.put_inflows-higher-requires
put_inflows-higher-requires c =
    let p = c.requires in record {
      on_cell = on_cell c.requires.ready p.on_ground;
      len_in_bounds = (
        omega (
          arith,
          few_above c.requires.ready p.on_ground c.args.len,
          p.fits.room,
          p.fits.within,
          c.visit-progress.auto.work,
        ),
        p.fits.short,
      );
    }

pub returns : goal.returns
returns c =
    let p = c.requires in
    entered c.requires.ready p.on_ground p.fits c.args.edition (rw c.is_met-met.ensures at c.visit-progress.ensures)
    c.put_inflows-higher.ensures
