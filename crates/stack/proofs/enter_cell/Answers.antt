-- `stack::enter_cell` meets its contract.
-- Assumes nothing.
use mathlib.Core.Path.{sym, ◌∙◌, subst}
use native.Mathlib.Omega.{arith}
use Rattle.stack.specs.Pending.{PutOn}
use Rattle.stack.proofs.Putting.{put_none}
use Rattle.stack.proofs.Climbing.{read, none_above}
use Rattle.stack.proofs.Entering.{room, entered}
use Rattle.stack.proofs.enter_cell.Goals as goal

pub returns-then-n-eq1 : goal.returns-then-n-eq1
returns-then-n-eq1 c =
    let a = c.args in
    let p = c.requires in
    entered c.requires.ready p.on_ground p.fits a.edition
    (rw c.is_met-met.ensures at c.visit.ensures)
    (subst (λ ws. PutOn ws a.top c.visit.new.work a.top c.visit.new.work)
    (sym (none_above c.requires.ready p.on_ground a.len
    (sym (c.cells_held-n.ensures ∙ read c.requires.ready p.on_ground) ∙ c.if-n-eq1.true)))
    (put_none c.visit.new.work a.top))

pub visit-progress-requires : goal.visit-progress-requires
visit-progress-requires c = room c.requires.ready c.requires.on_ground c.requires.fits

pub climb-higher-requires : goal.climb-higher-requires
climb-higher-requires c =
    let p = c.requires in
    let n = c.cells_held-n.ensures ∙ read c.requires.ready p.on_ground in record {
      ready = p.ready;
      on_ground = p.on_ground;
      n_value = (
        n,
        omega (arith, n, p.fits.room, p.fits.within, c.visit-progress.auto.work),
        p.fits.short,
      );
    }

pub returns : goal.returns
returns c =
    let p = c.requires in
    entered c.requires.ready p.on_ground p.fits c.args.edition (rw c.is_met-met.ensures at c.visit-progress.ensures)
    c.climb-higher.ensures
