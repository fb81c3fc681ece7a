-- `filling::walk_down` meets its contract. The invariant: the way is at a cell that waits for nothing, or at its end.
-- The measure is what the words add up to. Assumes nothing.
use native.Mathlib.Omega.{arith}
use Rattle.filling.proofs.Kept.{fillable_kept}
use Rattle.filling.proofs.Descents.{done_small}
use Rattle.filling.proofs.walk_down.Goals as goal

pub overflow_add-done : goal.overflow_add-done
overflow_add-done c =
    let g = c.loop-next.invariant in
    omega (arith, done_small (fillable_kept g.kept c.requires.fillable_at.fillable) _ _ _ (g.is_down _ c.in-Some.is))
