-- `climbing::climb_all` meets its contract. The invariant: the subwatersheds of the first j outlets are left.
-- Assumes nothing.
use Rattle.lengthgrids.proofs.Kept.{kept_grids, kept_on, same_grids, same_on}
use Rattle.climbing.proofs.Climbing.{kept_climbable}
use Rattle.climbing.proofs.climb_all.Goals as goal

pub offsets-steps-requires : goal.offsets-steps-requires
offsets-steps-requires c = c.requires.climbable.grid.sides.cols_small

pub loop-j-init : goal.loop-j-init
loop-j-init c = (same_grids, c.requires.resting, kept_grids)

pub climb-requires : goal.climb-requires
climb-requires c =
    let l = c.loop-j.invariant in
    let s = c.requires in
    record {
      climbable = kept_climbable s.climbable l.2;
      place_in_bounds = (c.loop-j-test.true, c.offsets-steps.ensures);
      resting = l.1;
    }

pub loop-j-preserved : goal.loop-j-preserved
loop-j-preserved c =
    let l = c.loop-j.invariant in
    let e = c.climb.ensures in
    (same_on l.0 e.same, e.rests, kept_on l.2 e.keeps)
