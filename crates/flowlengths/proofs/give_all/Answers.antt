-- `flowlengths::give_all` meets its contract: prepared, gone through, and the marks taken away.
-- Assumes nothing.
use Rattle.lengthgrids.proofs.Kept.{kept_on, kept_room, same_on}
use Rattle.climbing.proofs.Climbing.{kept_climbable}
use Rattle.flowlengths.proofs.Results.{outlets_within, resting_none, lengths_over_lem}
use Rattle.flowlengths.proofs.give_all.Goals as goal

pub prepare-requires : goal.prepare-requires
prepare-requires c =
    let s = c.requires in
    (s.room, outlets_within s)

pub climb_all-requires : goal.climb_all-requires
climb_all-requires c =
    let s = c.requires in
    record { climbable = kept_climbable s c.prepare.ensures.prepared.kept; resting = resting_none s c.prepare.ensures.prepared }

pub mark-requires : goal.mark-requires
mark-requires c =
    let s = c.requires in
    let k = kept_on c.prepare.ensures.prepared.kept c.climb_all.ensures.keeps in
    ((kept_room s.room k).down_diagonal, outlets_within s)

pub returns : goal.returns
returns c =
    let s = c.requires in
    let k = same_on c.prepare.ensures.same c.climb_all.ensures.same in
    record {
      same = record {
        down_straight = k.down_straight;
        down_diagonal = k.down_diagonal;
        up_straight = k.up_straight;
        up_diagonal = k.up_diagonal;
      };
      given = lengths_over_lem s c.climb_all.ensures.rests c.mark.ensures
          (kept_on c.prepare.ensures.prepared.kept c.climb_all.ensures.keeps);
    }
