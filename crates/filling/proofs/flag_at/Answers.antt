-- `filling::flag_at` meets its contract: the outlet is flagged already, or it flows nowhere, or a cell waited for it.
-- Assumes nothing.
use mathlib.Core.Path.{refl}
use Rattle.lists.proofs.Kept.{kept_all, kept_then, kept_set}
use Rattle.downstream.proofs.Flowing.{numbered}
use Rattle.filling.proofs.NextOutlet.{the_next, o_inside, o_room, again, at_end}
use Rattle.filling.proofs.NextOutlet.{z_inside, z_room, z_waits, waits_less}
use Rattle.filling.proofs.flag_at.Goals as goal

pub bounds-words-at : goal.bounds-words-at
bounds-words-at c = o_room (the_next c.requires.fillable c.requires.flagged refl)

pub returns-then-words-at-ge-FLAG : goal.returns-then-words-at-ge-FLAG
returns-then-words-at-ge-FLAG c = record {
  flags = again (the_next c.requires.fillable c.requires.flagged refl) c.if-words-at-ge-FLAG.true;
  keeps = kept_all;
}

pub bounds-words-at-2 : goal.bounds-words-at-2
bounds-words-at-2 c = o_room (the_next c.requires.fillable c.requires.flagged refl)

pub bounds-words-at-3 : goal.bounds-words-at-3
bounds-words-at-3 c = o_room (the_next c.requires.fillable c.requires.flagged refl)

pub downstream_of-requires : goal.downstream_of-requires
downstream_of-requires c =
    let o = the_next c.requires.fillable c.requires.flagged refl in
    numbered o.fillable.grid c.split_number-cell.ensures (o_inside o) c.offsets-steps.ensures

pub returns-in_default : goal.returns-in_default
returns-in_default c =
    let o = the_next c.requires.fillable c.requires.flagged refl in
    record {
      flags = at_end o c.if-words-at-ge-FLAG.false (c.downstream_of.ensures.ends_here c.in_default.is);
      keeps = kept_set _ _ (o_inside o);
    }

-- the cell that the outlet flows to waited for it
pub bounds-words-below : goal.bounds-words-below
bounds-words-below c =
    let o = the_next c.requires.fillable c.requires.flagged refl in
    z_room o c.if-words-at-ge-FLAG.false (c.downstream_of.ensures.goes_on _ c.in-Some.is)

pub overflow_sub-words : goal.overflow_sub-words
overflow_sub-words c =
    let o = the_next c.requires.fillable c.requires.flagged refl in
    z_waits o c.if-words-at-ge-FLAG.false (c.downstream_of.ensures.goes_on _ c.in-Some.is)

pub bounds-words-below-in-Some : goal.bounds-words-below-in-Some
bounds-words-below-in-Some c =
    let o = the_next c.requires.fillable c.requires.flagged refl in
    z_room o c.if-words-at-ge-FLAG.false (c.downstream_of.ensures.goes_on _ c.in-Some.is)

pub returns-in-Some : goal.returns-in-Some
returns-in-Some c =
    let o = the_next c.requires.fillable c.requires.flagged refl in
    let there = c.downstream_of.ensures.goes_on _ c.in-Some.is in
    record {
      flags = waits_less o c.if-words-at-ge-FLAG.false there;
      keeps = kept_then (kept_set _ _ (o_inside o)) (kept_set _ _ (z_inside o c.if-words-at-ge-FLAG.false there).0);
    }
