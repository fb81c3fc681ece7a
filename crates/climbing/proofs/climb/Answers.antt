-- `climbing::climb` meets its contract. The invariant: the traversal stands at a cell. The measure: cells without a
-- length count double, and the steps to the outlet once. Assumes nothing.
use mathlib.Core.Path.{refl}
use native.Mathlib.Omega.{arith}
use Rattle.traversal.proofs.Moving.{at_inside}
use Rattle.climbing.proofs.Climbing.{standing_begin, room_now, x_inside, cells_few}
use Rattle.climbing.proofs.Climbing.{resting_on, has_next, countable_up, diagonal_up, standing_down}
use Rattle.climbing.proofs.Climbing.{depth_less}
use Rattle.climbing.proofs.Climbing.{has_neighbour, countable_down, standing_up, fewer_blanks, depth_more}
use Rattle.lengthgrids.proofs.Kept.{same_grids}
use Rattle.climbing.proofs.climb.Goals as goal

pub split_number-requires : goal.split_number-requires
split_number-requires c = c.requires.climbable.some_cols

pub loop-k-init : goal.loop-k-init
loop-k-init c =
    let s = c.requires in (
      same_grids,
      standing_begin s.climbable s.place_in_bounds.1 s.place_in_bounds.0 refl s.resting
          c.split_number.ensures,
    )

pub next_turn-requires : goal.next_turn-requires
next_turn-requires c =
    let s = c.requires in
    let l = c.loop-k.invariant.1 in
    record { on = l.on; has_marks = rw c.marks.ensures (room_now s.climbable l).down_diagonal; turn_small = l.turn_small }

pub offset_bounds-grids-x : goal.offset_bounds-grids-x
offset_bounds-grids-x c =
    let s = c.requires in
    let l = c.loop-k.invariant.1 in
    omega (arith, x_inside s.climbable l, cells_few s.climbable l)

pub bounds-grids-x : goal.bounds-grids-x
bounds-grids-x c =
    let s = c.requires in
    let l = c.loop-k.invariant.1 in
    omega (arith, x_inside s.climbable l, (room_now s.climbable l).down_diagonal)

pub returns-then-grids-x-ge-MARK : goal.returns-then-grids-x-ge-MARK
returns-then-grids-x-ge-MARK c =
    let s = c.requires in
    let l = c.loop-k.invariant.1 in
    record {
      same = c.loop-k.invariant.0;
      rests = resting_on s.climbable l (rw c.marks.ensures at c.next_turn.ensures) c.in-None.is s.place_in_bounds.0
          c.if-grids-x-ge-MARK.true;
      keeps = l.kept;
    }

pub below-p-requires : goal.below-p-requires
below-p-requires c =
    let s = c.requires in
    let l = c.loop-k.invariant.1 in
    record {
      on_position = l.on;
      has_next = has_next s.climbable l (rw c.marks.ensures at c.next_turn.ensures) c.in-None.is c.if-grids-x-ge-MARK.false;
    }

pub bounds-grid-x : goal.bounds-grid-x
bounds-grid-x c =
    let s = c.requires in
    let l = c.loop-k.invariant.1 in
    omega (arith, x_inside s.climbable l, s.climbable.grid.has_codes)

pub give_up-requires : goal.give_up-requires
give_up-requires c =
    let s = c.requires in
    let l = c.loop-k.invariant.1 in
    let w = c.below-p.ensures.flows in (
      countable_up s.climbable l (rw c.marks.ensures at c.next_turn.ensures) c.in-None.is c.if-grids-x-ge-MARK.false w,
      diagonal_up s.climbable l (rw c.marks.ensures at c.next_turn.ensures) c.in-None.is c.if-grids-x-ge-MARK.false w,
    )

pub loop-k-smaller : goal.loop-k-smaller
loop-k-smaller c =
    let s = c.requires in
    let l = c.loop-k.invariant.1 in
    omega (
      arith,
      depth_less s.climbable l (rw c.marks.ensures at c.next_turn.ensures) c.in-None.is c.if-grids-x-ge-MARK.false
          c.below-p.ensures.flows,
    )

pub loop-k-preserved : goal.loop-k-preserved
loop-k-preserved c =
    let w = c.below-p.ensures in
    let s = c.requires in
    let l = c.loop-k.invariant.1 in
    let k = c.loop-k.invariant.0 in (
      record {
        down_straight = k.down_straight;
        down_diagonal = k.down_diagonal;
        up_straight = k.up_straight;
        up_diagonal = k.up_diagonal;
      },
      standing_down s.climbable l (rw c.marks.ensures at c.next_turn.ensures) c.in-None.is c.if-grids-x-ge-MARK.false w.flows w.on
          w.is_turn c.step_of-step-in-None.ensures c.give_up.ensures,
    )

pub moved-p-requires : goal.moved-p-requires
moved-p-requires c =
    let s = c.requires in
    let l = c.loop-k.invariant.1 in
    record {
      on_position = l.on;
      k_bound = ((rw c.marks.ensures at c.next_turn.ensures).is_turn _ c.in-Some.is, has_neighbour s.climbable l (rw c.marks.ensures at c.next_turn.ensures) c.in-Some.is);
    }

pub bounds-grid-p : goal.bounds-grid-p
bounds-grid-p c =
    let s = c.requires in
    omega (arith, s.climbable.grid.has_codes, at_inside c.moved-p.ensures.on)

pub give_down-requires : goal.give_down-requires
give_down-requires c =
    let s = c.requires in
    let l = c.loop-k.invariant.1 in
    let w = c.moved-p.ensures in
    countable_down s.climbable l (rw c.marks.ensures at c.next_turn.ensures) c.in-Some.is w.is_there

pub loop-k-smaller-in-Some : goal.loop-k-smaller-in-Some
loop-k-smaller-in-Some c =
    let w = c.moved-p.ensures in
    let s = c.requires in
    let l = c.loop-k.invariant.1 in
    let n = (rw c.marks.ensures at c.next_turn.ensures) in
    omega (
      arith,
      fewer_blanks s.climbable l n c.in-Some.is w.is_there c.step_of-step.ensures c.give_down.ensures,
      depth_more s.climbable l n c.in-Some.is w.is_there c.step_of-step.ensures c.give_down.ensures,
    )

pub loop-k-preserved-in-Some : goal.loop-k-preserved-in-Some
loop-k-preserved-in-Some c =
    let w = c.moved-p.ensures in
    let s = c.requires in
    let l = c.loop-k.invariant.1 in
    let k = c.loop-k.invariant.0 in (
      record {
        down_straight = k.down_straight;
        down_diagonal = k.down_diagonal;
        up_straight = k.up_straight;
        up_diagonal = k.up_diagonal;
      },
      standing_up s.climbable l (rw c.marks.ensures at c.next_turn.ensures) c.in-Some.is w.is_there c.step_of-step.ensures
          c.give_down.ensures w.on w.is_turn,
    )
