-- `filling::pass_down` meets its contract: a law for each way out.
-- Assumes nothing.
use native.Mathlib.Omega.{arith}
use Rattle.downstream.proofs.Flowing.{flows_inside}
use Rattle.lists.proofs.Kept.{kept_all, kept_set}
use Rattle.filling.proofs.Kept.{at_inside}
use Rattle.filling.proofs.Descents.{down_outlet, down_end, down_fits, down_less, down_on, down_stop}
use Rattle.filling.proofs.Descents.{passed_end, passed_on}
use Rattle.filling.proofs.pass_down.Goals as goal

pub returns-then-word-ge-FLAG : goal.returns-then-word-ge-FLAG
returns-then-word-ge-FLAG c =
    passed_end kept_all
    (down_outlet c.requires.fillable_at.fillable _ _ _ c.requires.down c.if-word-ge-FLAG.true)

pub returns-in_err-below : goal.returns-in_err-below
returns-in_err-below c =
    rw c.from_residual.ensures
    (passed_end kept_all
    (down_end c.requires.fillable_at.fillable _ _ _ c.requires.down
    (c.downstream_of.ensures.ends_here c.in_err-below.was)))

-- the cell that it flows to
pub offset_bounds-words-below : goal.offset_bounds-words-below
offset_bounds-words-below c =
    omega (arith, flows_inside c.downstream_of.ensures c.in_ok-below.was, at_inside c.requires.fillable_at)

pub bounds-words-below : goal.bounds-words-below
bounds-words-below c =
    omega (arith, flows_inside c.downstream_of.ensures c.in_ok-below.was, c.requires.fillable_at.fillable.has_words)

pub overflow_add-sum : goal.overflow_add-sum
overflow_add-sum c = omega (
  arith,
  down_fits c.requires.fillable_at.fillable _ _ _ c.requires.down c.if-word-ge-FLAG.false
      (c.downstream_of.ensures.goes_on _ c.in_ok-below.was),
)

pub overflow_sub-sum : goal.overflow_sub-sum
overflow_sub-sum c = omega (
  arith,
  down_fits c.requires.fillable_at.fillable _ _ _ c.requires.down c.if-word-ge-FLAG.false
      (c.downstream_of.ensures.goes_on _ c.in_ok-below.was),
)

pub offset_bounds-words-below-2 : goal.offset_bounds-words-below-2
offset_bounds-words-below-2 c =
    omega (arith, flows_inside c.downstream_of.ensures c.in_ok-below.was, at_inside c.requires.fillable_at)

pub bounds-words-below-2 : goal.bounds-words-below-2
bounds-words-below-2 c =
    omega (arith, flows_inside c.downstream_of.ensures c.in_ok-below.was, c.requires.fillable_at.fillable.has_words)

pub returns-then-sum-ge-INFLOW : goal.returns-then-sum-ge-INFLOW
returns-then-sum-ge-INFLOW c =
    passed_end (kept_set _ _ (flows_inside c.downstream_of.ensures c.in_ok-below.was))
    (down_stop c.requires.fillable_at.fillable _ _ _ c.requires.down c.if-word-ge-FLAG.false
    (c.downstream_of.ensures.goes_on _ c.in_ok-below.was) c.if-sum-ge-INFLOW.true)

pub returns : goal.returns
returns c =
    let f = c.requires.fillable_at.fillable in
    let t = c.downstream_of.ensures in
    let e = c.in_ok-below.was in
    passed_on (t.row_in _ e) (t.col_in _ e) (t.is_at _ e) (kept_set _ _ (flows_inside t e))
    (down_on f _ _ _ c.requires.down c.if-word-ge-FLAG.false (t.goes_on _ e) c.if-sum-ge-INFLOW.false)
    (down_less f _ _ _ c.requires.down c.if-word-ge-FLAG.false (t.goes_on _ e))
