-- `filling::look_at` meets its contract: the cell is null, a headwater, or neither.
-- Assumes nothing.
use native.Mathlib.Omega.{arith}
use Rattle.lists.proofs.Kept.{kept_all}
use Rattle.filling.proofs.Kept.{at_inside}
use Rattle.filling.proofs.Descents.{looked_small, look_none, look_no, look_yes}
use Rattle.filling.proofs.look_at.Goals as goal

pub offset_bounds-words-here : goal.offset_bounds-words-here
offset_bounds-words-here c = omega (arith, at_inside c.requires.fillable_at)

pub bounds-words-here : goal.bounds-words-here
bounds-words-here c = omega
    (arith, at_inside c.requires.fillable_at, c.requires.fillable_at.fillable.has_words)

pub overflow_add-result : goal.overflow_add-result
overflow_add-result c =
    omega (arith, looked_small c.requires.fillable_at.fillable _ (at_inside c.requires.fillable_at).0 c.requires.looked)

pub returns-then-word-eq0 : goal.returns-then-word-eq0
returns-then-word-eq0 c =
    let at = c.requires.fillable_at in
    record {
      looks = look_none at.fillable _ (at_inside at).0 c.requires.looked c.if-word-eq0.true;
      keeps = kept_all;
    }

pub walk_down-requires : goal.walk_down-requires
walk_down-requires c =
    let at = c.requires.fillable_at in
    record {
      fillable_at = at;
      down = look_yes at.fillable _ (at_inside at).0 c.requires.looked c.if-word-eq1.true;
    }

pub returns : goal.returns
returns c =
    let at = c.requires.fillable_at in
    record {
      looks = look_no at.fillable _ (at_inside at).0 c.requires.looked c.if-word-eq0.false c.if-word-eq1.false;
      keeps = kept_all;
    }
