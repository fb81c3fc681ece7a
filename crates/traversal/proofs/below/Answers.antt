-- `traversal::below` meets its contract: it is the move in the code's direction.
-- Assumes nothing.
use mathlib.Core.Path.{◌∙◌}
use Rattle.traversal.proofs.Moving.{place_below, next_beside, next_there, turn_back}
use Rattle.traversal.proofs.below.Goals as goal

pub moved-requires-clause-k_bound : goal.moved-requires-clause-k_bound
moved-requires-clause-k_bound c =
    let s = c.requires in (
      place_below s.on_position c.place_of-k.ensures s.has_next,
      next_beside s.on_position c.place_of-k.ensures s.has_next,
    )

pub returns : goal.returns
returns c =
    let s = c.requires in
    let m = c.moved.ensures in
    record {
      step = s.has_next.0.step;
      flows = next_there s.on_position c.place_of-k.ensures s.has_next m.is_there;
      on = m.on;
      is_turn = m.is_turn ∙ turn_back s.on_position c.place_of-k.ensures s.has_next;
    }
