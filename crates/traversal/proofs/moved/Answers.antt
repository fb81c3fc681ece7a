-- `traversal::moved` meets its contract: row and column by their changes, the number by its offset.
-- Assumes nothing.
use mathlib.Core.Path.{refl, sym, ap, ◌∙◌}
use mathlib.Core.Option.{some}
use native.Mathlib.Omega.{arith}
use Rattle.traversal.proofs.Moving.{number_is, row_some, col_some}
use Rattle.traversal.proofs.Moving.{number_there, numbered_there}
use Rattle.traversal.proofs.moved.Goals as goal

pub overflow_sub-row : goal.overflow_sub-row
overflow_sub-row c =
    row_some c.requires.on_position c.requires.k_bound.0 c.requires.k_bound.1 c.neighbour_at-n.ensures

pub overflow_sub-col : goal.overflow_sub-col
overflow_sub-col c =
    col_some c.requires.on_position c.requires.k_bound.0 c.requires.k_bound.1 c.neighbour_at-n.ensures

pub overflow_sub-at : goal.overflow_sub-at
overflow_sub-at c =
    omega (arith, number_is c.requires.on_position c.requires.k_bound.0 c.requires.k_bound.1.1)

pub returns : goal.returns
returns c =
    let m = c.neighbour_at-n.ensures in
    record {
      is_there = c.requires.k_bound.1.1
          ∙ ap some (sym (number_there c.requires.on_position c.requires.k_bound.0 c.requires.k_bound.1 m));
      on = numbered_there c.requires.on_position c.requires.k_bound.0 c.requires.k_bound.1 m;
      is_turn = refl;
    }
