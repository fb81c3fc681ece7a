-- The neighbour that flows in, by what the source finds: off the grid, pointing elsewhere, or flowing in.
-- Assumes nothing.
use mathlib.Core.Path.{◌≡◌, sym, ap, ◌∙◌}
use mathlib.Core.List.{List}
use mathlib.Core.Option.{none, some}
use Prim.Native.Nat.{ℕ, ◌+◌, ◌*◌}
use Rattle.std.specs.Prelude.{Option, Some, None}
use Rattle.std.proofs.lemmas.Option.{none-some}
use lib.ListN.{get_or}
use borrow.Author.Tests.{eq-eqb, ne_eqb}
use Rattle.cells.specs.declared.Cell.{Cell}
use Rattle.moves.specs.declared.Neighbour.{Neighbour}
use Rattle.ground.specs.Compass.{opposite}
use Rattle.ground.specs.Tables.{table1}
use Rattle.ground.specs.Grid.{Grid, grid_of, code_at}
use Rattle.ground.proofs.Cells.{code_inside}
use Rattle.moves.specs.Lent.{OnCell}
use Rattle.moves.specs.Moves.{Spotted, spot_cell, dir_at, neighbour_of}
use Rattle.moves.specs.Walks.{if_flows_in, inflow_from, FlowsFrom}
use Rattle.moves.proofs.Spots.{lies, spot_inside, row_is, col_is}

module _ {rows cols : ℕ} {codes : List ℕ} {row col : ℕ} (on : OnCell rows cols codes row col)
    (k : ℕ) {n : Neighbour} (is-n : n ≡ neighbour_of (dir_at k))
    {s : Option Cell} (p : Spotted rows cols row col n.row n.col s) where
  abbrev land : Grid
  land = grid_of rows cols codes

  lies_there : inflow_from land (row * cols + col) (dir_at k) ≡ if_flows_in land (dir_at k) (spot_cell cols s)
  unfolding inflow_from
  lies_there = ap (if_flows_in land (dir_at k)) (lies p codes on.col_in (dir_at k) (row_is on k is-n) (col_is on k is-n))

  none_flows : inflow_from land (row * cols + col) (dir_at k) ≡ none → FlowsFrom rows cols codes row col k None
  none_flows e = record {
    is_cell = sym e;
    row_in = λ x q. absurd (none-some x q);
    col_in = λ x q. absurd (none-some x q);
  }

  pub inflow_off : s ≡ None → FlowsFrom rows cols codes row col k None
  inflow_off e = none_flows (lies_there ∙ rw e)

  module _ {x : Cell} (e : s ≡ Some x) where
    at : inflow_from land (row * cols + col) (dir_at k) ≡ if_flows_in land (dir_at k) (some (x.row * cols + x.col))
    at = lies_there ∙ rw e

    code_is : code_at land (x.row * cols + x.col) ≡ get_or codes (x.row * cols + x.col) 0
    code_is = code_inside land (x.row * cols + x.col) (spot_inside p e)

    back_is : n.back ≡ table1.code_of (opposite (dir_at k))
    back_is = ap (λ (m : Neighbour). m.back) is-n

    pub inflow_away : (get_or codes (x.row * cols + x.col) 0 ≡ n.back → ⊥) → FlowsFrom rows cols codes row col k None
    inflow_away f = none_flows (at
        ∙ rw (ne_eqb (code_at land (x.row * cols + x.col)) (table1.code_of (opposite (dir_at k)))
        (λ q. f (sym code_is ∙ q ∙ sym back_is))))

    pub inflow_in_lem : get_or codes (x.row * cols + x.col) 0 ≡ n.back → FlowsFrom rows cols codes row col k (Some x)
    inflow_in_lem f = record {
      is_cell = sym (at
          ∙ rw (eq-eqb (code_at land (x.row * cols + x.col)) (table1.code_of (opposite (dir_at k))) (code_is ∙ f ∙ back_is)));
      row_in = λ y q. p.row_in y (e ∙ q);
      col_in = λ y q. p.col_in y (e ∙ q);
    }
