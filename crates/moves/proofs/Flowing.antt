-- Where a cell flows, by what the source finds: its code leads nowhere, off the grid, to a null cell or on.
-- Assumes nothing.
use mathlib.Core.Path.{◌≡◌, sym, ap, ◌∙◌}
use mathlib.Core.List.{List}
use mathlib.Core.Option.{none, some}
use Prim.Native.Nat.{ℕ, ◌+◌, ◌*◌, ◌<◌}
use native.Mathlib.Omega.{arith}
use Rattle.std.specs.Prelude.{Option, Some, None}
use Rattle.std.proofs.lemmas.Option.{none-some}
use lib.ListN.{get_or}
use lib.Arith.{digits_lt}
use borrow.Author.Tests.{ne_eqb, eq-eqb}
use Rattle.cells.specs.declared.Cell.{Cell}
use Rattle.moves.specs.declared.Move.{Move}
use Rattle.ground.specs.Compass.{row_shift, col_shift}
use Rattle.ground.specs.Tables.{table1, dir_of}
use Rattle.ground.specs.Grid.{Grid, grid_of, code_at, flow, onto, next}
use Rattle.ground.proofs.Cells.{code_inside, next_along, next_none}
use Rattle.moves.specs.Lent.{OnCell}
use Rattle.moves.specs.Moves.{shift_number, lead_of, InReach, spot_cell, Spotted}
use Rattle.moves.specs.Walks.{Flows, FlowsTo}
use Rattle.moves.proofs.Codes.{Leads, leads_nowhere}
use Rattle.moves.proofs.Spots.{inside, shift_le, lies, spot_inside}

module _ {rows cols row col : ℕ} {codes : List ℕ} (on : OnCell rows cols codes row col) where
  abbrev land : Grid
  land = grid_of rows cols codes

  abbrev here : ℕ
  here = row * cols + col

  flow_is : flow land here ≡ dir_of table1 (get_or codes here 0)
  flow_is = ap (dir_of table1) (code_inside land here (inside on))

  ended : next land here ≡ none → FlowsTo land here None
  ended e = record {
    ends_here = λ q. e;
    goes_on = λ r q. absurd (none-some r q);
    row_in = λ r q. absurd (none-some r q);
    col_in = λ r q. absurd (none-some r q);
  }

  pub flows_nowhere : {l : Option Move} → l ≡ lead_of (get_or codes (row * cols + col) 0) → l ≡ None
      → FlowsTo (grid_of rows cols codes) (row * cols + col) None
  flows_nowhere e f = ended (next_none land here (flow_is ∙ leads_nowhere (get_or codes here 0) e f))

  module _ {m : Move} (led : Leads (get_or codes (row * cols + col) 0) m) where
    row_is : m.row ≡ shift_number (row_shift led.dir)
    row_is = ap (λ (n : Move). n.row) led.is_move

    col_is : m.col ≡ shift_number (col_shift led.dir)
    col_is = ap (λ (n : Move). n.col) led.is_move

    pub move_in_reach : InReach rows cols row col m.row m.col
    move_in_reach = record {
      sides = on.grid.sides;
      row_in = on.row_in;
      col_in = on.col_in;
      down_small = omega (arith, shift_le (row_shift led.dir), row_is);
      right_small = omega (arith, shift_le (col_shift led.dir), col_is);
    }

    module _ {s : Option Cell} (p : Spotted rows cols row col m.row m.col s) where
      next_spot : next land here ≡ onto land led.dir (spot_cell cols s)
      next_spot = next_along land here led.dir (flow_is ∙ led.points)
          ∙ ap (onto land led.dir) (lies p codes on.col_in led.dir row_is col_is)

      pub flows_off : s ≡ None → FlowsTo (grid_of rows cols codes) (row * cols + col) None
      flows_off e = ended (next_spot ∙ rw e)

      module _ {x : Cell} (e : s ≡ Some x) where
        abbrev to : ℕ
        to = x.row * cols + x.col

        code_is : code_at land to ≡ get_or codes to 0
        code_is = code_inside land to (spot_inside p e)

        pub flows_null : get_or codes (x.row * cols + x.col) 0 ≡ 0
            → FlowsTo (grid_of rows cols codes) (row * cols + col) None
        flows_null z = ended (next_spot ∙ rw (e, eq-eqb (code_at land to) 0 (code_is ∙ z)))

        pub flows_on : (get_or codes (x.row * cols + x.col) 0 ≡ 0 → ⊥)
            → FlowsTo (grid_of rows cols codes) (row * cols + col) (Some x)
        flows_on z = record {
          ends_here = λ f. absurd (none-some x (sym f));
          goes_on = λ y f. same y f
              (next_spot ∙ rw (e, ne_eqb (code_at land to) 0 (λ q. z (sym code_is ∙ q))));
          row_in = λ y f. p.row_in y (e ∙ f);
          col_in = λ y f. p.col_in y (e ∙ f);
        }
          where
            same : (y : Cell) → Some x ≡ Some y → next land here ≡ some (record { cell = to; step = led.dir })
                → Flows land here (y.row * cols + y.col)
            same y f g = let a : x ≡ y = cc in (led.dir, rw (sym a) g)

-- the cell that a cell flows to is on the grid
pub reached : {rows cols x : ℕ} {codes : List ℕ} {s : Option Cell} {y : Cell} → FlowsTo (grid_of rows cols codes) x s
    → s ≡ Some y → y.row * cols + y.col < rows * cols
reached {y = y} t e = digits_lt (t.row_in y e) (t.col_in y e)
