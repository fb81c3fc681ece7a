-- Where a cell flows, with the number of the cell that it flows to, by what the source finds.
-- Assumes nothing.
use mathlib.Core.Path.{◌≡◌, refl, sym, ap, ◌∙◌, subst}
use mathlib.Core.List.{List}
use mathlib.Core.Option.{some}
use Prim.Native.Nat.{ℕ, ◌+◌, ◌-◌, ◌*◌, ◌<◌}
use native.Mathlib.Omega.{arith}
use Rattle.std.specs.Prelude.{Option, Some, None}
use Rattle.std.proofs.lemmas.Option.{none-some}
use lib.ListN.{length, get_or}
use lib.Arith.{digits_lt}
use Rattle.cells.specs.declared.Cell.{Cell}
use Rattle.cells.specs.Numbers.{RowAndColumn}
use Rattle.cells.proofs.Numbers.{row_inside}
use Rattle.ground.specs.Tables.{table1, dir_of}
use Rattle.downstream.specs.declared.NumberedCell.{NumberedCell}
use Rattle.moves.specs.declared.Move.{Move}
use Rattle.ground.specs.Grid.{Grid, grid_of}
use Rattle.moves.specs.Lent.{LentGrid}
use Rattle.moves.specs.Moves.{lead_of, InReach, Spotted}
use Rattle.moves.specs.Walks.{Flows, FlowsTo}
use Rattle.moves.proofs.Codes.{Leads, leads}
use Rattle.moves.proofs.Spots.{inside, spot_inside}
use Rattle.moves.proofs.Flowing.{move_in_reach, flows_nowhere, flows_off, flows_null, flows_on}
use Rattle.downstream.specs.Offsets.{place_by, offset_of, offsets_of}
use Rattle.downstream.specs.Flowing.{Numbered, FlowsOn}
use Rattle.downstream.proofs.Steps.{offset_at, number_after}

-- a cell by its number
pub numbered : {rows cols at row col : ℕ} {codes offsets : List ℕ} → LentGrid rows cols codes
    → RowAndColumn cols at row col → at < rows * cols → offsets ≡ offsets_of cols
    → Numbered rows cols codes offsets row col at
numbered grid cell h e = record {
  on = record { grid = grid; row_in = row_inside cell h; col_in = cell.col_in };
  is_at = sym cell.is_number;
  are_offsets = e;
}

module _ {rows cols row col at : ℕ} {codes offsets : List ℕ} (n : Numbered rows cols codes offsets row col at) where
  abbrev land : Grid
  land = grid_of rows cols codes

  abbrev here : ℕ
  here = row * cols + col

  pub at_inside : at < length codes
  at_inside = omega (arith, n.is_at, inside n.on, n.on.grid.has_codes)

  ended : FlowsTo land here None → FlowsOn land at None
  ended t = record {
    ends_here = λ e. rw n.is_at (t.ends_here refl);
    goes_on = λ y e. absurd (none-some y e);
    is_at = λ y e. absurd (none-some y e);
    row_in = λ y e. absurd (none-some y e);
    col_in = λ y e. absurd (none-some y e);
  }

  goes : {x : Cell} {to : ℕ} → to ≡ x.row * cols + x.col → FlowsTo land here (Some x)
      → FlowsOn land at (Some (record { cell = x; at = to }))
  goes {x} {to} q t = record {
    ends_here = λ e. absurd (none-some _ (sym e));
    goes_on = λ y e. let s : to ≡ y.at = cc in subst (Flows land at) s (rw (n.is_at, q) (t.goes_on x refl));
    is_at = λ y e.
        let r : x.row ≡ y.cell.row = cc in let c : x.col ≡ y.cell.col = cc in let s : to ≡ y.at = cc in sym s ∙ q ∙ rw (r, c);
    row_in = λ y e. let s : x.row ≡ y.cell.row = cc in omega (arith, t.row_in x refl);
    col_in = λ y e. let s : x.col ≡ y.cell.col = cc in omega (arith, t.col_in x refl);
  }

  module _ {l : Option Move} (told : l ≡ lead_of (get_or codes at 0)) where
    told_here : l ≡ lead_of (get_or codes here 0)
    told_here = rw n.is_at at told

    pub ends_nowhere : l ≡ None → FlowsOn (grid_of rows cols codes) at None
    ends_nowhere e = ended (flows_nowhere n.on told_here e)

    module _ {m : Move} (by : l ≡ Some m) where
      led : Leads (get_or codes here 0) m
      led = leads (get_or codes here 0) told_here by

      pub led_in_reach : InReach rows cols row col m.row m.col
      led_in_reach = move_in_reach n.on led

      module _ {s : Option Cell} (p : Spotted rows cols row col m.row m.col s) where
        pub ends_off : s ≡ None → FlowsOn (grid_of rows cols codes) at None
        ends_off e = ended (flows_off n.on led p e)

        module _ {x : Cell} {place : ℕ} (e : s ≡ Some x) (is_place : place ≡ place_by (dir_of table1 (get_or codes at 0))) where
          -- the offset is that of the code's direction
          offset_is : get_or offsets place 0 ≡ offset_of cols led.dir
          offset_is =
              let q : place ≡ place_by (some led.dir) =
              is_place ∙ ap (λ (x : ℕ). place_by (dir_of table1 (get_or codes x 0))) n.is_at ∙ ap place_by led.points in
              ap (λ (l : List ℕ). get_or l place 0) n.are_offsets ∙ rw q (offset_at cols led.dir)

          pub number_is : at + get_or offsets place 0 ≡ x.row * cols + x.col + (cols + 1)
          number_is =
              let q = number_after rows cols row col led.dir (x.row * cols + x.col)
              (sym (p.is_cell led.dir (ap (λ (k : Move). k.row) led.is_move)
              (ap (λ (k : Move). k.col) led.is_move)) ∙ rw e) in
              omega (arith, q, offset_is, n.is_at)

          abbrev to : ℕ
          to = at + get_or offsets place 0 - (cols + 1)

          to_is : to ≡ x.row * cols + x.col
          to_is = omega (arith, number_is)

          pub to_inside : at + get_or offsets place 0 - (cols + 1) < length codes
          to_inside = omega (arith, to_is, spot_inside p e, n.on.grid.has_codes)

          pub ends_null : get_or codes (at + get_or offsets place 0 - (cols + 1)) 0 ≡ 0
              → FlowsOn (grid_of rows cols codes) at None
          ends_null z = ended (flows_null n.on led p e (sym (ap (λ (y : ℕ). get_or codes y 0) to_is) ∙ z))

          pub flows_there : (get_or codes (at + get_or offsets place 0 - (cols + 1)) 0 ≡ 0 → ⊥)
              → FlowsOn (grid_of rows cols codes) at (Some (record {
                cell = x;
                at = at + get_or offsets place 0 - (cols + 1);
              }))
          flows_there z = goes to_is
              (flows_on n.on led p e (λ q. z (ap (λ (y : ℕ). get_or codes y 0) to_is ∙ q)))

-- the cell that a cell flows to is on the grid
pub flows_inside : {g : Grid} {x : ℕ} {r : Option NumberedCell} {y : NumberedCell} → FlowsOn g x r → r ≡ Some y
    → y.at < g.rows * g.cols
flows_inside {y = y} t e = omega (arith, t.is_at y e, digits_lt (t.row_in y e) (t.col_in y e))
