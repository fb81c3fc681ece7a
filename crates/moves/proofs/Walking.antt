-- The walk's step, by where its cell flows.
-- Assumes nothing.
use mathlib.Core.Path.{◌≡◌, sym, ap, ◌∙◌}
use mathlib.Core.List.{List}
use mathlib.Core.Option.{none, some}
use Prim.Native.Nat.{ℕ, ◌+◌, ◌*◌}
use Rattle.std.specs.Prelude.{Option, Some, None}
use lib.ListN.{get_or}
use Rattle.cells.specs.declared.Cell.{Cell}
use Rattle.lengths.specs.declared.Length.{Length}
use Rattle.lengths.specs.Rule.{plus_step}
use Rattle.moves.specs.declared.Walk.{Walk}
use Rattle.ground.specs.Compass.{Dir, step_of}
use Rattle.ground.specs.Tables.{table1, dir_of}
use Rattle.ground.specs.Grid.{Grid, grid_of, code_at, next}
use Rattle.ground.specs.Walk.{At, stride}
use Rattle.ground.proofs.Cells.{code_inside}
use Rattle.ground.proofs.GridNetwork.{Stepped, stepped}
use Rattle.moves.specs.Moves.{lead_of, step_by}
use Rattle.moves.specs.Walks.{FlowsTo, state_of, stepped_on, OnGrid, WalkedOn}
use Rattle.moves.proofs.Codes.{step_points}
use Rattle.moves.proofs.Spots.{inside}

-- its state after a step, by where its cell flows
module _ (g : Grid) (s : At Length) where
  pub state_ends : next g s.cell ≡ none → stepped_on g s ≡ s
  unfolding stepped_on stride
  state_ends e = rw (stepped_on, stride, e)

  pub state_goes : (y : ℕ) (d : Dir) → next g s.cell ≡ some (record { cell = y; step = d })
      → stepped_on g s ≡ record { cell = y; len = plus_step s.len (step_of d) }
  unfolding stepped_on stride
  state_goes y d e = rw (stepped_on, stride, e)

module _ {rows cols : ℕ} {codes : List ℕ} {w : Walk} (on : OnGrid rows cols codes w) where
  abbrev land : Grid
  land = grid_of rows cols codes

  abbrev here : ℕ
  here = w.cell.row * cols + w.cell.col

  module _ {s : Option Cell} (p : FlowsTo (grid_of rows cols codes) (w.cell.row * cols + w.cell.col) s) where
    pub walk_ends : s ≡ None → WalkedOn (grid_of rows cols codes) w w
    walk_ends e = record {
      is_state = sym (state_ends land (state_of cols w) (p.ends_here e));
      row_in = on.on.row_in;
      col_in = on.on.col_in;
    }

    module _ {x : Cell} (e : s ≡ Some x) where
      abbrev dir : Dir
      dir = (p.goes_on x e).0

      code_is : code_at land here ≡ get_or codes here 0
      code_is = code_inside land here (inside on.on)

      s_flows : Stepped land here (record { cell = x.row * cols + x.col; step = dir })
      s_flows = stepped land here _ (p.goes_on x e).1

      -- the step of the code is that of the walk
      step_is : step_by (lead_of (get_or codes here 0)) ≡ step_of dir
      step_is = step_points (get_or codes here 0) dir
          (sym (ap (dir_of table1) code_is) ∙ s_flows.flows ∙ ap some s_flows.is_step)

      pub walk_goes : {longer : Length} → longer ≡ plus_step w.length (step_by (lead_of (get_or codes here 0)))
          → WalkedOn (grid_of rows cols codes) w (record { cell = x; length = longer })
      walk_goes f = record {
        is_state = ap (λ (k : Length). record { cell = x.row * cols + x.col; len = k })
            (f ∙ ap (plus_step w.length) step_is)
            ∙ sym (state_goes land (state_of cols w) (x.row * cols + x.col) dir (p.goes_on x e).1);
        row_in = p.row_in x e;
        col_in = p.col_in x e;
      }
