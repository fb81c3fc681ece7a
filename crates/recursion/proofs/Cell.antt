-- A cell is entered: what its visit makes of the search, and what its inflows make of the rest.
-- Assumes nothing.
use mathlib.Core.Path.{◌≡◌, sym, ap, ◌∙◌, subst}
use mathlib.Core.Bool.{Bool}
use mathlib.Core.List.{List}
use Prim.Native.Nat.{ℕ, suc, ◌+◌, ◌*◌, ◌≤◌, ◌<◌, ◌^◌}
use native.Mathlib.Omega.{arith}
use lib.ListN.{length, get_or}
use lib.Arith.{digits_lt}
use Rattle.lengths.specs.declared.Length.{Length}
use Rattle.lengths.specs.Rule.{counts}
use Rattle.ground.specs.Compass.{Dir, dirs, squares}
use Rattle.ground.specs.Grid.{Grid, grid_of}
use Rattle.ground.specs.Accumulation.{subaccumulation}
use Rattle.ground.specs.Forest.{Which}
use Rattle.ground.proofs.Ground.{sub_size}
use Rattle.moves.proofs.Spots.{size}
use Rattle.search.specs.Search.{State, tracing_rule}
use Rattle.search.specs.Neighbours.{cells_in, turn_to, enter}
use Rattle.search.proofs.Neighbours.{cells_above_lem, search_enters}
use Rattle.progress.specs.declared.Progress.{Progress}
use Rattle.progress.specs.Starts.{kept, begun}
use Rattle.notes.specs.Notes.{cells_held}
use Rattle.upstream.specs.Ready.{Ready, OnGround, met_in}
use Rattle.recursion.specs.Tracing.{VisitedAt, CellReady, InflowsReady, CellTraced, InflowsTraced, Traced}

module _ {rows cols : ℕ} {codes outlets subaccumulations : List ℕ}
    (ready : Ready rows cols codes outlets subaccumulations) where
  abbrev g : Grid
  g = grid_of rows cols codes

  abbrev sub : ℕ → ℕ
  sub x = subaccumulation g outlets x

  -- the number of cells that the source reads
  pub cells_read : (row col : ℕ) → row < rows → col < cols
      → cells_held (get_or subaccumulations (row * cols + col) 0) ≡ sub (row * cols + col)
  cells_read row col h k = ready.filled (row * cols + col) (digits_lt h k)

  module _ {row col : ℕ} {len : Length} {p : Progress} {old : List ℕ}
      (cell : CellReady rows cols codes outlets row col len p old) where
    abbrev x : ℕ
    x = row * cols + col

    -- a cell of ground has a place in the lent list, and the record has room for it
    pub has_place : (x < length subaccumulations) × (x < 2 ^ 24)
    has_place =
        let h = digits_lt cell.row_in cell.col_in in
        (omega (arith, h, ready.has_subaccumulations), omega (arith, h, size ready.grid.sides))

    pub has_room : (p.paths < 4096) × (p.visited < 4096)
    has_room =
        let b = cell.bounded in
        let s = sub_size g ready.lent ready.agreed outlets x cell.solid in (omega arith, omega arith)

    above : suc (cells_in g outlets dirs x) ≡ sub x
    above = cells_above_lem g ready.lent ready.agreed outlets x cell.solid

    module _ {edition : ℕ} {q : Progress} {mid : List ℕ} (v : VisitedAt edition subaccumulations x len p old q mid) where
      visited_one : q.visited ≡ p.visited + 1
      visited_one = ap (λ (st : State squares). st.visited) v.visited.state

      dropped_none : q.dropped ≡ p.dropped
      dropped_none = ap (λ (st : State squares). st.dropped) v.visited.state

      pub inflows_ready : InflowsReady rows cols codes outlets row col len 0 q mid
      inflows_ready = let b = cell.bounded in record {
        room = v.room ∙ cell.room;
        row_in = cell.row_in;
        col_in = cell.col_in;
        solid = cell.solid;
        within = omega arith;
        bounded = record {
          cells_fit = omega (arith, visited_one, dropped_none, above);
          steps_fit = omega (arith, above);
          few_paths = omega (arith, visited_one, v.visited.few);
        };
      }

      pub cell_traced : (dropping : Bool) (r : Progress) (new : List ℕ)
          → InflowsTraced rows cols codes outlets (met_in edition subaccumulations) dropping row col len 0 q mid r new
          → CellTraced rows cols codes outlets (met_in edition subaccumulations) dropping row col len p old r new
      unfolding enter
      cell_traced dropping r new t = record {
        state = t.state ∙ ap (turn_to squares (tracing_rule squares (met_in edition subaccumulations) dropping) g outlets
            dirs x len) v.visited.state;
        room = t.room;
        counted = record {
          cells_done = omega (arith, t.counted.cells_done, visited_one, dropped_none, above);
          few_paths = t.counted.few_paths;
        };
      }

  -- ---- the whole search

  module _ {row col : ℕ} (at : OnGround rows cols codes row col) {p : Progress} (nothing : p ≡ begun)
      {len : Length} (no_step : len ≡ counts 0 0) where
    pub outlet_ready : (old : List ℕ) → sub (row * cols + col) ≤ 4096 → length old ≡ 4096
        → CellReady rows cols codes outlets row col len p old
    outlet_ready old h e = record {
      room = e;
      row_in = at.row_in;
      col_in = at.col_in;
      solid = at.solid;
      bounded = rw (nothing, no_step)
          (record { cells_fit = omega arith; steps_fit = omega arith; few_paths = omega arith });
    }

    pub traced : (met : Which Dir) (dropping : Bool) (old : List ℕ) (r : Progress) (new : List ℕ)
        → CellTraced rows cols codes outlets met dropping row col len p old r new
        → Traced rows cols codes outlets met dropping row col r new
    unfolding kept
    traced met dropping old r new t =
        let c = subst (λ q. CellTraced rows cols codes outlets met dropping row col (counts 0 0) q old r new) nothing
        (subst (λ l. CellTraced rows cols codes outlets met dropping row col l p old r new) no_step t) in
        record {
          searched = record {
            state = c.state ∙ sym (search_enters squares (tracing_rule squares met dropping) g outlets ready.lent
                ready.agreed (row * cols + col) at.solid);
            all_cells = omega (arith, c.counted.cells_done);
            few_paths = c.counted.few_paths;
          };
          room = c.room;
        }
