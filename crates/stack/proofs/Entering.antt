-- A cell is entered: visited, and its inflows put on.
-- Assumes nothing.
use mathlib.Core.Path.{◌≡◌, sym, ap, ◌∙◌}
use mathlib.Core.Bool.{Bool}
use mathlib.Core.List.{List, ◌++◌, map}
use Prim.Native.Nat.{ℕ, ◌+◌, ◌*◌, ◌≤◌, ◌<◌, ◌^◌}
use native.Mathlib.Omega.{arith}
use lib.ListN.{length, get_or}
use Rattle.lengths.specs.declared.Length.{Length}
use Rattle.lists.specs.Lists.{Every}
use Rattle.ground.specs.Compass.{Dir, dirs, squares}
use Rattle.ground.specs.Grid.{Grid, grid_of}
use Rattle.ground.specs.Accumulation.{subaccumulation}
use Rattle.ground.specs.Forest.{Which}
use Rattle.search.specs.Search.{State, tracing_rule}
use Rattle.search.specs.Neighbours.{turn_to, enter}
use Rattle.notes.specs.Notes.{met_by}
use Rattle.progress.specs.declared.Progress.{Progress}
use Rattle.progress.specs.Starts.{start_at, state_of, Room, Visited}
use Rattle.progress.proofs.Kept.{kept_same}
use Rattle.upstream.specs.Ready.{Ready, OnGround, met_in}
use Rattle.stack.specs.declared.Pending.{Pending}
use Rattle.stack.specs.declared.Stack.{Stack}
use Rattle.stack.specs.Pending.{pending, inflows_above, PutOn}
use Rattle.stack.specs.Draining.{cells_pending, Waits, Standing, drain, Fits, Entered}
use Rattle.stack.proofs.Putting.{pending_same}
use Rattle.stack.proofs.Above.{cells_append, all_append, drain_append}
use Rattle.stack.proofs.Climbing.{one_cell, cells_but_one, all_above_lem, few_above, followed}

module _ {rows cols : ℕ} {codes outlets subaccumulations : List ℕ}
    (ready : Ready rows cols codes outlets subaccumulations) {row col : ℕ}
    (at : OnGround rows cols codes row col) where
  abbrev g : Grid
  g = grid_of rows cols codes

  abbrev x : ℕ
  x = row * cols + col

  abbrev sub : ℕ → ℕ
  sub y = subaccumulation g outlets y

  -- ---- by the functions of the source

  module _ {len : Length} {end : ℕ} {p : Progress} {top : ℕ} {old : List ℕ} (fits : Fits (sub x) len end p top old) where
    pub room : Room old end p × (p.visited < 2 ^ 24)
    room = (
      record {
        one_more = omega (arith, fits.room, one_cell ready at);
        within = fits.within;
        few_paths = fits.few_paths;
      },
      fits.few_visited,
    )

    module _ (edition : ℕ) {q : Progress} {mid : List ℕ}
        (v : Visited old mid end x (met_by edition (get_or subaccumulations x 0)) len p q) where
      pub entered : {r : ℕ} {new : List ℕ} → PutOn (inflows_above g outlets x len dirs) top mid r new
          → Entered g outlets (met_in edition subaccumulations) x len end p top old (record { progress = q; top = r }) new
      entered {r} {new} put =
          let higher : 3 * r + q.paths ≤ end =
          omega (arith, put.count, few_above ready at len, v.few, fits.room) in
          record {
            state = ap (λ (cs : List ℕ). record {
              starts = map (start_at q.greatest) cs;
              visited = q.visited;
              dropped = q.dropped;
            }) (kept_same new mid end q.paths (omega arith) (λ i a b. put.beyond i (omega arith))) ∙ v.state;
            few = v.few;
            pending_is = put.pending_is ∙ ap (λ ws. inflows_above g outlets x len dirs ++ ws)
                (pending_same mid old top (λ i h. v.only.below i (omega (arith, fits.room, one_cell ready at))));
            beyond = λ i h. put.beyond i (omega arith) ∙ v.only.beyond i h;
          }

  -- ---- what it makes of the search

  module _ {met : Which Dir} {len : Length} {end : ℕ} {p : Progress} {top : ℕ} {old : List ℕ} {r : Stack} {new : List ℕ}
      (e : Entered g outlets met x len end p top old r new) where
    abbrev above : List Pending
    above = inflows_above g outlets x len dirs

    -- one cell is visited
    pub cells_left : cells_pending g outlets (pending new r.top) + 1
        ≡ sub x + cells_pending g outlets (pending old top)
    cells_left = omega (
      arith,
      ap (cells_pending g outlets) e.pending_is,
      cells_append g outlets above (pending old top),
      cells_but_one ready at len,
    )

    -- the rest of the search is the same
    pub drained : (dropping : Bool) → drain g outlets met dropping (pending new r.top) (state_of r.progress new end)
        ≡ drain g outlets met dropping (pending old top)
        (enter squares (tracing_rule squares met dropping) g outlets x len (state_of p old end))
    unfolding enter
    drained dropping = ap (λ ws. drain g outlets met dropping ws (state_of r.progress new end)) e.pending_is
        ∙ drain_append g outlets met dropping above (pending old top) (state_of r.progress new end)
        ∙ ap (drain g outlets met dropping (pending old top))
        (sym ((followed ready at len).drains met dropping (state_of r.progress new end))
        ∙ ap (turn_to squares (tracing_rule squares met dropping) g outlets dirs x len) e.state)

    pub stands : Every (Waits g outlets end) (pending old top)
        → 3 * (p.visited + p.dropped + (sub x + cells_pending g outlets (pending old top))) ≡ end
        → p.paths ≤ p.visited → end ≤ 3 * 2 ^ 24 → end ≤ length new
        → 3 * (len.straight + len.diagonal + sub x) ≤ end → Standing g outlets end r new
    stands all cells few small within short = record {
      all_wait = rw e.pending_is
          (all_append g outlets end above (pending old top) (all_above_lem ready at len end short) all);
      all_cells = omega (
        arith,
        cells_left,
        ap (λ (st : State squares). st.visited) e.state,
        ap (λ (st : State squares). st.dropped) e.state,
      );
      few_paths = omega (arith, e.few, ap (λ (st : State squares). st.visited) e.state);
      small = small;
      within = within;
    }
