-- One pending cell is taken off: it is dropped or entered, and the rest of the search is the same.
-- Assumes nothing.
use mathlib.Core.Path.{◌≡◌, refl, sym, ap, ◌∙◌, subst}
use mathlib.Core.Bool.{Bool, true, false, ◌&&◌}
use mathlib.Core.List.{List, ◌∷◌}
use Prim.Native.Nat.{ℕ, ◌+◌, ◌-◌, ◌*◌, ◌≤◌, ◌<◌, ◌^◌}
use native.Mathlib.Omega.{arith}
use lib.ListN.{length, get_or}
use Rattle.lengths.specs.declared.Length.{Length}
use Rattle.lengths.specs.Rule.{counts}
use Rattle.lengths.specs.Lengths.{square_cells, farthest}
use Rattle.lists.specs.Lists.{Every}
use Rattle.ground.specs.Compass.{Dir, squares}
use Rattle.ground.specs.Grid.{Grid, grid_of}
use Rattle.ground.specs.Accumulation.{subaccumulation}
use Rattle.ground.specs.Forest.{Which, forest}
use Rattle.search.specs.Search.{State, tracing_rule, drop_cells, search_from}
use Rattle.search.proofs.Neighbours.{search_enters}
use Rattle.progress.specs.declared.Progress.{Progress}
use Rattle.progress.specs.Starts.{kept, begun, is_below, state_of}
use Rattle.upstream.specs.Ready.{Ready, OnGround, drops_at}
use Rattle.upstream.proofs.Entering.{drops_by}
use Rattle.stack.specs.declared.Pending.{Pending}
use Rattle.stack.specs.declared.Stack.{Stack}
use Rattle.stack.specs.Pending.{Short, pending_at, pending}
use Rattle.stack.specs.Draining.{cells_pending, Waits, Standing, taken, drain}
use Rattle.stack.specs.Draining.{Turned, Traced, Entered, Fits}
use Rattle.stack.proofs.Putting.{pending_length, taken_off}
use Rattle.stack.proofs.Above.{taken_drops, taken_enters, few_pending}
use Rattle.stack.proofs.Climbing.{one_cell, small_cells}
use Rattle.stack.proofs.Entering.{cells_left, drained, stands}

-- turn after turn the rest of the search is the same
pub drains_on : {g : Grid} {outlets : List ℕ} {met : Which Dir} {dropping : Bool} {end : ℕ} {s : Stack} {old : List ℕ}
    {r : Stack}
    {new : List ℕ} {st : State squares} → Turned g outlets met dropping end s old r new
    → drain g outlets met dropping (pending old s.top) (state_of s.progress old end) ≡ st
    → drain g outlets met dropping (pending new r.top) (state_of r.progress new end) ≡ st
drains_on t e = t.drains ∙ e

module _ {rows cols : ℕ} {codes outlets subaccumulations : List ℕ}
    (ready : Ready rows cols codes outlets subaccumulations) where
  abbrev g : Grid
  g = grid_of rows cols codes

  abbrev sub : ℕ → ℕ
  sub y = subaccumulation g outlets y

  -- ---- one turn

  module _ {end : ℕ} {s : Stack} {old : List ℕ} (standing : Standing g outlets end s old) (some_left : 0 < s.top) where
    -- there is room for the pending cells
    pub pending_room : 3 * (s.top + s.progress.visited) ≤ end
    pending_room = omega (
      arith,
      few_pending g outlets ready.lent ready.agreed end (pending old s.top) standing.all_wait,
      pending_length old s.top,
      standing.all_cells,
    )

    module _ {w : Pending} (is-w : w ≡ pending_at old (s.top - 1)) where
      abbrev rest : List Pending
      rest = pending old (s.top - 1)

      abbrev y : ℕ
      y = w.cell.row * cols + w.cell.col

      opened : pending old s.top ≡ w ∷ rest
      opened = taken_off old s.top some_left ∙ ap (λ v. v ∷ rest) (sym is-w)

      wait : Waits g outlets end w × Every (Waits g outlets end) rest
      wait = subst (Every (Waits g outlets end)) opened standing.all_wait

      cells : cells_pending g outlets (pending old s.top) ≡ sub y + cells_pending g outlets rest
      unfolding cells_pending
      cells = ap (cells_pending g outlets) opened

      pub on_ground : OnGround rows cols codes w.cell.row w.cell.col
      on_ground = record { row_in = wait.0.row_in; col_in = wait.0.col_in; solid = wait.0.solid }

      pub short : Short w.len
      short = omega (arith, wait.0.short, one_cell ready on_ground, standing.small)

      -- what the drop test asks
      pub testable : {n : ℕ} → n ≡ sub y → (w.len.diagonal ≤ 2 ^ 24) × (0 < n) × (n ≤ 2 ^ 24)
      testable e = (
        omega (arith, short),
        omega (arith, e, one_cell ready on_ground),
        omega (arith, e, small_cells ready on_ground),
      )

      pub few_dropped : s.progress.dropped + sub y ≤ 2 ^ 24
      few_dropped = omega (arith, cells, standing.all_cells, standing.small)

      pub fits : Fits (sub y) w.len end s.progress (s.top - 1) old
      fits = record {
        room = omega (arith, cells, few, standing.all_cells, standing.few_paths);
        within = standing.within;
        short = short;
        few_visited = omega (arith, cells, standing.all_cells, standing.small, one_cell ready on_ground);
        few_paths = omega (
          arith,
          cells,
          standing.all_cells,
          standing.small,
          standing.few_paths,
          one_cell ready on_ground,
        );
      }
        where
          few : s.top - 1 ≤ cells_pending g outlets rest
          few = omega (
            arith,
            few_pending g outlets ready.lent ready.agreed end rest wait.1,
            pending_length old (s.top - 1),
          )

      module _ (met : Which Dir) (dropping : Bool) {n : ℕ} (is-n : n ≡ sub y) {b : Bool}
          (tests : b ≡ (dropping && is_below (farthest square_cells w.len (n - 1)) s.progress)) where
        abbrev state : State squares
        state = state_of s.progress old end

        test : b ≡ drops_at dropping state.starts w.len (sub y)
        test = tests ∙ drops_by dropping s.progress old end w.len n
            ∙ ap (drops_at dropping state.starts w.len) is-n

        first_taken : drain g outlets met dropping (pending old s.top) state
            ≡ drain g outlets met dropping rest (taken g outlets met dropping y w.len state)
        unfolding drain
        first_taken = ap (λ ws. drain g outlets met dropping ws state) opened

        -- it is dropped
        pub turn_dropped : b ≡ true → {q : Progress} → q ≡ record {
          greatest = s.progress.greatest;
          paths = s.progress.paths;
          visited = s.progress.visited;
          dropped = s.progress.dropped + n;
        } → Turned g outlets met dropping end s old (record { progress = q; top = s.top - 1 }) old
        turn_dropped e is-q = rw is-q (record {
          standing = record {
            all_wait = wait.1;
            all_cells = omega (arith, cells, standing.all_cells);
            few_paths = standing.few_paths;
            small = standing.small;
            within = standing.within;
          };
          drains = sym (first_taken ∙ ap (drain g outlets met dropping rest)
              (taken_drops g outlets met dropping y w.len state (sym test ∙ e)
              ∙ ap (drop_cells squares state) (sym is-n)));
          fewer = omega (arith, cells, one_cell ready on_ground);
          beyond = λ i h. refl;
        })

        -- it is entered
        pub turn_entered : b ≡ false → {r : Stack} {new : List ℕ}
            → Entered g outlets met y w.len end s.progress (s.top - 1) old r new → length new ≡ length old
            → Turned g outlets met dropping end s old r new
        turn_entered e {r} {new} into same = record {
          standing = stands ready on_ground into wait.1
              (omega (arith, cells, standing.all_cells)) standing.few_paths standing.small
              (omega (arith, same, standing.within)) wait.0.short;
          drains = drained ready on_ground into dropping
              ∙ sym (first_taken ∙ ap (drain g outlets met dropping rest)
              (taken_enters g outlets met dropping y w.len state (sym test ∙ e)));
          fewer = omega (arith, cells, cells_left ready on_ground into);
          beyond = into.beyond;
        }

  -- ---- the whole search

  module _ {row col : ℕ} (at : OnGround rows cols codes row col) where
    abbrev o : ℕ
    o = row * cols + col

    pub outlet_fits : {end : ℕ} → end ≡ 3 * sub o → {p : Progress} → p ≡ begun → {len : Length} → len ≡ counts 0 0
        → {old : List ℕ} → end ≤ length old → Fits (sub o) len end p 0 old
    outlet_fits end_is is-p is-len h = rw (is-p, is-len) (record {
      room = omega arith;
      within = h;
      short = omega arith;
      few_visited = omega arith;
      few_paths = omega arith;
    })

    module _ {met : Which Dir} {end : ℕ} (end_is : end ≡ 3 * sub o) {p : Progress} (is-p : p ≡ begun)
        {len : Length} (is-len : len ≡ counts 0 0) {old : List ℕ} {r : Stack} {new : List ℕ}
        (enters : Entered g outlets met o len end p 0 old r new) where
      into : Entered g outlets met o (counts 0 0) end begun 0 old r new
      into = subst (λ q. Entered g outlets met o (counts 0 0) end q 0 old r new) is-p
          (subst (λ l. Entered g outlets met o l end p 0 old r new) is-len enters)

      pub outlet_stands : end ≤ length new → Standing g outlets end r new
      unfolding pending cells_pending
      outlet_stands h = stands ready at into tt (omega arith) (omega arith)
          (omega (arith, small_cells ready at)) h (omega arith)

      pub outlet_drains : (dropping : Bool)
          → drain g outlets met dropping (pending new r.top) (state_of r.progress new end)
          ≡ search_from squares (tracing_rule squares met dropping) o (forest g outlets o)
      unfolding pending drain kept
      outlet_drains dropping = drained ready at into dropping
          ∙ sym (search_enters squares (tracing_rule squares met dropping) g outlets ready.lent ready.agreed o
          at.solid)

    -- none is pending: all is traced
    pub traced : {end : ℕ} → end ≡ 3 * sub o → (met : Which Dir) (dropping : Bool) {s : Stack} (old : List ℕ) {work : List ℕ}
        → Standing g outlets end s work → s.top ≡ 0
        → drain g outlets met dropping (pending work s.top) (state_of s.progress work end)
        ≡ search_from squares (tracing_rule squares met dropping) o (forest g outlets o)
        → ((i : ℕ) → end ≤ i → get_or work i 0 ≡ get_or old i 0)
        → Traced g outlets met dropping o old s.progress work
    unfolding pending drain cells_pending
    traced {end} end_is met dropping {s} old {work} standing none d beyond = record {
      searched = record {
        state = ap (state_of s.progress work) (sym end_is)
            ∙ ap (λ (k : ℕ). drain g outlets met dropping (pending work k) (state_of s.progress work end)) (sym none) ∙ d;
        all_cells = omega (
          arith,
          standing.all_cells,
          ap (λ (k : ℕ). cells_pending g outlets (pending work k)) none,
        );
        few_paths = standing.few_paths;
      };
      beyond = λ i h. beyond i (omega arith);
    }
