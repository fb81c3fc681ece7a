-- The inflows of a cell: the search turns to the next neighbour, and drops or traces it before the others.
-- Assumes nothing.
use mathlib.Core.Path.{◌≡◌, refl, sym, ap, ◌∙◌}
use mathlib.Core.Bool.{Bool, true, false, ◌&&◌}
use mathlib.Core.List.{List, [], ◌∷◌}
use mathlib.Core.Option.{none}
use Prim.Native.Nat.{ℕ, zero, suc, ◌+◌, ◌-◌, ◌*◌, ◌≤◌, ◌<◌, ◌^◌}
use native.Mathlib.Numerals.{add-one}
use native.Mathlib.Omega.{arith}
use lib.ListN.{get_or, drop}
use lib.Arith.{digits_lt}
use Rattle.lengths.specs.declared.Length.{Length}
use Rattle.lengths.specs.Rule.{plus_step}
use Rattle.lengths.specs.Lengths.{square_cells, farthest}
use Rattle.ground.specs.Compass.{Dir, dirs, opposite, step_of, squares}
use Rattle.ground.specs.Grid.{Grid, grid_of, ground}
use Rattle.ground.specs.Accumulation.{subaccumulation}
use Rattle.ground.specs.Forest.{Which}
use Rattle.ground.proofs.Ground.{sub_size}
use Rattle.moves.specs.Moves.{dir_at}
use Rattle.search.specs.Search.{State, Rule, tracing_rule, drops, drop_cells}
use Rattle.search.specs.Neighbours.{inflow_in, cells_in, turn_to, enter}
use Rattle.search.proofs.Neighbours.{
  Found,
  found_in,
  found_ground,
  turn_done,
  turn_none,
  turn_drops,
  turn_enters,
  cells_above_lem,
}
use Rattle.progress.specs.declared.Progress.{Progress}
use Rattle.progress.specs.Starts.{is_below, starts_of, state_of}
use Rattle.notes.specs.Notes.{cells_held}
use Rattle.upstream.specs.Ready.{Ready, drops_at}
use Rattle.upstream.proofs.Entering.{one_step, drops_by}
use Rattle.recursion.specs.declared.Turn.{Turn}
use Rattle.recursion.specs.Tracing.{NoneThere, IsNext, CellReady, InflowsReady, CellTraced, InflowsTraced}
use Rattle.recursion.proofs.Turning.{dirs_from}

-- fewer directions, fewer cells
cells_from_lem : (g : Grid) (outlets : List ℕ) (x k : ℕ) (ds : List Dir)
    → cells_in g outlets (drop k ds) x ≤ cells_in g outlets ds x
unfolding cells_in
cells_from_lem g outlets x zero ds = omega arith
cells_from_lem g outlets x (suc k) [] = omega arith
cells_from_lem g outlets x (suc k) (d ∷ ds) = omega (arith, cells_from_lem g outlets x k ds)

-- directions in which there is nothing to turn to are passed over
module _ (rule : Rule squares) (g : Grid) (outlets : List ℕ) (x : ℕ) (len : Length) (st : State squares) where
  skip : (m k : ℕ) → k + m ≤ 8 → ((i : ℕ) → k ≤ i → i < k + m → inflow_in g outlets x (dir_at i) ≡ none)
      → (turn_to squares rule g outlets (drop k dirs) x len st ≡ turn_to squares rule g outlets (drop (k + m) dirs)
      x len st) × (cells_in g outlets (drop k dirs) x ≡ cells_in g outlets (drop (k + m) dirs) x)
  unfolding cells_in
  skip zero k h f = let e : k + 0 ≡ k = omega arith in rw e (refl, refl)
  skip (suc m) k h f = go (dirs_from k (omega arith)) (f k (omega arith) (omega arith))
      (skip m (suc k) (omega arith) (λ i a b. f i (omega arith) (omega arith)))
    where
      go : drop k dirs ≡ dir_at k ∷ drop (suc k) dirs → inflow_in g outlets x (dir_at k) ≡ none
          → (turn_to squares rule g outlets (drop (suc k) dirs) x len st ≡ turn_to squares rule g outlets
          (drop (suc k + m) dirs) x len st)
          × (cells_in g outlets (drop (suc k) dirs) x ≡ cells_in g outlets (drop (suc k + m) dirs) x)
          → (turn_to squares rule g outlets (drop k dirs) x len st ≡ turn_to squares rule g outlets
          (drop (k + suc m) dirs) x len st)
          × (cells_in g outlets (drop k dirs) x ≡ cells_in g outlets (drop (k + suc m) dirs) x)
      go e n ih =
          let a : k + suc m ≡ suc k + m = omega arith in
          rw (a, e) (
            turn_none squares rule g outlets x (dir_at k) (drop (suc k) dirs) len st n
                ∙ ih.0,
            rw n (omega (arith, ih.1)),
          )

  skip_to : (k n : ℕ) → k ≤ n → n ≤ 8 → ((i : ℕ) → k ≤ i → i < n → inflow_in g outlets x (dir_at i) ≡ none)
      → (turn_to squares rule g outlets (drop k dirs) x len st ≡ turn_to squares rule g outlets (drop n dirs) x len st)
      × (cells_in g outlets (drop k dirs) x ≡ cells_in g outlets (drop n dirs) x)
  skip_to k n h l f =
      let e : k + (n - k) ≡ n = omega arith in
      rw e at (skip (n - k) k (omega arith) (λ i a b. f i a (omega arith)))

module _ {rows cols : ℕ} {codes outlets subaccumulations : List ℕ}
    (ready : Ready rows cols codes outlets subaccumulations) (met : Which Dir) (dropping : Bool)
    {row col : ℕ} {len : Length} {k : ℕ} {p : Progress} {old : List ℕ}
    (inflows : InflowsReady rows cols codes outlets row col len k p old) where
  abbrev g : Grid
  g = grid_of rows cols codes

  abbrev rule : Rule squares
  rule = tracing_rule squares met dropping

  abbrev sub : ℕ → ℕ
  sub z = subaccumulation g outlets z

  abbrev x : ℕ
  x = row * cols + col

  abbrev st : State squares
  st = state_of p old 4096

  -- none is left
  pub inflows_done : NoneThere rows cols codes outlets row col k 8
      → InflowsTraced rows cols codes outlets met dropping row col len k p old p old
  unfolding cells_in
  inflows_done f = let t = skip_to rule g outlets x len st k 8 inflows.within (omega arith) f in record {
    state = sym (t.0 ∙ turn_done squares rule g outlets x len st);
    room = inflows.room;
    counted = record { cells_done = omega (arith, t.1); few_paths = inflows.bounded.few_paths };
  }

  -- the neighbour that is turned to
  module _ {t : Turn} (next : IsNext rows cols codes outlets subaccumulations row col k t) where
    turned : (turn_to squares rule g outlets (drop k dirs) x len st
        ≡ turn_to squares rule g outlets (drop t.k dirs) x len st)
        × (cells_in g outlets (drop k dirs) x ≡ cells_in g outlets (drop t.k dirs) x)
    turned = skip_to rule g outlets x len st k t.k next.from (omega arith) next.skipped

    abbrev y : ℕ
    y = t.cell.row * cols + t.cell.col

    found : Found g outlets x (dir_at t.k) y
    found = found_in g outlets x (dir_at t.k) y next.there

    solid : ground g y ≡ true
    solid = found_ground g outlets x (dir_at t.k) y found

    -- its cells are some of those that are left
    left_cells : cells_in g outlets (drop k dirs) x ≡ sub y + cells_in g outlets (drop (t.k + 1) dirs) x
    unfolding cells_in
    left_cells = turned.1 ∙ rw (dirs_from t.k next.last, next.there, add-one t.k)

    inside : y < rows * cols
    inside = digits_lt next.row_in next.col_in

    -- its cells and its step, as the source has them
    pub cells_lent : t.cells ≡ cells_held (get_or subaccumulations y 0)
    cells_lent = ap (λ (u : Turn). u.cells) next.is_turn

    pub cells_are : t.cells ≡ sub y
    cells_are = cells_lent ∙ ready.filled y inside

    step_is : plus_step len t.step ≡ plus_step len (step_of (opposite (dir_at t.k)))
    step_is = ap (λ (u : Turn). plus_step len u.step) next.is_turn

    -- it has fewer cells than the cell it flows to
    pub fewer : t.cells < sub x
    fewer = omega (
      arith,
      cells_are,
      left_cells,
      cells_from_lem g outlets x k dirs,
      cells_above_lem g ready.lent ready.agreed outlets x inflows.solid,
    )

    pub small_cells : p.dropped + t.cells ≤ 4096
    small_cells = omega (arith, cells_are, left_cells, inflows.bounded.cells_fit)

    pub small_len : len.straight + len.diagonal < 4096
    small_len = omega (arith, inflows.bounded.steps_fit)

    opened : turn_to squares rule g outlets (drop k dirs) x len st
        ≡ turn_to squares rule g outlets (dir_at t.k ∷ drop (t.k + 1) dirs) x len st
    opened = turned.0 ∙ ap (λ ds. turn_to squares rule g outlets ds x len st) (dirs_from t.k next.last ∙ rw (add-one t.k))

    module _ {own : Length} (is-own : own ≡ plus_step len t.step) where
      own_steps : own.straight + own.diagonal ≡ len.straight + len.diagonal + 1
      own_steps = ap (λ (l : Length). l.straight + l.diagonal) is-own ∙ one_step len t.step

      -- what the drop test asks
      pub testable : (own.diagonal ≤ 2 ^ 24) × (0 < t.cells) × (t.cells ≤ 2 ^ 24)
      testable = (
        omega (arith, own_steps, small_len),
        omega (arith, cells_are, sub_size g ready.lent ready.agreed outlets y solid),
        omega (arith, small_cells),
      )

    module _ {own : Length} (is-own : own ≡ plus_step len t.step) {b : Bool}
        (tests : b ≡ (dropping && is_below (farthest square_cells own (t.cells - 1)) p)) where
      test : b ≡ drops squares rule (starts_of p old 4096) len (opposite (dir_at t.k)) (sub y)
      test = tests ∙ drops_by dropping p old 4096 own t.cells
          ∙ ap (drops_at dropping (starts_of p old 4096) own) cells_are
          ∙ ap (λ (l : Length). drops_at dropping (starts_of p old 4096) l (sub y)) (is-own ∙ step_is)

      -- it is dropped
      abbrev less : Progress
      less = record { greatest = p.greatest; paths = p.paths; visited = p.visited; dropped = p.dropped + t.cells }

      pub drop_ready : InflowsReady rows cols codes outlets row col len (t.k + 1) less old
      drop_ready = let u = inflows.bounded in record {
        room = inflows.room;
        row_in = inflows.row_in;
        col_in = inflows.col_in;
        solid = inflows.solid;
        within = omega arith;
        bounded = record {
          cells_fit = omega (arith, cells_are, left_cells);
          steps_fit = omega (arith, left_cells);
          few_paths = u.few_paths;
        };
      }

      pub drop_traced : b ≡ true → (r : Progress) (new : List ℕ)
          → InflowsTraced rows cols codes outlets met dropping row col len (t.k + 1) less old r new
          → InflowsTraced rows cols codes outlets met dropping row col len k p old r new
      drop_traced e r new i = record {
        state = i.state ∙ sym (opened ∙ turn_drops squares rule g outlets x (dir_at t.k) (drop (t.k + 1) dirs)
            len st ready.lent ready.agreed y found (sym test ∙ e)
            ∙ ap (λ (m : ℕ). turn_to squares rule g outlets (drop (t.k + 1) dirs) x len (drop_cells squares st m))
            (sym cells_are));
        room = i.room;
        counted = record {
          cells_done = omega (arith, i.counted.cells_done, cells_are, left_cells);
          few_paths = i.counted.few_paths;
        };
      }

      -- it is traced
      module _ (e : b ≡ false) where
        pub cell_ready : CellReady rows cols codes outlets t.cell.row t.cell.col own p old
        cell_ready = let u = inflows.bounded in record {
          room = inflows.room;
          row_in = next.row_in;
          col_in = next.col_in;
          solid = solid;
          bounded = record {
            cells_fit = omega (arith, left_cells);
            steps_fit = omega (arith, left_cells, own_steps is-own);
            few_paths = u.few_paths;
          };
        }

        module _ {q : Progress} {mid : List ℕ}
            (c : CellTraced rows cols codes outlets met dropping t.cell.row t.cell.col own p old q mid) where
          pub rest_ready : InflowsReady rows cols codes outlets row col len (t.k + 1) q mid
          rest_ready = let u = inflows.bounded in record {
            room = c.room;
            row_in = inflows.row_in;
            col_in = inflows.col_in;
            solid = inflows.solid;
            within = omega arith;
            bounded = record {
              cells_fit = omega (arith, left_cells, c.counted.cells_done);
              steps_fit = omega (arith, left_cells);
              few_paths = c.counted.few_paths;
            };
          }

          pub rest_traced : (r : Progress) (new : List ℕ)
              → InflowsTraced rows cols codes outlets met dropping row col len (t.k + 1) q mid r new
              → InflowsTraced rows cols codes outlets met dropping row col len k p old r new
          rest_traced r new i = record {
            state = i.state ∙ ap (turn_to squares rule g outlets (drop (t.k + 1) dirs) x len) (c.state
                ∙ ap (λ (l : Length). enter squares rule g outlets y l st) (is-own ∙ step_is))
                ∙ sym (opened ∙ turn_enters squares rule g outlets x (dir_at t.k) (drop (t.k + 1) dirs) len st
                ready.lent ready.agreed y found (sym test ∙ e));
            room = i.room;
            counted = record {
              cells_done = omega (arith, i.counted.cells_done, c.counted.cells_done, left_cells);
              few_paths = i.counted.few_paths;
            };
          }
