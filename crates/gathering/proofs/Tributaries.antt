-- What flows into a cell and is no outlet: direction by direction, and by the walk.
-- Assumes nothing.
use mathlib.Core.Path.{◌≡◌, refl, sym, ap, ◌∙◌, subst}
use mathlib.Core.Bool.{true, false}
use mathlib.Core.Logic.{inl, inr}
use mathlib.Core.List.{List, [], ◌∷◌, ◌++◌, map}
use mathlib.Core.Option.{Option as Maybe, none, some}
use Prim.Native.Nat.{ℕ, ◌+◌, ◌*◌, ◌≤◌, ◌<◌}
use native.Mathlib.Numerals.{add-one}
use native.Mathlib.Omega.{arith}
use lib.ListN.{length, take, drop, length-append, take-append-drop}
use lib.Seq.{take-suc}
use Rattle.lists.specs.Lists.{In, member, sum_of}
use Rattle.ground.specs.Compass.{Dir, NE, dirs, opposite}
use Rattle.ground.specs.Grid.{Grid, Link, grid_of, ground, code_at, next, flows_in}
use Rattle.ground.specs.Tables.{points_in}
use Rattle.ground.specs.Accumulation.{subaccumulation}
use Rattle.ground.proofs.Tables.{all_dirs}
use Rattle.ground.proofs.Cells.{opposite_twice, flow_points}
use Rattle.ground.proofs.GridNetwork.{stepped, next_back, inflow_next}
use Rattle.std.specs.Prelude.{Option, Some, None}
use Rattle.cells.specs.declared.Cell.{Cell}
use Rattle.moves.specs.Moves.{dir_at}
use Rattle.moves.specs.Walks.{FlowsFrom}
use Rattle.search.specs.Neighbours.{inflow_in, cells_in}
use Rattle.search.proofs.Neighbours.{found_in}
use Rattle.upstream.proofs.Turning.{turns_is}
use Rattle.gathering.specs.Gathering.{with_some, tributaries}

some_append : (o : Maybe ℕ) (xs ys : List ℕ) → with_some o (xs ++ ys) ≡ with_some o xs ++ ys
some_append none xs ys = refl
some_append (some y) xs ys = refl

module _ (g : Grid) (outlets : List ℕ) (x : ℕ) where
  abbrev from : List Dir → List ℕ
  from ds = tributaries g outlets x ds

  -- ---- one direction after the other

  from_append : (ds es : List Dir) → from (ds ++ es) ≡ from ds ++ from es
  unfolding tributaries
  from_append [] es = refl
  from_append (d ∷ ds) es = ap (with_some (inflow_in g outlets x d)) (from_append ds es)
      ∙ some_append (inflow_in g outlets x d) (from ds) (from es)

  from_none : (d : Dir) → inflow_in g outlets x d ≡ none → from (d ∷ []) ≡ []
  unfolding tributaries
  from_none d e = rw e

  from_some : (d : Dir) (y : ℕ) → inflow_in g outlets x d ≡ some y → from (d ∷ []) ≡ y ∷ []
  unfolding tributaries
  from_some d y e = rw e

  pub from_first : from (take 0 dirs) ≡ []
  unfolding tributaries
  from_first = refl

  pub from_next : (k : ℕ) → k < 8 → from (take (k + 1) dirs) ≡ from (take k dirs) ++ from (dir_at k ∷ [])
  from_next k h = ap (λ (n : ℕ). from (take n dirs)) (add-one k) ∙ ap from (take-suc dirs k NE h)
      ∙ from_append (take k dirs) (dir_at k ∷ [])

  pub from_few : (k : ℕ) → length (from (take k dirs)) ≤ length (from dirs)
  from_few k = omega (
    arith,
    ap (λ (ds : List Dir). length (from ds)) (take-append-drop k dirs),
    ap length (from_append (take k dirs) (drop k dirs)),
    length-append (from (take k dirs)) (from (drop k dirs)),
  )

  -- their cells are those above the cell
  pub from_cells : (ds : List Dir) → sum_of (map (subaccumulation g outlets) (from ds)) ≡ cells_in g outlets ds x
  unfolding tributaries cells_in sum_of
  from_cells [] = refl
  from_cells (d ∷ ds) = go (inflow_in g outlets x d) refl (from_cells ds)
    where
      go : (o : Maybe ℕ) → inflow_in g outlets x d ≡ o
          → sum_of (map (subaccumulation g outlets) (from ds)) ≡ cells_in g outlets ds x
          → sum_of (map (subaccumulation g outlets) (from (d ∷ ds))) ≡ cells_in g outlets (d ∷ ds) x
      go none e ih = rw e (omega arith)
      go (some y) e ih = rw e (omega arith)

  -- ---- by the walk

  in_from : (y : ℕ) (d : Dir) → inflow_in g outlets x d ≡ some y → (ds : List Dir) → In d ds → In y (from ds)
  unfolding tributaries
  in_from y d e [] i = absurd i
  in_from y d e (f ∷ ds) (inl q) = rw (ap (inflow_in g outlets x) (sym q) ∙ e) (inl refl)
  in_from y d e (f ∷ ds) (inr i) = go (inflow_in g outlets x f) (in_from y d e ds i)
    where
      go : (o : Maybe ℕ) → In y (from ds) → In y (with_some o (from ds))
      go none j = j
      go (some z) j = inr j

  from_in : (y : ℕ) (ds : List Dir) → In y (from ds) → (d : Dir) × (inflow_in g outlets x d ≡ some y)
  unfolding tributaries
  from_in y [] i = absurd i
  from_in y (d ∷ ds) i = go (inflow_in g outlets x d) refl (from_in y ds) i
    where
      go : (o : Maybe ℕ) → inflow_in g outlets x d ≡ o
          → (In y (from ds) → (e : Dir) × (inflow_in g outlets x e ≡ some y)) → In y (with_some o (from ds))
          → (e : Dir) × (inflow_in g outlets x e ≡ some y)
      go none e ih j = ih j
      go (some z) e ih (inl q) = (d, e ∙ ap some (sym q))
      go (some z) e ih (inr j) = ih j

  -- a tributary of a cell of ground flows to it and is no outlet
  pub record Joins (y : ℕ) : Type 0 where
    pub step : Dir
    pub flows : next g y ≡ some (record { cell = x; step = step })
    pub not_outlet : member y outlets ≡ false

  pub joins : ground g x ≡ true → (y : ℕ) → In y (from dirs) → Joins y
  joins v y i =
      let p = from_in y dirs i in
      let f = found_in g outlets x p.0 y p.1 in
      record {
        step = opposite p.0;
        flows = inflow_next g x p.0 y v f.there f.flows;
        not_outlet = f.not_outlet;
      }

-- and each that does is one
pub joined : (g : Grid) (outlets : List ℕ) (y : ℕ) (h : Link Dir) → next g y ≡ some h → member y outlets ≡ false
    → In y (tributaries g outlets h.cell dirs)
unfolding inflow_in
joined g outlets y h e o = in_from g outlets h.cell y (opposite h.step) there dirs (all_dirs (opposite h.step))
  where
    back : flows_in g (opposite h.step) (some y) ≡ true
    back =
        let s = stepped g y h e in
        subst (λ (d : Dir). points_in g.table d (code_at g y) ≡ true) (s.is_step ∙ sym (opposite_twice h.step))
        (flow_points g s.dir y s.flows)

    there : inflow_in g outlets h.cell (opposite h.step) ≡ some y
    there = rw (next_back g y h e, back, o)

-- ---- as the code finds them: a neighbour that flows in, if it is no outlet

module _ {rows cols : ℕ} {codes : List ℕ} {row col k : ℕ} (outlets : List ℕ) {s : Option Cell}
    (p : FlowsFrom rows cols codes row col k s) where
  abbrev x : ℕ
  x = row * cols + col

  abbrev land : Grid
  land = grid_of rows cols codes

  pub from_off : s ≡ None → tributaries land outlets x (dir_at k ∷ []) ≡ []
  from_off e = from_none land outlets x (dir_at k) (turns_is outlets p ∙ rw e)

  module _ {y : Cell} (e : s ≡ Some y) where
    pub from_outlet : member (y.row * cols + y.col) outlets ≡ true → tributaries land outlets x (dir_at k ∷ []) ≡ []
    from_outlet o = from_none land outlets x (dir_at k) (turns_is outlets p ∙ rw (e, o))

    pub from_on : member (y.row * cols + y.col) outlets ≡ false
        → tributaries land outlets x (dir_at k ∷ []) ≡ (y.row * cols + y.col) ∷ []
    from_on o = from_some land outlets x (dir_at k) (y.row * cols + y.col) (turns_is outlets p ∙ rw (e, o))
