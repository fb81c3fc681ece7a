-- The inflow record by the numbers of the source: its values, and their sum.
-- Assumes nothing.
use mathlib.Core.Path.{◌≡◌, refl, sym, ap, ◌∙◌}
use mathlib.Core.Bool.{Bool, true, false, cond}
use mathlib.Core.List.{List, [], ◌∷◌}
use mathlib.Core.Option.{Option as Maybe, none, some}
use Prim.Native.Nat.{ℕ, ◌+◌, ◌-◌, ◌*◌, ◌<◌}
use native.Mathlib.Omega.{arith}
use Rattle.std.specs.List.{sum_by}
use Rattle.std.proofs.lemmas.List.Sums.{sum_by_from}
use lib.ListN.{length, get_or}
use lib.Seq.{ext_get_or}
use lib.Dec.{eqb}
use Rattle.lists.specs.Lists.{sum_of}
use Rattle.lists.proofs.Lists.{get_d_map}
use Rattle.ground.specs.Compass.{Dir, NE, dirs, opposite}
use Rattle.ground.specs.Tables.{table1}
use Rattle.ground.specs.Grid.{Grid, grid_of, neighbour, flows_in, inflow_value, inflow_record}
use Rattle.ground.proofs.Cells.{code_inside}
use Rattle.std.specs.Prelude.{Option, Some, None}
use Rattle.cells.specs.declared.Cell.{Cell}
use Rattle.moves.specs.declared.Neighbour.{Neighbour}
use Rattle.moves.specs.Lent.{OnCell}
use Rattle.moves.specs.Moves.{Spotted, spot_cell, dir_at, neighbour_of}
use Rattle.moves.specs.Walks.{if_flows_in, inflow_from, FlowsFrom}
use Rattle.moves.proofs.Spots.{on_grid, spot_inside, neighbour_in_reach, lies, row_is, col_is}
use Rattle.inflows.specs.declared.Beside.{Beside}
use Rattle.inflows.specs.Values.{HasCell, Inner, InnerOn, LiesBeside, value_at}

-- one value, by the neighbour that is found
module _ {rows cols : ℕ} {codes accumulation : List ℕ} {row col : ℕ}
    (has : HasCell rows cols codes accumulation row col) (k : ℕ) where
  abbrev land : Grid
  land = grid_of rows cols codes

  -- what the neighbour has that flows in, and 0 where there is none
  abbrev value_of : Maybe ℕ → ℕ
  value_of o = elim o [ none ↦ 0 | some y ↦ get_or accumulation y 0 ]

  value_of_lem : (o : Maybe ℕ) → inflow_value land accumulation (dir_at k) o ≡ value_of (if_flows_in land (dir_at k) o)
  value_of_lem none = refl
  value_of_lem (some y) = go (flows_in land (dir_at k) (some y)) refl
    where
      go : (b : Bool) → flows_in land (dir_at k) (some y) ≡ b
          → inflow_value land accumulation (dir_at k) (some y) ≡ value_of (if_flows_in land (dir_at k) (some y))
      go true e = rw e
      go false e = rw e

  module _ {s : Option Cell} (p : FlowsFrom rows cols codes row col k s) where
    value_is : value_at land accumulation (row * cols + col) k ≡ value_of (spot_cell cols s)
    unfolding inflow_from
    value_is = value_of_lem (neighbour land (row * cols + col) (dir_at k)) ∙ ap value_of (sym p.is_cell)

    pub value_off : s ≡ None → 0 ≡ value_at (grid_of rows cols codes) accumulation (row * cols + col) k
    value_off e = sym (value_is ∙ rw e)

    pub value_in : {x : Cell} → s ≡ Some x
        → get_or accumulation (x.row * cols + x.col) 0 ≡ value_at (grid_of rows cols codes) accumulation (row * cols + col) k
    value_in e = sym (value_is ∙ rw e)

-- a neighbour of an inner cell is on the grid
module _ {rows cols : ℕ} {codes : List ℕ} {row col : ℕ} (on : OnCell rows cols codes row col)
    (i : Inner rows cols row col) (k : ℕ) {n : Neighbour} (is-n : n ≡ neighbour_of (dir_at k)) where
  pub inner_spot : Spotted rows cols row col n.row n.col
      (Some (record { row = row + n.row - 1; col = col + n.col - 1 }))
  inner_spot =
      let r = neighbour_in_reach on k is-n in
      on_grid (omega (arith, i.has_above)) (omega (arith, i.has_left))
      (omega (arith, i.has_below, r.down_small)) (omega (arith, i.has_right, r.right_small))

  pub inner_inside : (row + n.row - 1) * cols + (col + n.col - 1) < rows * cols
  inner_inside = spot_inside inner_spot refl

-- NEIGHBOUR k OF AN INNER CELL, and what it has
module _ {rows cols : ℕ} {codes : List ℕ} {row col : ℕ} (i : InnerOn rows cols codes row col) (k : ℕ)
    {n : Neighbour} (is-n : n ≡ neighbour_of (dir_at k)) where
  abbrev there : ℕ
  there = (row + n.row - 1) * cols + (col + n.col - 1)

  there_is : neighbour (grid_of rows cols codes) (row * cols + col) (dir_at k) ≡ some there
  there_is = lies (inner_spot i.on i.inner k is-n) codes i.on.col_in (dir_at k) (row_is i.on k is-n)
      (col_is i.on k is-n)

  pub beside : LiesBeside rows cols codes row col k (record {
    at = (row + n.row - 1) * cols + (col + n.col - 1);
    flows = eqb (get_or codes ((row + n.row - 1) * cols + (col + n.col - 1)) 0) n.back;
  })
  beside =
      let within = inner_inside i.on i.inner k is-n in
      record {
        inside = within;
        is_there = there_is;
        is_inflow = sym (ap (flows_in (grid_of rows cols codes) (dir_at k)) there_is
            ∙ ap (λ (x : ℕ). eqb x (table1.code_of (opposite (dir_at k))))
            (code_inside (grid_of rows cols codes) there within)
            ∙ ap (eqb (get_or codes there 0)) (sym (ap (λ (m : Neighbour). m.back) is-n)));
      }

module _ {rows cols row col k : ℕ} {codes : List ℕ} {r : Beside} (p : LiesBeside rows cols codes row col k r)
    (accumulation : List ℕ) where
  -- by the number that is loaded
  value_beside : (b : Bool) → r.flows ≡ b
      → value_at (grid_of rows cols codes) accumulation (row * cols + col) k ≡ cond b (get_or accumulation r.at 0) 0
  value_beside b e =
      ap (inflow_value (grid_of rows cols codes) accumulation (dir_at k)) p.is_there
      ∙ ap (λ (t : Bool). cond t (get_or accumulation r.at 0) 0)
      (sym (ap (flows_in (grid_of rows cols codes) (dir_at k)) p.is_there) ∙ sym p.is_inflow ∙ e)

  pub beside_away : r.flows ≡ false → 0 ≡ value_at (grid_of rows cols codes) accumulation (row * cols + col) k
  beside_away e = sym (value_beside false e)

  pub beside_in : r.flows ≡ true
      → get_or accumulation r.at 0 ≡ value_at (grid_of rows cols codes) accumulation (row * cols + col) k
  beside_in e = sym (value_beside true e)

-- the record from its values
pub record_is : (g : Grid) (accumulation : List ℕ) (x : ℕ) (values : List ℕ) → length values ≡ 8
    → ((j : ℕ) → j < 8 → get_or values j 0 ≡ value_at g accumulation x j) → values ≡ inflow_record g accumulation x
unfolding inflow_record
record_is g accumulation x values e h = ext_get_or 0 values (inflow_record g accumulation x) e
    (λ i b. h i (omega arith) ∙ sym (get_d_map value dirs i NE (omega arith)))
  where
    value : Dir → ℕ
    value d = inflow_value g accumulation d (neighbour g x d)

-- the library's sum
pub sum_is : (xs : List ℕ) → sum_by (λ x. x) xs ≡ sum_of xs
unfolding sum_of
sum_is [] = refl
sum_is (x ∷ xs) = omega (arith, sum_by_from (λ y. y) (0 + x) xs, sum_is xs)
