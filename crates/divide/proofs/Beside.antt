-- Has a cell a neighbour that is off the grid or not noted as inside? By the directions in order, and at the border.
-- Assumes nothing.
use mathlib.Core.Path.{◌≡◌, refl, sym, ap, ap₂, ◌∙◌}
use mathlib.Core.Bool.{Bool, true, ◌||◌, or-true}
use mathlib.Core.Logic.{inl, inr}
use mathlib.Core.List.{List, [], ◌∷◌}
use mathlib.Core.Option.{Option as Maybe, none, some}
use Prim.Native.Nat.{ℕ, ◌+◌, ◌*◌, ◌≤◌, ◌<◌, ◌^◌}
use native.Mathlib.Omega.{arith}
use native.Mathlib.Decide.{dec_lt}
use Rattle.std.specs.List.{list_any, range_with_len}
use lib.ListN.{get_or}
use lib.Dec.{ltb}
use Rattle.lists.specs.Lists.{In}
use Rattle.ground.specs.Compass.{Dir, E, S, W, N, dirs, row_shift, col_shift}
use Rattle.ground.specs.Grid.{Grid, grid_of, neighbour}
use Rattle.ground.proofs.Tables.{all_dirs}
use Rattle.std.specs.Prelude.{None}
use Rattle.moves.specs.Lent.{OnCell}
use Rattle.moves.specs.Moves.{Spotted, shift_number, dir_at}
use Rattle.moves.proofs.Spots.{lies, low_row, low_col, high_row, high_col}
use Rattle.inflows.specs.declared.Beside.{Beside}
use Rattle.inflows.specs.Values.{Inner, LiesBeside}
use Rattle.divide.specs.Divides.{is_outside, outside_in, beside_outside}

-- ---- by the eight neighbours

module _ (g : Grid) (grid : List ℕ) (x : ℕ) where
  -- one of them is enough
  outside_there : (d : Dir) (ds : List Dir) → In d ds → is_outside grid (neighbour g x d) ≡ true
      → outside_in g grid x ds ≡ true
  outside_there d [] i e = absurd i
  outside_there d (y ∷ ds) (inl q) e = rw (ap (λ (z : Dir). is_outside grid (neighbour g x z)) (sym q) ∙ e)
  outside_there d (y ∷ ds) (inr i) e = rw (outside_there d ds i e) (or-true (is_outside grid (neighbour g x y)))

  beside_there : (d : Dir) → is_outside grid (neighbour g x d) ≡ true → beside_outside g grid x ≡ true
  unfolding beside_outside
  beside_there d e = outside_there d dirs (all_dirs d) e

-- by which words are below 2³¹ and no more
module _ (g : Grid) (a b : List ℕ) (x : ℕ)
    (same : (y : ℕ) → ltb (get_or a y 0) (2 ^ 31) ≡ ltb (get_or b y 0) (2 ^ 31)) where
  outside_same : (o : Maybe ℕ) → is_outside a o ≡ is_outside b o
  outside_same none = refl
  outside_same (some y) = same y

  outsides_same : (ds : List Dir) → outside_in g a x ds ≡ outside_in g b x ds
  outsides_same [] = refl
  outsides_same (d ∷ ds) = ap₂ ◌||◌ (outside_same (neighbour g x d)) (outsides_same ds)

  pub beside_same : beside_outside g a x ≡ beside_outside g b x
  unfolding beside_outside
  beside_same = outsides_same dirs

-- ---- AN INNER CELL, by the directions in order

-- the word of a neighbour tells whether it is outside
pub beside_word : {rows cols row col k : ℕ} {codes : List ℕ} {r : Beside} → LiesBeside rows cols codes row col k r
    → (grid : List ℕ) → ltb (get_or grid r.at 0) (2 ^ 31)
    ≡ is_outside grid (neighbour (grid_of rows cols codes) (row * cols + col) (dir_at k))
beside_word p grid = ap (is_outside grid) (sym p.is_there)

-- and one that is outside is enough
pub beside_any : (g : Grid) (grid : List ℕ) (x : ℕ) {b : Bool}
    → b ≡ list_any (λ k. is_outside grid (neighbour g x (dir_at k))) (range_with_len 0 8) → b ≡ beside_outside g grid x
unfolding beside_outside
beside_any g grid x e = e

-- ---- A BORDER CELL has a neighbour off the grid

module _ {rows cols row col : ℕ} {codes : List ℕ} (on : OnCell rows cols codes row col) (grid : List ℕ) where
  border : (d : Dir) → Spotted rows cols row col (shift_number (row_shift d)) (shift_number (col_shift d)) None
      → true ≡ beside_outside (grid_of rows cols codes) grid (row * cols + col)
  border d s = sym (beside_there (grid_of rows cols codes) grid (row * cols + col) d
      (ap (is_outside grid) (lies s codes on.col_in d refl refl)))

  first_row : row < 1 → true ≡ beside_outside (grid_of rows cols codes) grid (row * cols + col)
  first_row h = border N (low_row (omega arith))

  last_row : rows ≤ row + 1 → true ≡ beside_outside (grid_of rows cols codes) grid (row * cols + col)
  last_row h = border S (high_row on.row_in (omega arith))

  first_col : col < 1 → true ≡ beside_outside (grid_of rows cols codes) grid (row * cols + col)
  first_col h = border W (low_col (omega arith))

  last_col : cols ≤ col + 1 → true ≡ beside_outside (grid_of rows cols codes) grid (row * cols + col)
  last_col h = border E (high_col on.col_in (omega arith))

  -- so has each that is not an inner one
  pub off_inner : (Inner rows cols row col → ⊥) → true ≡ beside_outside (grid_of rows cols codes) grid (row * cols + col)
  off_inner f = elim (dec_lt row 1) [
    | yes h ↦ first_row h
    | no a ↦ elim (dec_lt (row + 1) rows) [
      | no h ↦ last_row (omega arith)
      | yes b ↦ elim (dec_lt col 1) [
        | yes h ↦ first_col h
        | no c ↦ elim (dec_lt (col + 1) cols) [
          | no h ↦ last_col (omega arith)
          | yes d ↦ absurd (f (record { has_above = omega arith; has_below = b; has_left = omega arith; has_right = d }))
        ]
      ]
    ]
  ]
