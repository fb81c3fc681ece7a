-- The cell that a shift of row and of column leads to, test by test; the neighbours in order.
-- Assumes nothing.
use mathlib.Core.Path.{◌≡◌, refl, sym, ap, ◌∙◌}
use mathlib.Core.List.{List}
use mathlib.Core.Option.{Option as Maybe, none, some}
use Prim.Native.Nat.{ℕ, zero, suc, ◌+◌, ◌-◌, ◌*◌, ◌≤◌, ◌<◌}
use native.Mathlib.Nat.{mul-le-mul}
use native.Mathlib.Omega.{arith}
use lib.Arith.{digits_lt}
use borrow.Author.Tests.{lt-ltb, le-ltb}
use Rattle.std.specs.Prelude.{Option, Some, None}
use Rattle.std.proofs.lemmas.Option.{none-some}
use Rattle.cells.specs.declared.Cell.{Cell}
use Rattle.moves.specs.declared.Neighbour.{Neighbour}
use Rattle.ground.specs.Compass.{Dir, Shift, less, as_is, more, shifted, row_shift, col_shift}
use Rattle.ground.specs.Grid.{grid_of, cell_at, neighbour}
use Rattle.ground.proofs.Cells.{neighbour_at}
use Rattle.moves.specs.Lent.{Sides, OnCell}
use Rattle.moves.specs.Moves.{shift_number, InReach, spot_cell, Spotted, dir_at, neighbour_of}

-- ---- sizes

-- the largest grid has 2 ^ 24 cells
pub size : {rows cols : ℕ} → Sides rows cols → rows * cols ≤ 4096 * 4096
size s = mul-le-mul s.rows_small s.cols_small

pub inside : {rows cols row col : ℕ} {codes : List ℕ} → OnCell rows cols codes row col
    → row * cols + col < rows * cols
inside o = digits_lt o.row_in o.col_in

-- ---- a row or a column shifted, by the shift's number

pub shift_le : (s : Shift) → shift_number s ≤ 2
shift_le less = omega arith
shift_le as_is = omega arith
shift_le more = omega arith

shift_on : (s : Shift) (bound x : ℕ) → 1 ≤ x + shift_number s → x + shift_number s - 1 < bound
    → shifted s bound x ≡ some (x + shift_number s - 1)
shift_on less bound zero p q = absurd (omega arith)
shift_on less bound (suc x) p q = ap some (omega arith)
shift_on as_is bound x p q = ap some (omega arith)
shift_on more bound x p q = rw (lt-ltb (suc x) bound (omega arith)) (ap some (omega arith))

shift_low : (s : Shift) (bound x : ℕ) → x + shift_number s < 1 → shifted s bound x ≡ none
shift_low less bound zero p = refl
shift_low less bound (suc x) p = absurd (omega arith)
shift_low as_is bound x p = absurd (omega arith)
shift_low more bound x p = absurd (omega arith)

shift_high : (s : Shift) (bound x : ℕ) → x < bound → bound ≤ x + shift_number s - 1 → shifted s bound x ≡ none
shift_high less bound x h p = absurd (omega arith)
shift_high as_is bound x h p = absurd (omega arith)
shift_high more bound x h p = rw (le-ltb (suc x) bound (omega arith))

no_col : (cols : ℕ) (o : Maybe ℕ) → none ≡ cell_at cols o none
no_col cols none = refl
no_col cols (some x) = refl

module _ {rows cols row col down right : ℕ} where
  off : ((d : Dir) → down ≡ shift_number (row_shift d) → right ≡ shift_number (col_shift d)
      → none ≡ cell_at cols (shifted (row_shift d) rows row) (shifted (col_shift d) cols col))
      → Spotted rows cols row col down right None
  off f = record { is_cell = f; row_in = λ x e. absurd (none-some x e); col_in = λ x e. absurd (none-some x e) }

  pub low_row : row + down < 1 → Spotted rows cols row col down right None
  low_row h = off (λ d p q. rw (shift_low (row_shift d) rows row (omega arith)))

  pub low_col : col + right < 1 → Spotted rows cols row col down right None
  low_col h = off (λ d p q. rw (shift_low (col_shift d) cols col (omega arith))
      (no_col cols (shifted (row_shift d) rows row)))

  pub high_row : row < rows → rows ≤ row + down - 1 → Spotted rows cols row col down right None
  high_row b h = off (λ d p q. rw (shift_high (row_shift d) rows row b (omega arith)))

  pub high_col : col < cols → cols ≤ col + right - 1 → Spotted rows cols row col down right None
  high_col b h = off (λ d p q. rw (shift_high (col_shift d) cols col b (omega arith))
      (no_col cols (shifted (row_shift d) rows row)))

  pub on_grid : 1 ≤ row + down → 1 ≤ col + right → row + down - 1 < rows → col + right - 1 < cols
      → Spotted rows cols row col down right (Some (record { row = row + down - 1; col = col + right - 1 }))
  on_grid a b c d = record {
    is_cell = λ e p q.
        rw (
          shift_on (row_shift e) rows row (omega arith) (omega arith),
          shift_on (col_shift e) cols col (omega arith) (omega arith),
          p,
          q,
        );
    row_in = λ x e. let q : row + down - 1 ≡ x.row = cc in omega arith;
    col_in = λ x e. let q : col + right - 1 ≡ x.col = cc in omega arith;
  }

  -- its cell number is the neighbour's, and that of a cell of the grid
  pub lies : {s : Option Cell} → Spotted rows cols row col down right s → (codes : List ℕ) → col < cols
      → (d : Dir) → down ≡ shift_number (row_shift d) → right ≡ shift_number (col_shift d)
      → neighbour (grid_of rows cols codes) (row * cols + col) d ≡ spot_cell cols s
  lies p codes h d u v = neighbour_at (grid_of rows cols codes) row col d h ∙ sym (p.is_cell d u v)

  pub spot_inside : {s : Option Cell} → Spotted rows cols row col down right s → {x : Cell} → s ≡ Some x
      → x.row * cols + x.col < rows * cols
  spot_inside p {x} e = digits_lt (p.row_in x e) (p.col_in x e)

-- ---- the neighbours in order

module _ {rows cols : ℕ} {codes : List ℕ} {row col : ℕ} (on : OnCell rows cols codes row col)
    (k : ℕ) {n : Neighbour} (is-n : n ≡ neighbour_of (dir_at k)) where
  pub row_is : n.row ≡ (neighbour_of (dir_at k)).row
  row_is = ap (λ (m : Neighbour). m.row) is-n

  pub col_is : n.col ≡ (neighbour_of (dir_at k)).col
  col_is = ap (λ (m : Neighbour). m.col) is-n

  pub neighbour_in_reach : InReach rows cols row col n.row n.col
  neighbour_in_reach = record {
    sides = on.grid.sides;
    row_in = on.row_in;
    col_in = on.col_in;
    down_small = omega (arith, shift_le (row_shift (dir_at k)), row_is);
    right_small = omega (arith, shift_le (col_shift (dir_at k)), col_is);
  }
