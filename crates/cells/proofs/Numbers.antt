-- Row and column of a cell by its number.
-- Assumes nothing.
use mathlib.Core.Path.{◌≡◌, sym, ap, ◌∙◌}
use Prim.Native.Nat.{ℕ, ◌*◌, ◌/◌, ◌%◌, ◌<◌}
use native.Mathlib.Nat.{div-add-mod', mod-lt, div-lt_iff_lt-mul}
use native.Mathlib.Omega.{arith}
use lib.Arith.{digits_div, digits_mod}
use Rattle.cells.specs.Numbers.{RowAndColumn}

-- they are quotient and remainder
pub divided : (number : ℕ) {cols : ℕ} → 0 < cols → RowAndColumn cols number (number / cols) (number % cols)
divided number {cols} some_cols = record { is_number = div-add-mod' number cols; col_in = mod-lt number some_cols }

module _ {cols number row col : ℕ} (cell : RowAndColumn cols number row col) where
  -- and nothing else is
  pub is_row_lem : row ≡ number / cols
  is_row_lem = sym (digits_div row cell.col_in) ∙ ap (λ (n : ℕ). n / cols) cell.is_number

  pub is_col : col ≡ number % cols
  is_col = sym (digits_mod row cell.col_in) ∙ ap (λ (n : ℕ). n % cols) cell.is_number

  -- a number below R × C has its row on the grid
  pub row_inside : {rows : ℕ} → number < rows * cols → row < rows
  row_inside {rows} h =
      let some_cols : 0 < cols = omega (arith, cell.col_in) in
      omega (arith, is_row_lem, (div-lt_iff_lt-mul some_cols).1 h)
