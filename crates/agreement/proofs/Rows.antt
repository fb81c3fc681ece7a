-- The equation along a row, cell by cell, and over the grid, row by row.
-- Assumes nothing.
use mathlib.Core.Path.{◌≡◌, refl, sym, ap, ◌∙◌}
use mathlib.Core.Bool.{Bool, true, false, ◌&&◌, true≢false}
use mathlib.Core.List.{List}
use Prim.Native.Nat.{ℕ, zero, suc, ◌+◌, ◌-◌, ◌*◌, ◌≤◌, ◌<◌}
use native.Mathlib.Decide.{dec_lt}
use native.Mathlib.Nat.{suc-mul, add-zero, add-suc, le_refl}
use native.Mathlib.Numerals.{add-one}
use native.Mathlib.Omega.{arith}
use borrow.Author.Count.{below_more}
use Rattle.lists.specs.Lists.{all_below}
use Rattle.lists.proofs.Lists.{all_fails}
use Rattle.ground.specs.Grid.{Grid, grid_of, cell_count}
use Rattle.ground.specs.Accumulation.{agrees}
use Rattle.inflows.specs.Values.{HasCell, InnerCell}
use Rattle.agreement.specs.Lent.{LentRow, InnerRow}
use Rattle.agreement.specs.Equation.{agrees_at, AgreesAlong}
use Rattle.agreement.proofs.Cells.{inside}

-- ---- the cells of a lent row

module _ {rows cols row col : ℕ} {codes a : List ℕ} where
  pub has_cell : LentRow rows cols codes a row → col < cols → HasCell rows cols codes a row col
  has_cell r h = record {
    on = record { grid = r.lent.grid; row_in = r.row_in; col_in = h };
    has_accumulation = r.lent.has_accumulation;
  }

  pub inner_cell : InnerRow rows cols codes a row → 1 ≤ col → col + 1 < cols → InnerCell rows cols codes a row col
  inner_cell r h l = record {
    has = has_cell r.has (omega arith);
    inner = record { has_above = r.has_above; has_below = r.has_below; has_left = h; has_right = l };
  }

  -- one where it fails
  pub stops : HasCell rows cols codes a row col → agrees_at (grid_of rows cols codes) a (row * cols + col) ≡ false
      → agrees (grid_of rows cols codes) a ≡ false
  unfolding agrees
  stops h e = all_fails (agrees_at (grid_of rows cols codes) a) (rows * cols) (row * cols + col) (inside h).0 e

-- ---- along a row

module _ {g : Grid} {a : List ℕ} {row : ℕ} where
  module _ {first : ℕ} where
    -- one cell more, and one that fails
    pub along_next : {end : ℕ} {r : Bool} → AgreesAlong g a row first end r
        → agrees_at g a (row * g.cols + end) ≡ true → AgreesAlong g a row first (end + 1) r
    along_next {end} h e = record {
      holds = λ y col p q. below_more (λ (k : ℕ). first ≤ k → agrees_at g a (row * g.cols + k) ≡ true) end
          (λ k l f. h.holds y k f l) (λ f. e) col q p;
      fails = h.fails;
    }

    pub along_fails : {end : ℕ} → agrees g a ≡ false → AgreesAlong g a row first end false
    along_fails e = record { holds = λ y. absurd (true≢false (sym y)); fails = λ y. e }

    -- one cell more, in the answer so far or not
    pub along_with : {end : ℕ} (r here : Bool) → AgreesAlong g a row first end r
        → here ≡ agrees_at g a (row * g.cols + end) → (here ≡ false → agrees g a ≡ false)
        → AgreesAlong g a row first (end + 1) (r && here)
    along_with true true h e f = along_next h (sym e)
    along_with true false h e f = along_fails (f refl)
    along_with false here h e f = along_fails (h.fails refl)

  -- the first cell, the last and those between
  pub along_whole : {r : Bool} → agrees_at g a (row * g.cols + 0) ≡ true
      → agrees_at g a (row * g.cols + (g.cols - 1)) ≡ true → AgreesAlong g a row 1 (g.cols - 1) r
      → AgreesAlong g a row 0 g.cols r
  along_whole e f h = record { holds = λ y. each (h.holds y); fails = h.fails }
    where
      each : ((col : ℕ) → 1 ≤ col → col < g.cols - 1 → agrees_at g a (row * g.cols + col) ≡ true) → (col : ℕ)
          → 0 ≤ col → col < g.cols → agrees_at g a (row * g.cols + col) ≡ true
      each between zero p q = e
      each between (suc col) p q = go (dec_lt (suc col) (g.cols - 1))
        where
          go : Dec (suc col < g.cols - 1) → agrees_at g a (row * g.cols + suc col) ≡ true
          go (yes l) = between (suc col) (omega arith) l
          go (no l) =
              let is : suc col ≡ g.cols - 1 = omega arith in
              ap (λ (k : ℕ). agrees_at g a (row * g.cols + k)) is ∙ f

-- ---- over the grid

-- the equation holds at every cell before one
unfoldable pub AgreesBefore : Grid → List ℕ → ℕ → Type 0
AgreesBefore g a n = all_below (agrees_at g a) n ≡ true

module _ (g : Grid) (a : List ℕ) where
  pub before_none : (n : ℕ) → n ≡ 0 → AgreesBefore g a n
  unfolding AgreesBefore
  before_none n e = rw e

  pub before_row : {row : ℕ} → AgreesBefore g a (row * g.cols) → AgreesAlong g a row 0 g.cols true
      → AgreesBefore g a ((row + 1) * g.cols)
  unfolding AgreesBefore
  before_row {row} h along = rw (add-one row, suc-mul row g.cols) (part g.cols (le_refl g.cols))
    where
      part : (n : ℕ) → n ≤ g.cols → all_below (agrees_at g a) (row * g.cols + n) ≡ true
      part zero l = rw (add-zero (row * g.cols)) h
      part (suc n) l =
          rw (add-suc (row * g.cols) n, along.holds refl n (omega arith) (omega arith)) (part n (omega arith))

  pub before_all : (n : ℕ) → n ≡ cell_count g → AgreesBefore g a n → true ≡ agrees g a
  unfolding AgreesBefore agrees
  before_all n e h = sym (ap (all_below (agrees_at g a)) (sym e) ∙ h)
